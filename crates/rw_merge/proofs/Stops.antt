-- A stop and both inputs, if it occurred while a pair of blocks or the end of both was read.
use Rattle.std.proofs.Common.{◌≡◌, ℕ, ◌+◌, ◌*◌, ◌/◌, ◌%◌, ◌<◌, ◌≤◌, List, length, ap, ◌∙◌, inl, inr, arith, length-append}
use Rattle.std.specs.Prelude.{Option, Some, None, Result, Ok, Err, IfSome}
use Rattle.std.specs.Io.KnownBytes.{Consumes, IsAtEnd}
use Rattle.raw_subcode.specs.Sizes.{most_units}
use Rattle.rw_merge.specs.Merging.{FirstIsAtEnd, EndsSecond, IsAnswer}
use Rattle.rw_merge.specs.Steps.{IsEndRead, IsHalfRead, IsPairRead, Taken, taken_of}
use Rattle.rw_merge.specs.declared.merge.Merged.{Merged}
use Rattle.rw_merge.specs.declared.merge.MergeStop.{MergeStop}
use Rattle.rw_merge.specs.declared.merge.MergeStop.TheVariants.{FirstFault, SecondFault, WriteFault, TooLong, Torn, SecondTorn, Unequal}

-- ---- The answer.

-- An input has at least as many bytes as were consumed, and no more if it is at its end.
pub record HasTaken (size taken : ℕ) (left : Option (List ℕ)) : Type 0 where
  pub least : taken ≤ size
  pub at_end : IsAtEnd left → size ≡ taken

half_answer : (blocks a : ℕ) (left : Option (List ℕ)) (us : List ℕ)
    → HasTaken a (blocks * 96 + length us) left → IsHalfRead left us
    → (blocks ≤ a / 96) × (a / 96 ≡ blocks → a % 96 ≡ 0)
half_answer blocks a left us size half =
    elim half [
      | inl whole ↦ (omega (arith, size.least, whole), λ e. absurd (omega (arith, size.least, whole, e)))
      | inr none ↦ let zero_long : length us ≡ 0 = ap length none.0 in
          (omega (arith, size.least, zero_long), λ e. omega (arith, size.at_end none.1, zero_long))
    ]

pub pair_answer : (lead_in blocks a b : ℕ) (left other : Option (List ℕ)) (stop : MergeStop) (us vs : List ℕ)
    → HasTaken a (blocks * 96 + length us) left → HasTaken b (blocks * 96 + length vs) other
    → blocks < most_units
    → IsPairRead blocks (Err stop) (taken_of us left) (taken_of vs other) → IsAnswer lead_in (Err stop) a b
pair_answer lead_in blocks a b left other FirstFault us vs a_is b_is lt read = tt
pair_answer lead_in blocks a b left other SecondFault us vs a_is b_is lt read = tt
pair_answer lead_in blocks a b left other WriteFault us vs a_is b_is lt read = tt
pair_answer lead_in blocks a b left other TooLong us vs a_is b_is lt read = absurd read
pair_answer lead_in blocks a b left other (Torn n) us vs a_is b_is lt (same, some, part, none, end) =
    let zero_long : length vs ≡ 0 = ap length none in
    let first : a ≡ blocks * 96 + length us = a_is.at_end end in
    let second : blocks * 96 + length vs ≤ b = b_is.least in
    (omega arith, omega arith, omega arith, λ e. absurd (omega (arith, e)))
pair_answer lead_in blocks a b left other (SecondTorn n) us vs a_is b_is lt (same, half, some, part, end) =
    let first = half_answer blocks a left us a_is half in
    let second : b ≡ blocks * 96 + length vs = b_is.at_end end in (
      omega arith,
      omega (arith, first.0, same),
      λ e. first.1 (e ∙ same),
      omega arith,
      λ e. absurd (omega (arith, e)),
    )
pair_answer lead_in blocks a b left other (Unequal n) us vs a_is b_is lt (same, more) =
    elim more [
      | inl (long, none, end) ↦
          let first : blocks * 96 + 96 ≤ a = omega (arith, long, a_is.least) in
          let second : b ≡ blocks * 96 = b_is.at_end end ∙ omega (arith, ap length none) in (
            omega arith,
            omega arith,
            λ e. absurd (omega (arith, e)),
            λ e. absurd (omega (arith, e)),
            λ e. omega arith,
          )
      | inr (none, long, end) ↦
          let first : a ≡ blocks * 96 = a_is.at_end end ∙ omega (arith, ap length none) in
          let second : blocks * 96 + 96 ≤ b = omega (arith, long, b_is.least) in (
            omega arith,
            omega arith,
            λ e. absurd (omega (arith, e)),
            λ e. omega arith,
            λ e. absurd (omega (arith, e)),
          )
    ]

pub end_answer : (lead_in blocks a b : ℕ) (left other : Option (List ℕ)) (stop : MergeStop) (us vs : List ℕ)
    → HasTaken a (blocks * 96 + length us) left → HasTaken b (blocks * 96 + length vs) other
    → blocks ≡ most_units
    → IsEndRead (Err stop) (taken_of us left) (taken_of vs other) → IsAnswer lead_in (Err stop) a b
end_answer lead_in blocks a b left other FirstFault us vs a_is b_is all read = tt
end_answer lead_in blocks a b left other SecondFault us vs a_is b_is all read = tt
end_answer lead_in blocks a b left other WriteFault us vs a_is b_is all read = tt
end_answer lead_in blocks a b left other TooLong us vs a_is b_is all read =
    let first : blocks * 96 + length us ≤ a = a_is.least in
    let second : blocks * 96 + length vs ≤ b = b_is.least in (
      omega arith,
      omega arith,
      elim read [ inl (one, none) ↦ inl (omega (arith, one)) | inr (none, one) ↦ inr (omega (arith, one)) ],
    )
end_answer lead_in blocks a b left other (Torn n) us vs a_is b_is all read = absurd read
end_answer lead_in blocks a b left other (SecondTorn n) us vs a_is b_is all read = absurd read
end_answer lead_in blocks a b left other (Unequal n) us vs a_is b_is all read = absurd read

pub taken_exactly : (size taken : ℕ) (left : Option (List ℕ)) → size ≡ taken → HasTaken size taken left
taken_exactly size taken left is = record { least = omega arith; at_end = λ end. is }

-- The number of bytes that were consumed from an input whose bytes are known.
taken_in_turn : (all xs us : List ℕ) (left' left'' : Option (List ℕ)) (n : ℕ) → Consumes (Some all) left' xs
    → Consumes left' left'' us → length xs ≡ n
    → HasTaken (length all) (n + length us) left''
taken_in_turn all xs us None left'' n before now size = absurd before
taken_in_turn all xs us (Some rest) None n before now size = absurd now
taken_in_turn all xs us (Some rest) (Some more) n before now size =
    let first : length all ≡ length xs + length rest = ap length before ∙ length-append xs rest in
    let second : length rest ≡ length us + length more = ap length now ∙ length-append us more in
    record { least = omega arith; at_end = λ end. omega (arith, ap length end) }

-- The answer for both whole inputs follows from what is left of them, if both are known.
pub whole_answer : (P : ℕ → ℕ → Type 0) (left left' left'' other other' other'' : Option (List ℕ))
    (xs ys us vs : List ℕ) (n : ℕ) → Consumes left left' xs → Consumes left' left'' us
    → Consumes other other' ys
    → Consumes other' other'' vs
    → length xs ≡ n → length ys ≡ n
    → ((a b : ℕ) → HasTaken a (n + length us) left'' → HasTaken b (n + length vs) other'' → P a b)
    → IfSome left (λ all. IfSome other (λ every. P (length all) (length every)))
whole_answer P None left' left'' other other' other'' xs ys us vs n before now earlier later size size'
    answer =
    tt
whole_answer P (Some all) left' left'' None other' other'' xs ys us vs n before now earlier later size size'
    answer =
    tt
whole_answer P (Some all) left' left'' (Some every) other' other'' xs ys us vs n before now earlier later size
    size' answer =
    answer (length all) (length every) (taken_in_turn all xs us left' left'' n before now size)
    (taken_in_turn every ys vs other' other'' n earlier later size')

-- ---- The ends, while a pair of blocks is read.

pub first_at_end : (blocks : ℕ) (left : Option (List ℕ)) (second : Taken) (stop : MergeStop) (us : List ℕ)
    → IsPairRead blocks (Err stop) (taken_of us left) second
    → FirstIsAtEnd (Err stop) left
first_at_end blocks left second FirstFault us read = tt
first_at_end blocks left second SecondFault us read = tt
first_at_end blocks left second WriteFault us read = tt
first_at_end blocks left second TooLong us read = tt
first_at_end blocks left second (Torn n) us (same, some, part, none, end) = end
first_at_end blocks left second (SecondTorn n) us read = tt
first_at_end blocks left second (Unequal n) us read = tt

pub second_at_end : (blocks : ℕ) (first : Taken) (other : Option (List ℕ)) (stop : MergeStop) (vs : List ℕ)
    → IsPairRead blocks (Err stop) first (taken_of vs other)
    → EndsSecond (Err stop) other
second_at_end blocks first other FirstFault vs read = tt
second_at_end blocks first other SecondFault vs read = tt
second_at_end blocks first other WriteFault vs read = tt
second_at_end blocks first other TooLong vs read = tt
second_at_end blocks first other (Torn n) vs read = tt
second_at_end blocks first other (SecondTorn n) vs (same, half, some, part, end) = end
second_at_end blocks first other (Unequal n) vs read = tt

-- ---- The same, if nothing more may follow.

pub at_ends_after : (left other : Option (List ℕ)) (result : Result Merged MergeStop) (us vs : List ℕ)
    → IsEndRead result (taken_of us left) (taken_of vs other)
    → FirstIsAtEnd result left × EndsSecond result other
at_ends_after left other (Ok merged) us vs read = (read.2, read.3)
at_ends_after left other (Err FirstFault) us vs read = (tt, tt)
at_ends_after left other (Err SecondFault) us vs read = (tt, tt)
at_ends_after left other (Err WriteFault) us vs read = (tt, tt)
at_ends_after left other (Err TooLong) us vs read = (tt, tt)
at_ends_after left other (Err (Torn n)) us vs read = absurd read
at_ends_after left other (Err (SecondTorn n)) us vs read = absurd read
at_ends_after left other (Err (Unequal n)) us vs read = (tt, tt)

-- ---- A failed write says nothing about the lengths.

pub write_answer : (lead_in : ℕ) (left other : Option (List ℕ))
    → IfSome left (λ xs. IfSome other (λ ys. IsAnswer lead_in (Err WriteFault) (length xs) (length ys)))
write_answer lead_in None other = tt
write_answer lead_in (Some xs) None = tt
write_answer lead_in (Some xs) (Some ys) = tt
