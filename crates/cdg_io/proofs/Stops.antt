-- Answers that are faults, and the bytes that were consumed before a read returned none.
use Rattle.std.proofs.Common.{◌≡◌, ℕ, ◌+◌, ◌-◌, ◌^◌, ◌<◌, ◌≤◌, min, inl, inr, None, Some, List, ◌++◌, length, take, sym, ap, ◌∙◌, subst, arith, le_refl, append-nil, length-append, Result, Ok, Err}
use Rattle.std.specs.Prelude.{IsErr, IsErrAnd, OnErr, OnOk, IfOk, IfSome}
use Rattle.std.specs.declared.option.Option.{Option}
use borrow.Rule.Slice.PartMut.{put_mid}
use Rattle.std.proofs.lemmas.Bool.{cases_lt}
use Rattle.std.proofs.lemmas.Slice.{take-put_mid_below}
use Rattle.std.specs.Io.KnownBytes.{Consumes, IsAtEnd}
use Rattle.std.proofs.KnownBytes.{Consumes-trans}
use Rattle.cdg_io.specs.Causes.{Count, FillsRoom, HasCause, Rose, RoseOnce, ReportsEnd, ReportsFault}
use Rattle.cdg_io.specs.Counts.{ReportsRead, kept_counts}
use Rattle.cdg_io.specs.declared.ends.Tally.{Tally}

-- ---- faults

pub on_err : {T E X : Type 0} (r : Result T E) → X → OnErr r X
on_err (Ok value) x = tt
on_err (Err fault) x = x

-- a fault is not a value
pub if_no_value : {T E : Type 0} (P : T → Type 0) (r : Result T E) → IsErr r → IfOk r P
if_no_value P (Ok value) err = (cc)
if_no_value P (Err fault) err = tt

pub on_no_value : {T E : Type 0} (X : Type 0) (r : Result T E) → IsErr r → OnOk r X
on_no_value X (Ok value) err = (cc)
on_no_value X (Err fault) err = tt

-- and a value is not a fault
pub value_is_no_fault : {T E X : Type 0} (value : T) (fault : E) → ◌≡◌ {A = Result T E} (Ok value) (Err fault)
    → X
value_is_no_fault value fault same = absurd (cc)

-- the fault equals the known one
pub known_fault : {T E : Type 0} (r : Result T E) (known : E) → IsErrAnd r (λ fault. fault ≡ known)
    → r ≡ Err known
known_fault (Ok value) known is = absurd is
known_fault (Err fault) known is = ap Err is

-- an answer is not one of two different faults
pub other_fault : {T E X : Type 0} (r : Result T E) (known other : E) → (known ≡ other → ⊥)
    → IsErrAnd r (λ fault. fault ≡ known) → r ≡ Err other
    → X
other_fault (Ok value) known other differ is same = absurd is
other_fault (Err fault) known other differ is same = absurd (differ (cc))

pub failed_cause : {T E : Type 0} (r : Result T E) (before now : ℕ) → IsErr r → before ≤ now → Rose before now
    → HasCause before now r
failed_cause (Ok value) before now err later rose = (cc)
failed_cause (Err fault) before now err later rose = record { later = later; failed = rose; same = tt }

pub failed_end : {E : Type 0} (r : Result ℕ E) (room : ℕ) (before now : Count) → IsErr r → now ≡ before
    → ReportsEnd room before now r
failed_end (Ok count) room before now err same = (cc)
failed_end (Err fault) room before now err same = record { ended = tt; goes_on = tt; failed = same }

pub failed_room : {E : Type 0} (r : Result ℕ E) (room : ℕ) (before now : Count) → IsErr r → now ≡ before
    → FillsRoom room before now r
failed_room (Ok count) room before now err same = (cc)
failed_room (Err fault) room before now err same = record { full = tt; short = tt; failed = same }

-- a failed read counts nothing
pub nothing_read : {E : Type 0} (fault : E) (room : ℕ) (before now : Tally) → now ≡ before
    → ReportsRead {E = E} 1 room (kept_counts before now) (Err fault)
nothing_read fault room before now same = record {
  end = record { ended = tt; goes_on = tt; failed = ap (λ (t : Tally). Some t.ends) same };
  room = record { full = tt; short = tt; failed = ap (λ (t : Tally). Some t.fills) same };
}

-- a read counts from an equal tally and with an equal room
pub read_from : {E : Type 0} (count room room' : ℕ) (before mid now : Tally) → mid ≡ before → room ≡ room'
    → ReportsRead {E = E} 1 room (kept_counts mid now) (Ok count)
    → ReportsRead {E = E} 1 room' (kept_counts before now) (Ok count)
read_from {E} count room room' before mid now same size read =
    subst (λ (t : Tally). ReportsRead {E = E} 1 room' (kept_counts t now) (Ok count)) same
    (subst (λ (k : ℕ). ReportsRead {E = E} 1 k (kept_counts mid now) (Ok count)) size read)

-- ---- counts that were unchanged up to a moment

-- a count that increases by one, or stays at its maximum, has risen
pub rose_by_one : (before now : ℕ) → now ≡ min (before + 1) (2 ^ 64 - 1) → Rose before now
rose_by_one before now more =
    elim (cases_lt before now) [ inl lt ↦ inl lt | inr le ↦ inr (omega (arith, more, le)) ]

pub rose_since : {before mid now : ℕ} → mid ≡ before → Rose mid now → Rose before now
rose_since {before} {mid} {now} same rose = subst (λ (n : ℕ). Rose n now) same rose

pub rose_once_since : {before mid now : Count} → mid ≡ before → RoseOnce mid now → RoseOnce before now
rose_once_since {before} {mid} {now} same rose = subst (λ (n : Count). RoseOnce n now) same rose

pub later_since : {before mid now : ℕ} → mid ≡ before → mid ≤ now → before ≤ now
later_since same later = omega (arith, same, later)

pub later_if_same : {before now : ℕ} → now ≡ before → before ≤ now
later_if_same same = omega (arith, same)

-- the answer is not this fault, and no such fault was counted
pub no_fault : {T E : Type 0} {fault : E} {before now : ℕ} {result : Result T E}
    → (result ≡ Err fault → Rose before now) → now ≡ before → ReportsFault fault before now result
no_fault other same = record { later = later_if_same same; rose = other; same = λ _. same }

-- ---- bytes

-- a read of no bytes consumes nothing more
pub Consumes-still : (a b c : Option (List ℕ)) (bs buf : List ℕ) (n : ℕ) → n ≡ 0 → Consumes a b bs
    → Consumes b c (take n buf)
    → Consumes a c bs
Consumes-still a b c bs buf n zero p q =
    subst (Consumes a c) (ap (λ (k : ℕ). bs ++ take k buf) zero ∙ append-nil bs)
    (Consumes-trans a b c _ _ p q)

pub Consumes-still_in : (a b c : Option (List ℕ)) (at k n : ℕ) (xs ys : List ℕ) → at ≤ length xs → n ≡ 0
    → Consumes a b (take at xs) → Consumes b c (take n ys)
    → Consumes a c (take at (put_mid at k xs ys))
Consumes-still_in a b c at k n xs ys within zero p q =
    subst (Consumes a c) (sym (take-put_mid_below at k xs ys at (le_refl at) within))
    (Consumes-still a b c (take at xs) ys n zero p q)

-- all bytes were consumed
pub Consumes-all : (a b : Option (List ℕ)) (bs : List ℕ) → Consumes a b bs → IsAtEnd b
    → IfSome a (λ all. bs ≡ all)
Consumes-all None b bs p end = tt
Consumes-all (Some xs) None bs p end = absurd p
Consumes-all (Some xs) (Some ys) bs p end = sym (p ∙ ap (λ (l : List ℕ). bs ++ l) end ∙ append-nil bs)

-- if more than n bytes were consumed, the input has more than n bytes
pub Consumes-more : (a b : Option (List ℕ)) (bs : List ℕ) (n : ℕ) → Consumes a b bs → n < length bs
    → IfSome a (λ all. n < length all)
Consumes-more None b bs n p more = tt
Consumes-more (Some xs) None bs n p more = absurd p
Consumes-more (Some xs) (Some ys) bs n p more = omega (arith, more, ap length p, length-append bs ys)
