-- The read of a pair of blocks, and the read at the end of both inputs, for each exit.
use Rattle.std.proofs.Common.{◌≡◌, ◌≢◌, ◌⊎◌, ◌∙◌, ℕ, ◌<◌, ◌≤◌, ◌/◌, Bool, true, false, List, [], ◌∷◌, length, take, refl, ap, subst, inl, inr, arith}
use Rattle.std.specs.Prelude.{IfOk, Option, Result, Ok, Err}
use Rattle.std.specs.Io.KnownBytes.{Consumes, IsAtEnd}
use Rattle.std.proofs.KnownBytes.{Consumes-nil}
use Rattle.std.proofs.lemmas.Bool.{cases_lt}
use Rattle.std.proofs.lemmas.List.{length-take, take_all}
use Rattle.cdg_io.specs.Causes.{Count, counted_up}
use Rattle.cdg_io.specs.Change.{Change, change, from_to}
use Rattle.cdg_io.specs.Pump.{RoseBy}
use Rattle.cdg_io.specs.Whole.{ReadsUpTo}
use Rattle.cdg_io.specs.declared.ends.Source.{Ghosts as Source}
use Rattle.rw_merge.specs.Merging.{ReadInput, EndReportedUnlessAhead, read_input}
use Rattle.rw_merge.specs.Steps.{AsksFor, IsHalfRead, ReadsNoMore, ReadsPair}
use Rattle.rw_merge.specs.declared.merge.Merged.{Merged}
use Rattle.rw_merge.specs.declared.merge.MergeStop.{MergeStop}
use Rattle.rw_merge.specs.declared.merge.MergeStop.TheVariants.{FirstFault, SecondFault, TooLong, Torn, SecondTorn, Unequal}

-- an input that is not read
abbrev pub unread : Option (List ℕ) → Count → Count → ReadInput
unread left ends fills =
    record {
      left = from_to left left;
      counts = record { ends = from_to ends ends; fills = from_to fills fills };
    }

-- the clauses of `fill`, for a source that was not read before
pub asks_as : {S E : Type 0} (source : Source S) (before same after : S) (result : Result ℕ E) (size : ℕ)
    (old room : List ℕ) → same ≡ before → length old ≡ size → length room ≡ size
    → IfOk result (λ n. Consumes (source.left same) (source.left after) (take n room))
    → IfOk result (λ n. n < length room → IsAtEnd (source.left after))
    → ReadsUpTo source (length old) same after result
    → AsksFor size (read_input source before after) (change source.faults before after) result room
asks_as source before same after result size old room is old_is room_is took end reads =
    let read : ReadsUpTo source size same after result =
    subst (λ k. ReadsUpTo source k same after result) old_is reads in
    let asks : AsksFor size (read_input source same after) (change source.faults same after) result room =
    record {
      size_is = room_is;
      within = read.within;
      took = took;
      end = subst (λ k. IfOk result (λ n. n < k → IsAtEnd (source.left after))) room_is end;
      part = read.part;
      cause = read.cause;
      counts = read.counts;
    } in
    subst (λ s. AsksFor size (read_input source s after) (change source.faults s after) result room) is asks

none_taken : (n : ℕ) (room : List ℕ) → n ≡ 0 → take n room ≡ []
none_taken n room none = ap (λ k. take k room) none

pub is_none : (n : ℕ) → n ≤ 0 → n ≡ 0
is_none n le = omega arith

-- a whole block was consumed, or nothing
abbrev pub IsWholeOrNone : ℕ → Type 0
IsWholeOrNone n = (n ≡ 0) ⊎ (96 ≤ n)

-- if fewer bytes came than were requested, no read was filled
none_filled : (k : ℕ) (before now : Count) → k ≡ 0 → now ≡ before → RoseBy k before now
none_filled k before now none same = (λ _. same, λ some. absurd (omega (arith, some, none)))

-- if all of them came, one read was filled
one_filled : (k : ℕ) (before now : Count) → k ≡ 1 → now ≡ counted_up 1 before → RoseBy k before now
one_filled k before now one rose = (
  λ none. absurd (omega (arith, none, one)),
  λ _. rose ∙ ap (λ (j : ℕ). counted_up j before) (omega (arith, one)),
)

module _ {E : Type 0} {size n : ℕ} {input : ReadInput} {faults : Change ℕ} {room : List ℕ}
    (a : AsksFor {E = E} size input faults (Ok n) room) where
  size_taken : length (take n room) ≡ n
  size_taken = omega (arith, length-take n room, a.within, a.size_is)

  filled : (k : ℕ) → (n < size → k ≡ 0) → (size ≤ n → k ≡ 1)
      → RoseBy k input.counts.fills.before input.counts.fills.after
  filled k none one =
      elim (cases_lt n size) [
        | inl short ↦ none_filled k _ _ (none short) (a.counts.room.short short)
        | inr full ↦ one_filled k _ _ (one full) (a.counts.room.full full)
      ]

  -- nothing was consumed at the end
  unless_ahead_none : n ≡ 0 → 0 < size → (m : ℕ)
      → EndReportedUnlessAhead (length (take n room)) m input.counts.ends
  unless_ahead_none none some m = (
    λ most. a.counts.end.ended (omega (arith, none, some)),
    λ less. absurd (omega (arith, less, none, size_taken)),
  )

module _ {E : Type 0} {n : ℕ} {input : ReadInput} {faults : Change ℕ} {room : List ℕ}
    (a : AsksFor {E = E} 96 input faults (Ok n) room) where
  block_filled : RoseBy (length (take n room) / 96) input.counts.fills.before input.counts.fills.after
  block_filled =
      filled a _ (λ short. omega (arith, short, size_taken a))
      (λ full. omega (arith, full, size_taken a, a.within))

  half_read : IsWholeOrNone n → IsHalfRead input.left.after (take n room)
  half_read (inl none) = inr (none_taken n room none, a.end (omega (arith, none)))
  half_read (inr whole) = inl (omega (arith, whole, a.within, size_taken a))

  -- less than a block was consumed from the other input
  unless_ahead : IsWholeOrNone n → (m : ℕ) → m < 96
      → EndReportedUnlessAhead (length (take n room)) m input.counts.ends
  unless_ahead (inl none) m short = unless_ahead_none a none (omega arith) m
  unless_ahead (inr whole) m short =
      (λ most. absurd (omega (arith, most, whole, short, size_taken a)), λ less. a.counts.end.goes_on whole)

module _ {E : Type 0} {n : ℕ} {input : ReadInput} {faults : Change ℕ} {room : List ℕ}
    (a : AsksFor {E = E} 1 input faults (Ok n) room) where
  byte_filled : RoseBy (length (take n room)) input.counts.fills.before input.counts.fills.after
  byte_filled =
      filled a _ (λ short. omega (arith, short, size_taken a))
      (λ full. omega (arith, full, size_taken a, a.within))

stops_no_pair : (stop : MergeStop) (A : Type 0) → ◌≡◌ {A = Result Bool MergeStop} (Err stop) (Ok true) → A
stops_no_pair stop A same = absurd (cc)

-- ---- A pair of blocks.

module _ {E : Type 0} (block : ℕ) {first : ReadInput} {f : Change ℕ} {one : List ℕ} (other : List ℕ) where
  pub first_failed : (left : Option (List ℕ)) (m d : Count) (e : E) → AsksFor 96 first f (Err e) one
      → ReadsPair block (Err FirstFault) one other first (unread left m d)
  first_failed left m d e a =
      let (taken, below, took) = a.part in
      record {
        taken = taken;
        other_taken = [];
        took = took;
        other_took = Consumes-nil left;
        said = ((below, refl), stops_no_pair FirstFault _);
        ended = (a.counts.end.failed, refl);
        filled = none_filled _ _ _ (omega (arith, below)) a.counts.room.failed;
        other_filled = none_filled _ _ _ (omega arith) refl;
      }

  pub first_torn : (left : Option (List ℕ)) (m d : Count) (n : ℕ) → AsksFor {E = E} 96 first f (Ok n) one
      → 0 < n → n < 96 → ReadsPair block (Err (Torn block)) one other first (unread left m d)
  first_torn left m d n a some part = record {
    taken = take n one;
    other_taken = [];
    took = a.took;
    other_took = Consumes-nil left;
    said = (
      (refl, omega (arith, some, size_taken a), omega (arith, part, size_taken a), refl, a.end part),
      stops_no_pair (Torn block) _,
    );
    ended = (a.counts.end.ended part, refl);
    filled = block_filled a;
    other_filled = none_filled _ _ _ (omega arith) refl;
  }

module _ {E : Type 0} (block : ℕ) {first second : ReadInput} {f s : Change ℕ} {one other : List ℕ} {n : ℕ}
    (a : AsksFor {E = E} 96 first f (Ok n) one) where
  pub second_failed : (e : E) → IsWholeOrNone n → AsksFor 96 second s (Err e) other
      → ReadsPair block (Err SecondFault) one other first second
  second_failed e half b =
      let (taken, below, took) = b.part in
      record {
        taken = take n one;
        other_taken = taken;
        took = a.took;
        other_took = took;
        said = ((half_read a half, below), stops_no_pair SecondFault _);
        ended = (unless_ahead a half (length taken) below, b.counts.end.failed);
        filled = block_filled a;
        other_filled = none_filled _ _ _ (omega (arith, below)) b.counts.room.failed;
      }

  pub second_torn : (m : ℕ) → IsWholeOrNone n → AsksFor {E = E} 96 second s (Ok m) other → 0 < m → m < 96
      → ReadsPair block (Err (SecondTorn block)) one other first second
  second_torn m half b some part = record {
    taken = take n one;
    other_taken = take m other;
    took = a.took;
    other_took = b.took;
    said = (
      (
        refl,
        half_read a half,
        omega (arith, some, size_taken b),
        omega (arith, part, size_taken b),
        b.end part,
      ),
      stops_no_pair (SecondTorn block) _,
    );
    ended = (
      unless_ahead a half (length (take m other)) (omega (arith, part, size_taken b)),
      b.counts.end.ended part,
    );
    filled = block_filled a;
    other_filled = block_filled b;
  }

  pub one_has_more : (m : ℕ) → IsWholeOrNone n → AsksFor {E = E} 96 second s (Ok m) other → IsWholeOrNone m
      → n ≢ m → ReadsPair block (Err (Unequal block)) one other first second
  one_has_more m (inl none) b (inl none') differ = absurd (differ (omega (arith, none, none')))
  one_has_more m (inl none) b (inr whole) differ = record {
    taken = take n one;
    other_taken = take m other;
    took = a.took;
    other_took = b.took;
    said = (
      (
        refl,
        inr (
          none_taken n one none,
          omega (arith, whole, b.within, size_taken b),
          a.end (omega (arith, none)),
        ),
      ),
      stops_no_pair (Unequal block) _,
    );
    ended = inl (
      omega (arith, none, whole, size_taken a, size_taken b),
      a.counts.end.ended (omega (arith, none)),
      b.counts.end.goes_on whole,
    );
    filled = block_filled a;
    other_filled = block_filled b;
  }
  one_has_more m (inr whole) b (inl none) differ = record {
    taken = take n one;
    other_taken = take m other;
    took = a.took;
    other_took = b.took;
    said = (
      (
        refl,
        inl (
          omega (arith, whole, a.within, size_taken a),
          none_taken m other none,
          b.end (omega (arith, none)),
        ),
      ),
      stops_no_pair (Unequal block) _,
    );
    ended = inr (
      omega (arith, none, whole, size_taken a, size_taken b),
      a.counts.end.goes_on whole,
      b.counts.end.ended (omega (arith, none)),
    );
    filled = block_filled a;
    other_filled = block_filled b;
  }
  one_has_more m (inr whole) b (inr whole') differ =
      absurd (differ (omega (arith, a.within, b.within, whole, whole')))

  pub both_at_end : (m : ℕ) → n ≡ 0 → AsksFor {E = E} 96 second s (Ok m) other → m ≡ 0
      → ReadsPair block (Ok false) one other first second
  both_at_end m none b none' = record {
    taken = take n one;
    other_taken = take m other;
    took = a.took;
    other_took = b.took;
    said = (
      (
        none_taken n one none,
        none_taken m other none',
        a.end (omega (arith, none)),
        b.end (omega (arith, none')),
      ),
      λ e. absurd (cc),
    );
    ended = (a.counts.end.ended (omega (arith, none)), b.counts.end.ended (omega (arith, none')));
    filled = block_filled a;
    other_filled = block_filled b;
  }

  pub both_whole : (m : ℕ) → 96 ≤ n → AsksFor {E = E} 96 second s (Ok m) other → 96 ≤ m
      → ReadsPair block (Ok true) one other first second
  both_whole m whole b whole' = record {
    taken = take n one;
    other_taken = take m other;
    took = a.took;
    other_took = b.took;
    said = (
      (omega (arith, whole, a.within, size_taken a), omega (arith, whole', b.within, size_taken b)),
      λ same. (
        take_all n one (omega (arith, whole, a.size_is)),
        take_all m other (omega (arith, whole', b.size_is)),
      ),
    );
    ended = (a.counts.end.goes_on whole, b.counts.end.goes_on whole');
    filled = block_filled a;
    other_filled = block_filled b;
  }

-- ---- The end of both inputs.

nothing : (bytes : List ℕ) → length bytes < 1 → bytes ≡ []
nothing [] short = refl
nothing (b ∷ bytes) short = absurd (omega (arith, short))

module _ {E : Type 0} {first : ReadInput} {f : Change ℕ} {byte : List ℕ} where
  pub end_of_first_failed : (left : Option (List ℕ)) (m d : Count) (e : E)
      → AsksFor 1 first f (Err e) byte → ReadsNoMore (Err FirstFault) first (unread left m d)
  end_of_first_failed left m d e a =
      let (taken, below, took) = a.part in
      record {
        taken = taken;
        other_taken = [];
        took = took;
        other_took = Consumes-nil left;
        said = (nothing taken below, refl);
        ended = (a.counts.end.failed, refl);
        filled = none_filled _ _ _ (omega (arith, below)) a.counts.room.failed;
        other_filled = none_filled _ _ _ refl refl;
      }

  pub first_goes_on : (left : Option (List ℕ)) (m d : Count) (n : ℕ)
      → AsksFor {E = E} 1 first f (Ok n) byte → n ≢ 0 → ReadsNoMore (Err TooLong) first (unread left m d)
  first_goes_on left m d n a some = record {
    taken = take n byte;
    other_taken = [];
    took = a.took;
    other_took = Consumes-nil left;
    said = inl (omega (arith, some, a.within, size_taken a), refl);
    ended = (
      (
        λ none. absurd (omega (arith, none, some, size_taken a)),
        λ less. a.counts.end.goes_on (omega (arith, some)),
      ),
      refl,
    );
    filled = byte_filled a;
    other_filled = none_filled _ _ _ refl refl;
  }

module _ {E : Type 0} {first second : ReadInput} {f s : Change ℕ} {byte rest : List ℕ} {n : ℕ}
    (a : AsksFor {E = E} 1 first f (Ok n) byte) (none : n ≡ 0) where
  pub no_byte_follows : (merged : Merged) (m : ℕ) → AsksFor {E = E} 1 second s (Ok m) rest → m ≡ 0
      → ReadsNoMore (Ok merged) first second
  no_byte_follows merged m b none' = record {
    taken = take n byte;
    other_taken = take m rest;
    took = a.took;
    other_took = b.took;
    said = (
      none_taken n byte none,
      none_taken m rest none',
      a.end (omega (arith, none)),
      b.end (omega (arith, none')),
    );
    ended = (a.counts.end.ended (omega (arith, none)), b.counts.end.ended (omega (arith, none')));
    filled = byte_filled a;
    other_filled = byte_filled b;
  }

  pub second_goes_on : (m : ℕ) → AsksFor {E = E} 1 second s (Ok m) rest → m ≢ 0
      → ReadsNoMore (Err TooLong) first second
  second_goes_on m b some = record {
    taken = take n byte;
    other_taken = take m rest;
    took = a.took;
    other_took = b.took;
    said = inr (none_taken n byte none, omega (arith, some, b.within, size_taken b));
    ended = (
      unless_ahead_none a none (omega arith) (length (take m rest)),
      b.counts.end.goes_on (omega (arith, some)),
    );
    filled = byte_filled a;
    other_filled = byte_filled b;
  }

  pub end_of_second_failed : (e : E) → AsksFor 1 second s (Err e) rest
      → ReadsNoMore (Err SecondFault) first second
  end_of_second_failed e b =
      let (taken, below, took) = b.part in
      record {
        taken = take n byte;
        other_taken = taken;
        took = a.took;
        other_took = took;
        said = (none_taken n byte none, nothing taken below);
        ended = (unless_ahead_none a none (omega arith) (length taken), b.counts.end.failed);
        filled = byte_filled a;
        other_filled = none_filled _ _ _ (omega (arith, below)) b.counts.room.failed;
      }
