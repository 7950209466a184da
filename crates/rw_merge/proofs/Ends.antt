-- How often both inputs reported their ends and filled a read, since the beginning.
use Rattle.std.proofs.Common.{◌≡◌, ◌++◌, ◌+◌, ◌*◌, ◌/◌, ◌<◌, ◌≤◌, ◌∙◌, ℕ, List, length, subst, inl, inr, arith, length-append}
use Rattle.std.specs.Prelude.{Result, Ok, Err}
use Rattle.cdg_io.specs.Causes.{Count}
use Rattle.cdg_io.specs.Change.{from_to}
use Rattle.cdg_io.specs.Pump.{RoseBy}
use Rattle.cdg_io.proofs.PumpSteps.{some_more}
use Rattle.cdg_io.proofs.Stops.{rose_once_since}
use Rattle.raw_subcode.specs.Sizes.{most_units}
use Rattle.rw_merge.specs.Merging.{EndsAtStop, EndsBoth, EndReportedUnlessAhead, full_reads}
use Rattle.rw_merge.specs.declared.merge.MergeStop.{MergeStop}
use Rattle.rw_merge.specs.declared.merge.MergeStop.TheVariants.{FirstFault, SecondFault, WriteFault, TooLong, Torn, SecondTorn, Unequal}

-- no end was reported before, and the same number of bytes was consumed from both inputs
module _ (n n' n'' m m' m'' : Count) (same : n' ≡ n) (same' : m' ≡ m) (base a b u v : ℕ) (a_is : a ≡ base + u)
    (b_is : b ≡ base + v) where
  ahead_since : EndReportedUnlessAhead u v (from_to n' n'') → EndReportedUnlessAhead a b (from_to n n'')
  ahead_since one = (
    λ most. rose_once_since same (one.0 (omega (arith, most, a_is, b_is))),
    λ less. one.1 (omega (arith, less, a_is, b_is)) ∙ same,
  )

  pub stop_since : (stop : MergeStop) → EndsAtStop stop u v (from_to n' n'') (from_to m' m'')
      → EndsAtStop stop a b (from_to n n'') (from_to m m'')
  stop_since FirstFault (unreported, unreported') = (unreported ∙ same, unreported' ∙ same')
  stop_since WriteFault (unreported, unreported') = (unreported ∙ same, unreported' ∙ same')
  stop_since (Torn block) (reported, unreported) = (rose_once_since same reported, unreported ∙ same')
  stop_since SecondFault (one, unreported) = (ahead_since one, unreported ∙ same')
  stop_since TooLong (one, unreported) = (ahead_since one, unreported ∙ same')
  stop_since (SecondTorn block) (one, reported) = (ahead_since one, rose_once_since same' reported)
  stop_since (Unequal blocks) (inl (less, reported, unreported)) =
      inl (omega (arith, less, a_is, b_is), rose_once_since same reported, unreported ∙ same')
  stop_since (Unequal blocks) (inr (less, unreported, reported)) =
      inr (omega (arith, less, a_is, b_is), unreported ∙ same, rose_once_since same' reported)

  pub ends_since : {A : Type 0} (result : Result A MergeStop)
      → EndsBoth result u v (from_to n' n'') (from_to m' m'')
      → EndsBoth result a b (from_to n n'') (from_to m m'')
  ends_since (Ok done) (reported, reported') =
      (rose_once_since same reported, rose_once_since same' reported')
  ends_since (Err stop) ended = stop_since stop ended

-- one more block was read
pub block_more : (block : ℕ) (us : List ℕ) (before now last : Count) → length us ≡ 96
    → RoseBy block before now → RoseBy (length us / 96) now last
    → RoseBy (block + 1) before last
block_more block us before now last size rose more =
    let all : block + length us / 96 ≡ block + 1 = omega (arith, size) in
    subst (λ (n : ℕ). RoseBy n before last) all (some_more block (length us / 96) before now last rose more)

-- one more block was requested
pub blocks_filled : (block : ℕ) (xs us : List ℕ) (before now last : Count) → length xs ≡ block * 96
    → length us ≤ 96 → block < most_units → RoseBy block before now → RoseBy (length us / 96) now last
    → RoseBy (full_reads (length (xs ++ us))) before last
blocks_filled block xs us before now last size few lt rose more =
    let bytes : length (xs ++ us) ≡ block * 96 + length us = omega (arith, length-append xs us, size) in
    let all : block + length us / 96 ≡ full_reads (length (xs ++ us)) = omega (arith, bytes, few, lt) in
    subst (λ (n : ℕ). RoseBy n before last) all (some_more block (length us / 96) before now last rose more)

-- one more byte was requested after all blocks
pub byte_filled_after : (block : ℕ) (xs us : List ℕ) (before now last : Count) → length xs ≡ block * 96
    → length us ≤ 1 → block ≡ most_units → RoseBy block before now → RoseBy (length us) now last
    → RoseBy (full_reads (length (xs ++ us))) before last
byte_filled_after block xs us before now last size few whole rose more =
    let bytes : length (xs ++ us) ≡ block * 96 + length us = omega (arith, length-append xs us, size) in
    let all : block + length us ≡ full_reads (length (xs ++ us)) = omega (arith, bytes, few, whole) in
    subst (λ (n : ℕ). RoseBy n before last) all (some_more block (length us) before now last rose more)
