-- What two readings give together.
use Rattle.std.proofs.Common.{◌==◌, ℕ, List, Result, Ok, Err, Some, None, IfSome, if◌then◌else◌, sym, subst}
use Rattle.std.specs.List.{concat}
use Rattle.rw_merge.specs.Readings.{IsDamagedTwice, IsReadTwice, MergeRestores}
use Rattle.rw_merge.specs.declared.merge.Merged.{Merged}
use Rattle.rw_merge.specs.declared.merge.MergeStop.{MergeStop}
use Rattle.rw_merge.specs.declared.merge.MergeStop.TheVariants as merge
use Rattle.rw_merge.proofs.Restoring.{GivesPacks, restored}
use Rattle.cdg_cmd.specs.Answer.{GivesBack}
use Rattle.cdg_io.specs.Change.{Bytes, Change}
use Rattle.cdg_cmd.specs.Merges.{MergesWith}
use Rattle.cdg_cmd.specs.Stops.{merge_status}
use Rattle.cdg_cmd.specs.declared.status.Status.{Status}
use Rattle.cdg_cmd.specs.declared.status.Status.TheVariants.{Done, Damaged}
use Rattle.cdg_cmd.proofs.WholeInputs.{both}

-- a merger that restored all packs, as a status
given_back : (answer : Result Merged MergeStop) (out : Change Bytes) (blocks : ℕ) (text : List ℕ)
    → MergeRestores answer blocks out.before out.after text
    → GivesBack text out (merge_status answer)
given_back (Ok merged) out blocks text r =
    subst (λ (n : ℕ). GivesBack text out (if n == 0 then Done else Damaged n)) (sym r.1) r.2
given_back (Err merge.FirstFault) out blocks text r = tt
given_back (Err merge.SecondFault) out blocks text r = tt
given_back (Err merge.WriteFault) out blocks text r = tt
given_back (Err merge.TooLong) out blocks text r = absurd r
given_back (Err (merge.Torn block)) out blocks text r = absurd r
given_back (Err (merge.SecondTorn block)) out blocks text r = absurd r
given_back (Err (merge.Unequal many)) out blocks text r = absurd r

module _ (law : GivesPacks) (lead_in : ℕ) (left' other' : Bytes) (out : Change Bytes) (status : Status) where
  merged : (one two : List ℕ) (blocks : ℕ) (packs : List (List ℕ))
      → MergesWith lead_in (both (Some one) left' (Some two) other' out) status
      → IsReadTwice lead_in blocks packs one two
      → GivesBack (concat packs) out status
  merged one two blocks packs d twice =
      subst (λ (s : Status). GivesBack (concat packs) out s) (sym d.status_is)
      (given_back d.answer out blocks (concat packs)
      (restored law lead_in (Some one) left' (Some two) other' out.before out.after d.answer d.taken
      d.other_taken d.first d.second d.put d.first_end d.second_end d.exactly blocks packs twice))

  pub merged_back : (left other : Bytes)
      → MergesWith lead_in (both left left' other other' out) status
      → IfSome left (λ one. IfSome other (λ two. (blocks : ℕ) (packs : List (List ℕ))
      → IsReadTwice lead_in blocks packs one two
      → GivesBack (concat packs) out status))
  merged_back None other does = tt
  merged_back (Some one) None does = tt
  merged_back (Some one) (Some two) does =
      λ blocks packs twice. merged one two blocks packs does twice

-- two readings that are also both damaged
pub repaired_back : ((lead_in blocks : ℕ) (packs : List (List ℕ)) (first second : List ℕ)
    → IsDamagedTwice lead_in blocks packs first second → IsReadTwice lead_in blocks packs first second)
    → (lead_in : ℕ) (left other : Bytes) (out : Change Bytes) (status : Status)
    → IfSome left (λ one. IfSome other (λ two. (blocks : ℕ) (packs : List (List ℕ))
    → IsReadTwice lead_in blocks packs one two → GivesBack (concat packs) out status))
    → IfSome left (λ one. IfSome other (λ two. (blocks : ℕ) (packs : List (List ℕ))
    → IsDamagedTwice lead_in blocks packs one two
    → GivesBack (concat packs) out status))
repaired_back law lead_in None other out status gives = tt
repaired_back law lead_in (Some one) None out status gives = tt
repaired_back law lead_in (Some one) (Some two) out status gives =
    λ blocks packs damaged. gives blocks packs (law lead_in blocks packs one two damaged)
