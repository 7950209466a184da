-- Packs are recovered from scratched streams.
use Rattle.std.proofs.Common.{◌≡◌, ℕ, List, Some, None, IfSome, sym, subst}
use Rattle.std.specs.List.{concat}
use Rattle.raw_subcode.specs.declared.form.Form.TheVariants.{Raw}
use Rattle.cdg_workload.specs.Scratches.{scratched}
use Rattle.rw_interleave.specs.Stream.{all_packs}
use Rattle.stream_stages.specs.Convert.{IsDamagedStream}
use Rattle.cdg_cmd.specs.Answer.{GivesBack}
use Rattle.cdg_io.specs.Change.{Bytes, Change}
use Rattle.cdg_cmd.specs.declared.status.Status.{Status}

-- a conversion writes the packs that were sent, in spite of scratches
pub scratched_back : (lead_in blocks seed : ℕ) (bytes : List ℕ) (packs : List (List ℕ)) (left : Bytes)
    (out : Change Bytes) (status : Status)
    → IsDamagedStream Raw lead_in blocks packs (scratched lead_in seed bytes)
    → concat (all_packs Raw blocks packs) ≡ concat packs
    → IfSome left (λ all. (blocks : ℕ) (packs : List (List ℕ)) → IsDamagedStream Raw lead_in blocks packs all
    → GivesBack (concat (all_packs Raw blocks packs)) out status)
    → IfSome left (λ all. all ≡ scratched lead_in seed bytes → GivesBack (concat packs) out status)
scratched_back lead_in blocks seed bytes packs None out status damaged same restores = tt
scratched_back lead_in blocks seed bytes packs (Some all) out status damaged same restores = λ is.
    subst (λ (t : List ℕ). GivesBack t out status) same
    (restores blocks packs
    (subst (λ (b : List ℕ). IsDamagedStream Raw lead_in blocks packs b) (sym is) damaged))
