use Rattle.std.proofs.Common.{List, ℕ}
use Rattle.rw_mend.specs.Choice.{IsAgreedAlone, IsFirstBest, IsMendedBy}
use Rattle.rw_mend.specs.declared.choice.WordSource.{WordSource}
use Rattle.rw_mend.specs.declared.choice.WordSource.TheVariants.{Reading, Agreed}
use Rattle.rw_mend.specs.declared.candidates.Candidate.{Candidate}
use Rattle.rw_mend.proofs.choice.of_two.Goals as goal

none_of_two : (candidates : List Candidate) → ((r : ℕ) → ¬ IsFirstBest candidates r)
    → ((codeword : List ℕ) → ¬ IsAgreedAlone candidates codeword)
    → (source : WordSource) (codeword : List ℕ) → ¬ IsMendedBy source candidates codeword
none_of_two candidates no_best none (Reading r) codeword mended = no_best r mended.0
none_of_two candidates no_best none Agreed codeword mended = none codeword mended.1

pub returns-in-None : goal.returns-in-None
returns-in-None c = none_of_two c.args.candidates.now c.requires.no_best c.in-None.ensures
