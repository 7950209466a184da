-- The end of an input is reported as the answer of a call says.
use Rattle.std.proofs.Common.{◌≡◌}
use Rattle.cdg_io.specs.Causes.{Count}
use Rattle.cdg_io.specs.Change.{Input}
use Rattle.cdg_cmd.specs.Ends.{EndsAs}
use Rattle.cdg_cmd.specs.declared.status.Status.{Status}

pub ended_as : {A : Type 0} (status_of : A → Status) (reported : A → Count → Count → Type 0) (input : Input)
    (answer : A) (status : Status) → status ≡ status_of answer
    → reported answer input.ends.before input.ends.after
    → EndsAs status_of reported input status
ended_as status_of reported input answer status is ended =
    record { answer = answer; status_is = is; ended = ended }
