-- What is written for a whole file of packs.
use Rattle.std.proofs.Common.{◌≡◌, ◌≢◌, ℕ, List, Result, Ok, Err, Some, None, IfSome, sym, ◌∙◌}
use Rattle.std.specs.Io.KnownBytes.{Appends}
use Rattle.cdg_io.specs.declared.pumping.Pumped.{Pumped}
use Rattle.cdg_io.specs.declared.pumping.PumpStop.{PumpStop}
use Rattle.cdg_io.specs.declared.pumping.PumpStop.TheVariants as pump
use Rattle.cdg_press.specs.Calls.{ShowsAll, ThinsAll}
use Rattle.cdg_press.proofs.Calls.{whole}
use Rattle.cdg_io.specs.Change.{Bytes, Change}
use Rattle.cdg_cmd.specs.Thinned.{ThinsWith}
use Rattle.cdg_cmd.specs.Stops.{thin_status}
use Rattle.cdg_cmd.specs.declared.status.Status.{Status}
use Rattle.cdg_cmd.specs.declared.status.Status.TheVariants.{Done, NoMemory}
use Rattle.cdg_cmd.proofs.WholeInputs.{both}

thinned : (answer : Result Pumped PumpStop) (all : List ℕ) (out : Change Bytes) → ThinsAll all out answer
    → thin_status answer ≡ Done
    → (text : List ℕ) × ShowsAll all text × Appends out.before out.after text
thinned (Ok pumped) all out thins is = thins
thinned (Err pump.ReadFault) all out thins is = absurd (cc)
thinned (Err pump.WriteFault) all out thins is = absurd (cc)
thinned (Err (pump.Torn unit)) all out thins is = absurd (cc)
thinned (Err pump.TooLong) all out thins is = absurd (cc)

pub all_thinned : (left left' more more' : Bytes) (out : Change Bytes) (status : Status) → status ≡ Done
    → (status ≢ NoMemory → ThinsWith (both left left' more more' out) status)
    → IfSome left (λ all. (text : List ℕ) × ShowsAll all text × Appends out.before out.after text)
all_thinned None left' more more' out status is does = tt
all_thinned (Some all) left' more more' out status is does =
    let d = does (λ memory. let both_are = sym is ∙ memory in cc) in
    thinned d.answer all out (whole (Some all) left' out d.answer d.taken d.did) (sym d.status_is ∙ is)
