-- The status and the output of `thin` for a file of packs.
use Rattle.std.specs.Prelude.{length, IfSome}
use Rattle.raw_subcode.specs.Sizes.{symbols_a_slot}
use Rattle.cdg_io.specs.Pump.{IsUnlessFault, answer_of}
use Rattle.cdg_press.specs.Calls.{Thins, most_file_packs}
use Rattle.cdg_io.specs.Change.{Bytes}
use Rattle.cdg_cmd.specs.Call.{Call, through}
use Rattle.cdg_cmd.specs.Endings.{EndsWith}
use Rattle.cdg_cmd.specs.Stops.{thin_status}
use Rattle.cdg_cmd.specs.declared.status.Status.{Status}

-- the thin form of a file was written as its packs were read
abbrev pub ThinsWith : Call Bytes → Status → Type 0
ThinsWith call status =
    EndsWith thin_status (Thins (through call))
    (λ answer. IfSome call.first.before
    (λ all. IsUnlessFault answer (answer_of symbols_a_slot most_file_packs (length all))))
    status
