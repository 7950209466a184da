-- A stream that is written, or why none is.
use Rattle.std.specs.Prelude.{◌≡◌, ◌⊎◌, []}
use Rattle.std.specs.Io.KnownBytes.{Appends}
use Rattle.subcode_author.specs.Authored.{Disc}
use Rattle.cdg_cmd.specs.Answer.{OnDone}
use Rattle.cdg_cmd.specs.Authors.{IsStopped, PutsAuthored}
use Rattle.cdg_io.specs.Change.{Bytes, Change}
use Rattle.cdg_cmd.specs.declared.status.Status.{Status}

-- An authored stream was written, unless a read, a write or an allocation failed.
abbrev pub Writes : Disc → Change Bytes → Status → Type 0
Writes disc out status = OnDone (PutsAuthored disc out) status

-- Nothing was written, and the status is this one, unless a read or an allocation failed.
abbrev pub RefusesWith : Status → Change Bytes → Status → Type 0
RefusesWith why out status = Appends out.before out.after [] × ((status ≡ why) ⊎ IsStopped status)
