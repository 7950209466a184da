-- The stream of a cue sheet and a picture script, and copies of it with at most two wrong symbols in each word.
use Rattle.std.specs.Prelude.{ℕ, ◌*◌, ◌%◌, ◌≤◌, ⊤, List, [], ◌++◌, length, replicate, ◌≡◌}
use Rattle.std.specs.Io.KnownBytes.{Appends}
use Rattle.raw_subcode.specs.Channels.{unit_size, program_symbols}
use Rattle.raw_subcode.specs.declared.form.Form.{Form}
use Rattle.raw_subcode.specs.declared.form.Form.TheVariants.{Raw, Cooked}
use Rattle.picture_script.specs.Script.{Drawing}
use Rattle.pack_schedule.specs.Schedule.{IsLate}
use Rattle.rw_interleave.specs.Interleave.{packs_kept_back}
use Rattle.rw_interleave.specs.Stream.{IsDamaged}
use Rattle.subcode_author.specs.Authored.{Disc}
use Rattle.subcode_author.specs.AuthorAnswer.{AreReady, HasRoom, HoldsPictures}
use Rattle.raw_subcode.specs.Sizes.{most_units}
use Rattle.round_trips.specs.Pictured.{IsPictureText}
use Rattle.cdg_cmd.specs.Answer.{OnDone}
use Rattle.cdg_cmd.specs.Authors.{PutsAuthored}
use Rattle.cdg_io.specs.Change.{Change, Bytes}
use Rattle.cdg_cmd.specs.declared.status.Status.{Status}
use Rattle.cdg_cmd.specs.declared.status.Status.TheVariants.{Done, Damaged, Usage, Refused, Late, ReadFault, WriteFault, NoMemory}
use Rattle.rw_code.specs.Packs.{idle_pack}

-- The sheet and the script fit on the disc. This does not say whether a picture is late.
pub record HavePlace (disc : Disc) : Type 0 where
  pub pictures : HoldsPictures disc.sheet disc.script disc.audio
  pub room : HasRoom disc.sheet disc.lead_in

-- Every picture can be ready, and the stream of the planned changes was written. Or nothing was written, and the status
-- names the first late picture. Or a read or a write failed, or memory ran out.
abbrev pub WritesOrIsLate : Disc → Change Bytes → Status → Type 0
WritesOrIsLate disc out Done = AreReady disc.script × PutsAuthored disc out
WritesOrIsLate disc out (Late picture need free) =
    IsLate disc.script picture need free × Appends out.before out.after []
WritesOrIsLate disc out (ReadFault which) = ⊤
WritesOrIsLate disc out WriteFault = ⊤
WritesOrIsLate disc out NoMemory = ⊤
WritesOrIsLate disc out (Damaged n) = ⊥
WritesOrIsLate disc out Usage = ⊥
WritesOrIsLate disc out (Refused why) = ⊥

-- `bytes` is a damaged copy of the raw stream `stream`. The copy has this form, and consists of at most `most_units` whole
-- units (blocks or sectors). In each word of the program, at most two symbols are wrong.
pub record IsDamagedCopy (form : Form) (lead_in : ℕ) (stream bytes : List ℕ) : Type 0 where
  pub few : length bytes ≤ most_units * unit_size form
  pub whole : length bytes % unit_size form ≡ 0
  pub damaged : IsDamaged (program_symbols Raw stream lead_in) form (program_symbols form bytes lead_in)

-- the packs that `convert` writes: the packs of the stream, and seven idle packs after them if the input is cooked
abbrev pub written_packs : Form → List (List ℕ) → List (List ℕ)
written_packs Cooked packs = packs ++ replicate packs_kept_back idle_pack
written_packs _ packs = packs

-- A pixmap of a screen that shows picture k was written; or a read or a write failed, or memory ran out.
abbrev pub PutsPicture : List Drawing → ℕ → Change Bytes → Status → Type 0
PutsPicture script k out status = OnDone ((text : List ℕ) × IsPictureText script k text
    × Appends out.before out.after text) status
