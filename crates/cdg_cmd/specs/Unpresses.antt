-- The packs and pictures that are recovered from a pressed stream.
use Rattle.std.specs.Prelude.{◌≡◌, ℕ, ◌+◌, ◌*◌, ◌≤◌, ⊤, List}
use Rattle.std.specs.List.{concat}
use Rattle.std.specs.Io.KnownBytes.{Appends}
use Rattle.disc_time.specs.Counts.{pause_blocks}
use Rattle.raw_subcode.specs.Sizes.{slots_a_block}
use Rattle.round_trips.specs.Damaged.{DamagedPress, IsFileText}
use Rattle.cdg_cmd.specs.Answer.{GivesBack, OnDone}
use Rattle.cdg_io.specs.Change.{Bytes, Change}
use Rattle.cdg_cmd.specs.Headline.{written_packs}
use Rattle.cdg_cmd.specs.declared.command.Command.{Command}
use Rattle.cdg_cmd.specs.declared.command.Command.TheVariants.{Convert, Screen}
use Rattle.cdg_cmd.specs.declared.status.Status.{Status}

-- The pixmap after `many` packs of a file, or after all, was written, unless a read, a write or an allocation failed.
abbrev pub PutsFilePicture : List ℕ → ℕ → Change Bytes → Status → Type 0
PutsFilePicture file many out status =
    OnDone ((text : List ℕ) × IsFileText file many text × Appends out.before out.after text) status

-- The output of a command for a pressed stream with at most two wrong symbols in each word. A conversion writes every
-- pack. A screen n blocks after the start of the audio shows the screen after 4n packs of the file, or after all.
abbrev pub Unpresses : Command → List ℕ → Change Bytes → Status → Type 0
Unpresses (Convert lead_in form) bytes out status =
    (press : DamagedPress form lead_in bytes) → GivesBack (concat (written_packs form press.packs)) out status
Unpresses (Screen lead_in form at) bytes out status =
    (press : DamagedPress form lead_in bytes) (time : ℕ) → at ≡ pause_blocks + time → time ≤ press.audio
    → PutsFilePicture press.file (slots_a_block * time) out status
Unpresses command bytes out status = ⊤
