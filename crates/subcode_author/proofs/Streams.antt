-- A sheet and a script have only one authored stream with the planned changes.
use Rattle.std.proofs.Common.{◌≡◌, ℕ, List, sym, ◌∙◌}
use Rattle.cue_sheet.specs.CueSheet.{CueSheet}
use Rattle.toc_model.specs.Places.{layout_of}
use Rattle.picture_script.specs.Script.{Drawing}
use Rattle.subcode_author.specs.Authored.{text_packs, IsWrittenStream, disc_of}
use Rattle.stream_writer.proofs.SameBytes.{same_bytes}
use Rattle.subcode_author.proofs.Packs.{same_packs}

pub same_authored_packs : (sheet : CueSheet) (script : List Drawing) (lead_in audio : ℕ)
    (bytes bytes' : List ℕ) (packs packs' : List (List ℕ))
    → IsWrittenStream (disc_of sheet script lead_in audio) bytes packs
    → IsWrittenStream (disc_of sheet script lead_in audio) bytes' packs'
    → packs ≡ packs'
same_authored_packs sheet script lead_in audio bytes bytes' packs packs' one other =
    same_packs script packs packs' (one.authored.carries.count ∙ sym other.authored.carries.count) one.planned
    other.planned

pub same_authored_bytes : (sheet : CueSheet) (script : List Drawing) (lead_in audio : ℕ)
    (bytes bytes' : List ℕ) (packs packs' : List (List ℕ))
    → IsWrittenStream (disc_of sheet script lead_in audio) bytes packs
    → IsWrittenStream (disc_of sheet script lead_in audio) bytes' packs'
    → bytes ≡ bytes'
same_authored_bytes sheet script lead_in audio bytes bytes' packs packs' one other =
    same_bytes (layout_of sheet audio) (text_packs sheet) lead_in bytes bytes' packs packs'
    (same_authored_packs sheet script lead_in audio bytes bytes' packs packs' one other)
    one.authored.framing other.authored.framing one.authored.carries other.authored.carries
