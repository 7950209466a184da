-- The first blocks of a stream with the written packs are a prefix of the authored stream.
use Rattle.std.proofs.Common.{ℕ, List}
use Rattle.std.specs.declared.option.Option.{Option}
use Rattle.cdg_io.specs.Moves.{AppendsPrefix}
use Rattle.cue_sheet.specs.CueSheet.{CueSheet}
use Rattle.toc_model.specs.Places.{layout_of, program_blocks}
use Rattle.picture_script.specs.Script.{Drawing}
use Rattle.pack_schedule.specs.Woven.{IsPackAt}
use Rattle.pack_schedule.specs.Shown.{AreTimesInOrder}
use Rattle.subcode_author.specs.Given.{PutsScriptPart}
use Rattle.subcode_author.specs.Authored.{text_packs, IsWrittenStream, disc_of}
use Rattle.subcode_author.specs.AuthorAnswer.{HoldsPictures}
use Rattle.stream_writer.proofs.Prefixes.{prefix_of_stream}
use Rattle.stream_writer.proofs.Whole.{SpreadCarries}
use Rattle.subcode_author.proofs.Ends.{idle_past}
use Rattle.subcode_author.proofs.Prompt.{ArePrompt}
use Rattle.subcode_author.proofs.Packs.{one_pack}

pub part_is_prefix : SpreadCarries → (sheet : CueSheet) (script : List Drawing) (lead_in audio n : ℕ)
    (bytes : List ℕ) (packs given : List (List ℕ)) (held held' : Option (List ℕ))
    → HoldsPictures sheet script audio → ArePrompt script → AreTimesInOrder script
    → IsWrittenStream (disc_of sheet script lead_in audio) bytes packs
    → PutsScriptPart (disc_of sheet script lead_in audio) held held' n given → AppendsPrefix held held' bytes
part_is_prefix spread sheet script lead_in audio n bytes packs given held held' disc prompt order authored
    part =
    prefix_of_stream spread (IsPackAt script) (one_pack script) (layout_of sheet audio) (text_packs sheet)
    lead_in n bytes packs given held held' authored.authored.framing authored.authored.carries
    authored.planned
    (idle_past script (program_blocks sheet audio) order prompt disc.1) part
