-- The part of a stream that a failed write leaves.
use Rattle.std.specs.Prelude.{ℕ, List}
use Rattle.std.specs.declared.option.Option.{Option}
use Rattle.cdg_io.specs.Change.{from_to}
use Rattle.pack_schedule.specs.Woven.{IsPackAt}
use Rattle.toc_model.specs.Places.{layout_of}
use Rattle.stream_writer.specs.Given.{PutsStreamPart as PutsPartAsItComes, framing_of}
use Rattle.subcode_author.specs.Authored.{Disc, text_packs}

-- A prefix of the lead-in of a disc and of its program blocks with these packs was written.
abbrev pub PutsScriptPart : Disc → Option (List ℕ) → Option (List ℕ) → ℕ → List (List ℕ) → Type 0
PutsScriptPart disc held held' n packs =
    PutsPartAsItComes (framing_of (layout_of disc.sheet disc.audio) (text_packs disc.sheet) disc.lead_in)
    (IsPackAt disc.script) (from_to held held') n packs
