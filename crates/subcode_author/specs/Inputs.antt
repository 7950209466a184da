-- The allocated inputs of a stream.
use Rattle.std.specs.Prelude.{◌≡◌, ℕ, ◌+◌, ◌<◌, List, []}
use Rattle.toc_model.specs.Places.{layout_of}
use Rattle.pack_schedule.specs.Woven.{Woven, IsPackAt, most_counted}
use Rattle.subcode_author.specs.Authored.{Disc, text_packs}
use Rattle.subcode_author.specs.declared.author.StreamInputs.{StreamInputs}

-- `pack` is the pack at number n from here, as long as the count of the weaver is not saturated.
abbrev pub PackOf : Woven → ℕ → List ℕ → Type 0
PackOf woven n pack = woven.given + n < most_counted → IsPackAt woven.script (woven.given + n) pack

-- These are the inputs for the stream of a disc: its layout, the text packs of its lead-in, an empty spreader, and a weaver
-- of its script before the first pack. Without a lead-in there are no text packs.
pub record AreStreamInputs (disc : Disc) (inputs : StreamInputs) : Type 0 where
  pub layout_is : inputs.layout ≡ layout_of disc.sheet disc.audio
  pub texts_are : 0 < disc.lead_in → inputs.texts.items ≡ text_packs disc.sheet
  pub none : disc.lead_in ≡ 0 → inputs.texts.items ≡ []
  pub empty : inputs.spread ≡ []
  pub script_is : inputs.source.weaver.script ≡ disc.script
  pub given_is : inputs.source.weaver.given ≡ 0
