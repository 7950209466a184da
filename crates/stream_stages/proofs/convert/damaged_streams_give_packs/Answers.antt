use Rattle.std.proofs.Common.{ap, ◌∙◌}
use Rattle.rw_interleave.specs.Stream.{all_packs, bad_count}
use Rattle.rw_interleave.specs.Texts.{cdg_bytes}
use Rattle.stream_stages.proofs.Restoring.{found_packs}
use Rattle.stream_stages.proofs.convert.damaged_streams_give_packs.Goals as goal

pub returns-clause-text : goal.returns-clause-text
returns-clause-text c form lead_in blocks packs bytes text bad stream converted =
    converted.text_is
    ∙ ap cdg_bytes
    (found_packs form lead_in blocks packs bytes text bad c.packs_are_recovered.ensures stream converted)
    ∙ c.found_packs_are_the_text.ensures.text (all_packs form blocks packs)

pub returns-clause-bad : goal.returns-clause-bad
returns-clause-bad c form lead_in blocks packs bytes text bad stream converted =
    converted.bad_is
    ∙ ap bad_count
    (found_packs form lead_in blocks packs bytes text bad c.packs_are_recovered.ensures stream converted)
    ∙ c.found_packs_are_the_text.ensures.bad (all_packs form blocks packs)
