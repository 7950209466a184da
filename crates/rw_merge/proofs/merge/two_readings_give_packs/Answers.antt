use Rattle.std.proofs.Common.{ap, ◌∙◌}
use Rattle.rw_interleave.specs.Stream.{bad_count}
use Rattle.rw_interleave.specs.Texts.{cdg_bytes}
use Rattle.rw_merge.proofs.Restoring.{enough_of_both, packs_found}
use Rattle.rw_merge.proofs.merge.two_readings_give_packs.Goals as goal

pub returns-clause-text : goal.returns-clause-text
returns-clause-text c lead_in blocks packs first second text bad twice merged =
    let found = packs_found lead_in blocks packs first second text bad twice merged in (
      merged.text_is ∙ ap cdg_bytes found ∙ c.found_packs_are_the_text.ensures.text packs,
      merged.bad_is ∙ ap bad_count found ∙ c.found_packs_are_the_text.ensures.bad packs,
    )

pub returns-clause-damage : goal.returns-clause-damage
returns-clause-damage c = enough_of_both
