use Rattle.std.proofs.Common.{sym, ◌∙◌}
use Rattle.cdg_press.proofs.Forms.{only_reading, only_text, text_again, text_alike, text_size}
use Rattle.cdg_press.proofs.Meanings.{has_instruction}
use Rattle.cdg_press.proofs.Runs.{some_text}
use Rattle.cdg_press.specs.Steps.{pack_instruction}
use Rattle.cdg_press.proofs.thinner.thin_forms_stand_alike.Goals as goal

pub returns-clause-alike : goal.returns-clause-alike
returns-clause-alike c = text_alike

pub returns-clause-again : goal.returns-clause-again
returns-clause-again c = text_again

pub returns-clause-some : goal.returns-clause-some
returns-clause-some c = some_text

pub returns-clause-reading : goal.returns-clause-reading
returns-clause-reading c = λ pack size. (pack_instruction pack, has_instruction pack size)

pub returns-clause-only : goal.returns-clause-only
returns-clause-only c = only_text

pub returns-clause-size : goal.returns-clause-size
returns-clause-size c = text_size

pub returns-clause-one_reading : goal.returns-clause-one_reading
returns-clause-one_reading c =
    λ packs one other h k. only_reading packs one h ∙ sym (only_reading packs other k)
