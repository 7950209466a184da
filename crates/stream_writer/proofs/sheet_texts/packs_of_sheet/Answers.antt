use Rattle.std.proofs.Common.{ap, ◌∙◌}
use Rattle.std.proofs.lemmas.Result.{IfOk-weaker}
use Rattle.cdtext_packs.specs.Texts.{Texts}
use Rattle.cdtext_packs.specs.Writing.{packs_of}
use Rattle.stream_writer.proofs.sheet_texts.packs_of_sheet.Goals as goal

pub returns : goal.returns
returns c =
    IfOk-weaker c.pack_few.result _ _
    (λ packs is. is ∙ ap (λ (texts : Texts). packs_of texts) c.in_ok-map.ensures)
    c.pack_few.ensures
