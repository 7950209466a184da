use Rattle.std.proofs.lemmas.Result.{IfOk-weaker}
use Rattle.stream_writer.proofs.sheet_texts.pack_texts.Goals as goal

pub returns-clause-texts : goal.returns-clause-texts
returns-clause-texts c =
    IfOk-weaker c.packs_of_sheet.result _ _ (λ packs is some. is) c.packs_of_sheet.ensures

pub returns-clause-none : goal.returns-clause-none
returns-clause-none c = λ none. absurd (c.if-lead_in-eq0.false none)
