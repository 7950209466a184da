use Rattle.std.proofs.Common.{◌∙◌, ◌*◌, ◌+◌, ◌-◌, ap, sym, take, drop}
use Rattle.block_survey.proofs.EndedWords.{block_there}
use Rattle.block_survey.proofs.surveying.block_at.Goals as goal

pub returns : goal.returns
returns c =
    c.bytes_at.ensures
    ∙ ap (λ size. take 96 (drop (size * c.args.b + size - 96) c.args.stream.now)) c.unit_bytes-size.ensures
    ∙ sym (block_there c.args.form c.args.stream.now c.args.b c.requires)
