use Rattle.text_lines.proofs.Times.{as_parsed}
use Rattle.text_lines.proofs.time.Goals as goal

pub returns-clause-value : goal.returns-clause-value
returns-clause-value c =
    as_parsed c.args.word.now c.parse_time.result c.parse_time.ensures.written c.parse_time.ensures.all
