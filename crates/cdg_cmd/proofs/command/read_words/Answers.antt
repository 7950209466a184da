use Rattle.cdg_cmd.proofs.Commands.{whole_line}
use Rattle.cdg_cmd.proofs.command.read_words.Goals as goal

pub returns-clause-spelled : goal.returns-clause-spelled
returns-clause-spelled c =
    (whole_line _ _ _ _ _ c.in_ok-name.ensures.cases.0 c.deref.ensures c.read_command.ensures).0

pub returns-clause-all : goal.returns-clause-all
returns-clause-all c =
    (whole_line _ _ _ _ _ c.in_ok-name.ensures.cases.0 c.deref.ensures c.read_command.ensures).1
