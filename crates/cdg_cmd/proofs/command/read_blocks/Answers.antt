use Rattle.std.proofs.Common.{rules}
use Rattle.cdg_cmd.proofs.command.read_blocks.Goals as goal

pub returns-in_err-stream-clause-all : goal.returns-in_err-stream-clause-all
returns-in_err-stream-clause-all c = λ lead_in form within cooked spelled.
    let found = c.read_stream.ensures.all lead_in form within spelled in
    let none = c.in_err-stream.was in
    search rules

pub returns-clause-all : goal.returns-clause-all
returns-clause-all c = λ lead_in form within cooked spelled.
    let found = c.read_stream.ensures.all lead_in form within spelled in
    let some = c.in_ok-stream.was in
    search rules
