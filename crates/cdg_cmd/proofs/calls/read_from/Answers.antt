use Rattle.cdg_io.specs.Reads.{input}
use Rattle.cdg_cmd.proofs.TextReads.{no_text, takes_unread, text_ends, unread, unread_fault}
use Rattle.cdg_cmd.proofs.calls.read_from.Goals as goal

pub returns-in-Err-clause-err : goal.returns-in-Err-clause-err
returns-in-Err-clause-err g c =
    let e = c.in-Err.ensures in
    let stopped =
    unread g.S.Source c.args.source.now c.read_whole.new.source c.in-Err.stop e.too_long e.one_more
    e.no_memory
    e.needs_memory e.cut in
    no_text g.S.Source c.args.source.now c.read_whole.new.source
    c.args.which c.in-Err.stop _ c.read_status.ensures stopped

pub returns-in-Err-clause-taken : goal.returns-in-Err-clause-taken
returns-in-Err-clause-taken g c =
    let e = c.in-Err.ensures in
    let stopped =
    unread g.S.Source c.args.source.now c.read_whole.new.source c.in-Err.stop e.too_long e.one_more
    e.no_memory
    e.needs_memory e.cut in
    takes_unread g.S.Source c.args.source.now c.read_whole.new.source
    c.args.which c.in-Err.stop _ c.read_status.ensures stopped

pub returns-in-Err-clause-reported : goal.returns-in-Err-clause-reported
returns-in-Err-clause-reported g c =
    text_ends c.args.which c.in-Err.stop _ (input g.S.Source c.args.source.now c.read_whole.new.source)
    c.read_status.ensures c.in-Err.ensures.reported

pub returns-in-Err-clause-fault : goal.returns-in-Err-clause-fault
returns-in-Err-clause-fault g c =
    unread_fault c.args.which c.in-Err.stop _ _ _ c.read_status.ensures c.in-Err.ensures.failed
