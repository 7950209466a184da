use Rattle.std.proofs.Common.{refl, ◌∙◌}
use Rattle.std.proofs.KnownBytes.{Appends-nil}
use Rattle.cdg_cmd.specs.Authors.{StopsAtScript, Answers}
use Rattle.cdg_cmd.specs.Ends.{AfterBoth, AtSecond, AtSheet}
use Rattle.cdg_cmd.proofs.AuthorReported.{report_at_script, report_at_sheet, reported_of_both}
use Rattle.cdg_cmd.proofs.Allocations as allocations
use Rattle.cdg_cmd.proofs.making.run_author.Goals as goal

pub returns-in-Err-read_script-clause-does : goal.returns-in-Err-read_script-clause-does
returns-in-Err-read_script-clause-does g c =
    StopsAtScript c.in-Ok.sheet c.in-Ok.ensures.ok c.in-Err-read_script.ensures.err
    c.in-Err-read_script.ensures.taken (Appends-nil (g.K.Sink.held c.args.out.now))

pub returns-clause-does : goal.returns-clause-does
returns-clause-does g c =
    Answers c.in-Ok.sheet c.in-Ok-read_script.script c.author.result c.in-Ok.ensures.ok
    c.in-Ok-read_script.ensures.ok c.author_status.ensures
    c.author.ensures.put

pub returns-clause-faults : goal.returns-clause-faults
returns-clause-faults g c =
    reported_of_both c.in-Ok.sheet c.in-Ok-read_script.script c.author.result _ _ _ _ _ _ _
    c.author_status.ensures c.in-Ok.ensures.fault c.in-Ok-read_script.ensures.fault
    c.author.ensures.write_fault

pub returns-in-Err-clause-faults : goal.returns-in-Err-clause-faults
returns-in-Err-clause-faults g c = report_at_sheet _ _ _ _ _ _ c.in-Err.ensures.err c.in-Err.ensures.fault

pub returns-in-Err-clause-ended : goal.returns-in-Err-clause-ended
returns-in-Err-clause-ended g c = AtSheet c.in-Err.ensures.err c.in-Err.ensures.reported refl refl

pub returns-in-Err-read_script-clause-faults : goal.returns-in-Err-read_script-clause-faults
returns-in-Err-read_script-clause-faults g c =
    report_at_script c.in-Ok.sheet _ _ _ _ _ _ _ c.in-Err-read_script.ensures.err c.in-Ok.ensures.fault
    c.in-Err-read_script.ensures.fault

pub returns-in-Err-read_script-clause-ended : goal.returns-in-Err-read_script-clause-ended
returns-in-Err-read_script-clause-ended g c =
    AtSecond c.in-Ok.sheet c.in-Ok.ensures.ok c.in-Ok.ensures.reported c.in-Err-read_script.ensures.err
    c.in-Err-read_script.ensures.taken c.in-Err-read_script.ensures.reported

pub returns-clause-ended : goal.returns-clause-ended
returns-clause-ended g c =
    AfterBoth c.in-Ok.ensures.reported c.in-Ok-read_script.ensures.ok.0 c.in-Ok-read_script.ensures.reported
    c.author.result c.author_status.ensures

pub returns-in-Err-clause-allocations : goal.returns-in-Err-clause-allocations
returns-in-Err-clause-allocations g c = allocations.stopped _ _ _ c.in-Err.ensures.allocations

pub returns-in-Err-read_script-clause-allocations : goal.returns-in-Err-read_script-clause-allocations
returns-in-Err-read_script-clause-allocations g c =
    allocations.reached _ _ _ _ (allocations.as_it_was c.in-Ok.sheet _ _ c.in-Ok.ensures.allocations)
    (allocations.stopped _ _ _ c.in-Err-read_script.ensures.allocations)

pub returns-clause-allocations : goal.returns-clause-allocations
returns-clause-allocations g c =
    allocations.reached _ _ _ _
    (allocations.as_it_was c.in-Ok-read_script.script _ _ c.in-Ok-read_script.ensures.allocations
    ∙ allocations.as_it_was c.in-Ok.sheet _ _ c.in-Ok.ensures.allocations)
    (allocations.reported_authored _ _ c.author.result _ c.author_status.ensures c.author.ensures.counted)
