use Rattle.std.proofs.Common.{refl, sym, subst, ◌∙◌}
use Rattle.std.proofs.KnownBytes.{Appends-nil}
use Rattle.cdg_io.specs.Change.{change}
use Rattle.cdg_cmd.specs.Ends.{AfterBoth, AtSecond, AtSheet}
use Rattle.cdg_cmd.specs.Presses.{Presses, ReadsFile, RefusesFile}
use Rattle.cdg_cmd.proofs.AuthorReported.{report_at_sheet}
use Rattle.cdg_cmd.proofs.PressReported.{report_at_file, reported_of_both}
use Rattle.cdg_cmd.proofs.TextReads.{no_file}
use Rattle.cdg_cmd.proofs.Allocations as allocations
use Rattle.cdg_cmd.proofs.making.run_press.Goals as goal

pub returns-in-Err-read_text-clause-does : goal.returns-in-Err-read_text-clause-does
returns-in-Err-read_text-clause-does g c =
    RefusesFile c.in-Ok.sheet c.in-Ok.ensures.ok (no_file _ _ c.in-Err-read_text.ensures.err)
    c.in-Err-read_text.ensures.taken (Appends-nil (g.K.Sink.held c.args.out.now))

pub returns-clause-does : goal.returns-clause-does
returns-clause-does g c =
    let file : ReadsFile (change g.T.Source.left c.args.second.now c.read_text.new.source)
    c.in-Ok-read_text.file.items =
    record {
      end = c.in-Ok-read_text.ensures.end;
      within = c.in-Ok-read_text.ensures.within;
      held = c.in-Ok-read_text.ensures.all;
    } in
    let reads =
    subst (ReadsFile (change g.T.Source.left c.args.second.now c.read_text.new.source))
    (sym c.deref.ensures.value) file in
    Presses c.in-Ok.sheet c.deref.result.now c.press.result c.in-Ok.ensures.ok reads
    c.press_status.ensures
    c.press.ensures.put

pub returns-clause-faults : goal.returns-clause-faults
returns-clause-faults g c =
    reported_of_both c.in-Ok.sheet c.in-Ok-read_text.file c.press.result _ _ _ _ _ _ _
    c.press_status.ensures c.in-Ok.ensures.fault c.in-Ok-read_text.ensures.fault
    c.press.ensures.write_fault

pub returns-in-Err-clause-faults : goal.returns-in-Err-clause-faults
returns-in-Err-clause-faults g c = report_at_sheet _ _ _ _ _ _ c.in-Err.ensures.err c.in-Err.ensures.fault

pub returns-in-Err-clause-ended : goal.returns-in-Err-clause-ended
returns-in-Err-clause-ended g c = AtSheet c.in-Err.ensures.err c.in-Err.ensures.reported refl refl

pub returns-in-Err-read_text-clause-faults : goal.returns-in-Err-read_text-clause-faults
returns-in-Err-read_text-clause-faults g c =
    report_at_file c.in-Ok.sheet _ _ _ _ _ _ _ (no_file _ _ c.in-Err-read_text.ensures.err)
    c.in-Ok.ensures.fault
    c.in-Err-read_text.ensures.fault

pub returns-in-Err-read_text-clause-ended : goal.returns-in-Err-read_text-clause-ended
returns-in-Err-read_text-clause-ended g c =
    AtSecond c.in-Ok.sheet c.in-Ok.ensures.ok c.in-Ok.ensures.reported
    (no_file _ _ c.in-Err-read_text.ensures.err)
    c.in-Err-read_text.ensures.taken c.in-Err-read_text.ensures.reported

pub returns-clause-ended : goal.returns-clause-ended
returns-clause-ended g c =
    AfterBoth c.in-Ok.ensures.reported c.in-Ok-read_text.ensures.end c.in-Ok-read_text.ensures.reported
    c.press.result c.press_status.ensures

pub returns-in-Err-clause-allocations : goal.returns-in-Err-clause-allocations
returns-in-Err-clause-allocations g c = allocations.stopped _ _ _ c.in-Err.ensures.allocations

pub returns-in-Err-read_text-clause-allocations : goal.returns-in-Err-read_text-clause-allocations
returns-in-Err-read_text-clause-allocations g c =
    allocations.reached _ _ _ _ (allocations.as_it_was c.in-Ok.sheet _ _ c.in-Ok.ensures.allocations)
    (allocations.stopped _ _ _ c.in-Err-read_text.ensures.allocations)

pub returns-clause-allocations : goal.returns-clause-allocations
returns-clause-allocations g c =
    allocations.reached _ _ _ _
    (allocations.as_it_was c.in-Ok-read_text.file _ _ c.in-Ok-read_text.ensures.allocations
    ∙ allocations.as_it_was c.in-Ok.sheet _ _ c.in-Ok.ensures.allocations)
    (allocations.reported_pressed _ _ c.press.result _ c.press_status.ensures c.press.ensures.counted)
