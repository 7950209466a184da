use Rattle.std.proofs.Common.{◌<◌, ℕ}
use Rattle.picture_script.specs.Script.{picture_pixel}
use Rattle.run_laws.proofs.Refusals.{disc_refused, script_refused, sheet_refused}
use Rattle.run_laws.proofs.discs.refusals_are_reported.Goals as goal

pub returns-clause-sheet : goal.returns-clause-sheet
returns-clause-sheet c = λ lead_in audio why call status is.
    sheet_refused lead_in audio call.out call.first.before call.first.after call.second.before
    call.second.after why status is.nothing is.does

pub returns-clause-script : goal.returns-clause-script
returns-clause-script c = λ lead_in audio sheet why call status is.
    script_refused lead_in audio call.out call.first.before call.first.after call.second.before
    call.second.after sheet why status is.nothing is.does

pub returns-clause-disc : goal.returns-clause-disc
returns-clause-disc c = λ lead_in audio sheet script why call status is some early stopped.
    disc_refused lead_in audio call.out sheet script why some early stopped
    ((k x y : ℕ) → picture_pixel script k x y < 16)
    (λ text read. c.accepted_scripts_are_in_order.ensures.pixels text script read)
    (λ pixels w accepted other.
    c.each_disc_has_one_answer.ensures.not_both sheet script lead_in audio w accepted other)
    (λ pixels w other memory.
    c.each_disc_has_one_answer.ensures.one sheet script lead_in audio w why other stopped memory some)
    call.first.before call.first.after call.second.before call.second.after status is.nothing is.does
