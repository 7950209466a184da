use Rattle.std.proofs.Common.{◌<◌, ℕ}
use Rattle.picture_script.specs.Script.{picture_pixel}
use Rattle.cdg_cmd.proofs.FirstHalf.{first_half}
use Rattle.run_laws.proofs.Accepted.{accepted_written}
use Rattle.run_laws.proofs.discs.accepted_discs_are_written.Goals as goal

pub returns : goal.returns
returns c = λ lead_in audio sheet script call status is accepted.
    accepted_written sheet script lead_in audio call.out accepted
    ((k x y : ℕ) → picture_pixel script k x y < 16)
    (λ text read. c.accepted_scripts_are_in_order.ensures.pixels text script read)
    (λ pixels why stopped.
    c.each_disc_has_one_answer.ensures.not_both sheet script lead_in audio why accepted stopped)
    call.first.before call.second.before status
    (first_half sheet script lead_in audio call.out call.first.before call.first.after call.second.before
    call.second.after status
    (record { pictures = accepted.disc; room = accepted.room }) is.does)
