use Rattle.std.proofs.Common.{◌≡◌, ◌+◌, ◌-◌, length, arith}
use Rattle.std.proofs.Math.Logic.{∥∥₁_map, ∥∥₁_elim}
use Rattle.stream_trial.proofs.Courses.{knows_more, knows_whole}
use Rattle.stream_trial.proofs.Steady.{IsSteady-prop}
use Rattle.stream_trial.proofs.run.TrialRun.take.Goals as goal

pub invariant_of-self-clause-known : goal.invariant_of-self-clause-known
invariant_of-self-clause-known c =
    let run = c.args.self.now in
    let part = c.args.part.now in
    ∥∥₁_map run.known (λ known.
    knows_more run.script.now run.seed run.pictures run.course run.block run.history.bytes part
    c.copy_from_slice.new.self
    c.note.new.self.bytes run.filled (run.filled + length part - run.filled)
    (omega (arith, known.long, c.requires.fits))
    c.copy_from_slice.ensures.after c.note.ensures (omega arith) known)

pub go_over-requires-clause-steady : goal.go_over-requires-clause-steady
go_over-requires-clause-steady c =
    let run = c.args.self.now in
    ∥∥₁_elim run.known (IsSteady-prop run.script.now run.course) (λ known. known.steady)

pub invariant_of-self-else-end-lt-BLOCK_BYTES-clause-known :
    goal.invariant_of-self-else-end-lt-BLOCK_BYTES-clause-known
invariant_of-self-else-end-lt-BLOCK_BYTES-clause-known c =
    let run = c.args.self.now in
    let part = c.args.part.now in
    let end : run.filled + length part ≡ 96 = omega (arith, c.requires.fits, c.if-end-lt-BLOCK_BYTES.false) in
    let gone = c.go_over.ensures in
    ∥∥₁_map run.known (λ known.
    knows_whole run.script.now run.seed run.pictures run.course c.go_over.new.self run.block run.history.bytes
    part
    c.copy_from_slice.new.self c.note.new.self.bytes run.filled (run.filled + length part - run.filled)
    (omega (arith, known.long, c.requires.fits)) c.copy_from_slice.ensures.after c.note.ensures
    (omega arith) end gone.blocks
    gone.steady gone.gone_over known)
