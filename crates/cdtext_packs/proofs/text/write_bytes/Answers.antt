use Rattle.std.proofs.Common.{refl, subst, ◌∙◌, arith}
use Rattle.std.specs.Io.KnownBytes.{Appends}
use Rattle.std.proofs.KnownBytes.{Appends-nil}
use Rattle.cdg_io.specs.Moves.{AppendsPrefix}
use Rattle.cdtext_packs.specs.TextLines.{printed}
use Rattle.cdtext_packs.proofs.Pieces.{on_err, no_ok, write_failed, part_of_all, piece_more, all_put}
use Rattle.cdtext_packs.proofs.text.write_bytes.Goals as goal

pub returns-in_err-put_all-clause-part : goal.returns-in_err-put_all-clause-part
returns-in_err-put_all-clause-part g c =
    on_err c.from_residual.result _ (part_of_all _ _ _ printed c.args.bytes.now c.loop-byte.byte-index 0
    c.loop-byte-test.true c.loop-byte.invariant.0
    (subst (AppendsPrefix _ _) (c.bytes.ensures.bytes ∙ c.printed.ensures) c.in_err-put_all.ensures.part))

pub loop-byte-init : goal.loop-byte-init
loop-byte-init g c = (Appends-nil (g.K.Sink.held c.args.out.now), refl)

pub loop-byte-preserved : goal.loop-byte-preserved
loop-byte-preserved g c = (
  piece_more _ _ _ printed c.args.bytes.now c.loop-byte.byte-index 0 c.loop-byte-test.true
      c.loop-byte.invariant.0
      (subst (Appends _ _) (c.bytes.ensures.bytes ∙ c.printed.ensures) c.in_ok-put_all.ensures.ok),
  c.in_ok-put_all.ensures.cause.same ∙ c.loop-byte.invariant.1,
)

pub returns-clause-ok : goal.returns-clause-ok
returns-clause-ok g c =
    all_put _ _ printed c.args.bytes.now c.loop-byte.byte-index (omega arith) c.loop-byte.invariant.0

pub returns-in_err-put_all-clause-ok : goal.returns-in_err-put_all-clause-ok
returns-in_err-put_all-clause-ok g c = no_ok c.from_residual.result _ c.from_residual.ensures.0

pub returns-in_err-put_all-clause-cause : goal.returns-in_err-put_all-clause-cause
returns-in_err-put_all-clause-cause g c =
    let cause = c.in_err-put_all.ensures.cause in
    write_failed c.from_residual.result _ _ _ c.from_residual.ensures.0 c.loop-byte.invariant.1 cause.later
    cause.failed

pub returns-clause-cause : goal.returns-clause-cause
returns-clause-cause g c =
    record { later = omega (arith, c.loop-byte.invariant.1); failed = tt; same = c.loop-byte.invariant.1 }
