use Rattle.std.proofs.Common.{◌++◌, [], flat_map, ap, refl, sym, ◌∙◌, subst, arith, ℕ}
use Rattle.std.specs.Io.KnownBytes.{Appends}
use Rattle.std.proofs.KnownBytes.{Appends-nil}
use Rattle.cdg_io.specs.Causes.{HasCause}
use Rattle.std.proofs.lemmas.List.{append-nil}
use Rattle.cdg_io.specs.Moves.{AppendsPrefix}
use Rattle.cdtext_packs.specs.Texts.{kinds}
use Rattle.cdtext_packs.specs.TextLines.{kind_lines, offers_line, counted_lines}
use Rattle.cdtext_packs.proofs.Pieces.{on_err, on_err_map, on_ok_map, no_ok, write_failed, piece_more, piece_part, prefix_on, put_both, all_put}
use Rattle.cdtext_packs.proofs.text.write_lines.Goals as goal

pub returns-in_err-write_kind-clause-part : goal.returns-in_err-write_kind-clause-part
returns-in_err-write_kind-clause-part g c =
    on_err c.from_residual.result _ (piece_part _ _ _ (kind_lines c.args.map.now) kinds
    (offers_line c.args.good c.args.bad c.args.other) c.loop-kind.kind-index _ c.loop-kind-test.true
    c.loop-kind.invariant.0 c.in_err-write_kind.ensures.part)

pub returns-clause-part : goal.returns-clause-part
returns-clause-part g c =
    on_err_map c.put_all.result _ _ (λ last.
    prefix_on _ _ _ (flat_map (kind_lines c.args.map.now) kinds)
    (offers_line c.args.good c.args.bad c.args.other) []
    (counted_lines c.args.map.now c.args.good c.args.bad c.args.other)
    (all_put _ _ (kind_lines c.args.map.now) kinds c.loop-kind.kind-index (omega arith)
    c.loop-kind.invariant.0)
    (subst (AppendsPrefix _ _) (c.bytes.ensures.bytes ∙ c.count_line-counts.ensures) last)
    (ap (λ xs. flat_map (kind_lines c.args.map.now) kinds ++ xs)
    (sym (append-nil (offers_line c.args.good c.args.bad c.args.other))))) c.put_all.ensures.part

pub loop-kind-init : goal.loop-kind-init
loop-kind-init g c = (Appends-nil (g.K.Sink.held c.args.out.now), refl)

pub loop-kind-preserved : goal.loop-kind-preserved
loop-kind-preserved g c = (
  piece_more _ _ _ (kind_lines c.args.map.now) kinds c.loop-kind.kind-index _ c.loop-kind-test.true
      c.loop-kind.invariant.0 c.in_ok-write_kind.ensures.ok,
  c.in_ok-write_kind.ensures.cause.same ∙ c.loop-kind.invariant.1,
)

pub returns-clause-ok : goal.returns-clause-ok
returns-clause-ok g c =
    on_ok_map c.put_all.result _ _ (λ last.
    put_both _ _ _ (flat_map (kind_lines c.args.map.now) kinds)
    (offers_line c.args.good c.args.bad c.args.other)
    (counted_lines c.args.map.now c.args.good c.args.bad c.args.other)
    (all_put _ _ (kind_lines c.args.map.now) kinds c.loop-kind.kind-index (omega arith)
    c.loop-kind.invariant.0)
    (subst (Appends _ _) (c.bytes.ensures.bytes ∙ c.count_line-counts.ensures) last) refl)
    c.put_all.ensures.ok

pub returns-clause-cause : goal.returns-clause-cause
returns-clause-cause g c =
    subst (λ (before : ℕ). HasCause before (g.K.Sink.faults c.put_all.new.out) c.put_all.result)
    c.loop-kind.invariant.1 c.put_all.ensures.cause

pub returns-in_err-write_kind-clause-ok : goal.returns-in_err-write_kind-clause-ok
returns-in_err-write_kind-clause-ok g c = no_ok c.from_residual.result _ c.from_residual.ensures.0

pub returns-in_err-write_kind-clause-cause : goal.returns-in_err-write_kind-clause-cause
returns-in_err-write_kind-clause-cause g c =
    let cause = c.in_err-write_kind.ensures.cause in
    write_failed c.from_residual.result _ _ _ c.from_residual.ensures.0 c.loop-kind.invariant.1 cause.later
    cause.failed
