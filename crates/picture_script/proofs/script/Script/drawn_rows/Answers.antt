use Rattle.std.proofs.Common.{◌≡◌, ◌-◌, ◌<◌, ℕ, ap, length, refl, ◌∙◌, arith}
use Rattle.std.specs.Prelude.{take}
use Rattle.picture_script.specs.Script.{Picture, drawn_by, lines_before}
use Rattle.picture_script.specs.Lines.{said}
use Rattle.picture_script.proofs.Drawn.{before-most, kept_at, length-all_said, next_said, said_at}
use Rattle.picture_script.proofs.RowMarks.{all_marked, between_pictures, one_line_more, reported_between}
use Rattle.picture_script.proofs.Scripts.{before_rising}
use Rattle.picture_script.proofs.script.Script.drawn_rows.Goals as goal

pub index-requires : goal.index-requires
index-requires c =
    let size = length-all_said c.self.inside.pixels.items c.self.inside.lines.items in
    let same = ap length c.self.view_is in
    omega (arith, size, same, c.place-i-end.ensures, before-most c.args.self.now c.args.k)

pub mark_line-requires : goal.mark_line-requires
mark_line-requires c =
    let size = length-all_said c.self.inside.pixels.items c.self.inside.lines.items in
    let same = ap length c.self.view_is in
    let kept : ℕ = length c.self.inside.pixels.items in
    record {
      kept = (
        kept,
        kept_at c.self.inside.lines.items kept kept c.loop-i.i c.index.result.now c.self.invariant.kept refl
            (omega (arith, size, same, c.place-i-end.ensures, before-most c.args.self.now c.args.k))
            c.index.ensures,
      );
    }

pub loop-i-preserved : goal.loop-i-preserved
loop-i-preserved c =
    let script = c.args.self.now in
    let i = c.loop-i.i in
    let pixels = c.self.inside.pixels.items in
    let lines = c.self.inside.lines.items in
    let size = length-all_said pixels lines in
    let same = ap length c.self.view_is in
    let inside : i < length lines =
    omega (arith, size, same, c.place-i-end.ensures, before-most script c.args.k) in
    record {
      leaves = λ r x y none at.
          let left = c.mark_line.ensures.leaves pixels (drawn_by (take i script)) r x y none at in
          let next =
          next_said pixels lines script i c.index.result.now c.self.view_is inside c.index.ensures in
          c.loop-i.invariant.leaves r x y left.0 at ∙ left.1 ∙ ap (λ (p : Picture). p.pixel x y) next;
      marks = λ r reported. one_line_more script c.place-from.result i r _ (said pixels c.index.result.now)
          (omega arith)
          (said_at pixels lines script i c.index.result.now c.self.view_is inside c.index.ensures)
          c.loop-i.invariant.marks (c.mark_line.ensures.marks pixels r reported);
    }

pub returns-clause-keeps : goal.returns-clause-keeps
returns-clause-keeps c =
    let script = c.args.self.now in
    let rising = before_rising script (c.args.k - 1) c.args.k (omega arith) in
    let end : c.loop-i.i ≡ length (lines_before script c.args.k) =
    omega (arith, c.place-from.ensures, c.place-i-end.ensures, rising) in
    between_pictures script c.args.k c.place-from.result c.loop-i.i c.loop-i.rows
    (omega (arith, c.if-k-eq0.false)) c.place-from.ensures end c.loop-i.invariant.leaves

pub returns-clause-drawn : goal.returns-clause-drawn
returns-clause-drawn c =
    let script = c.args.self.now in
    let rising = before_rising script (c.args.k - 1) c.args.k (omega arith) in
    let end : c.loop-i.i ≡ length (lines_before script c.args.k) =
    omega (arith, c.place-from.ensures, c.place-i-end.ensures, rising) in
    reported_between script c.args.k c.place-from.result c.loop-i.i c.loop-i.rows c.place-from.ensures end
    c.loop-i.invariant.marks

pub returns-then-k-eq0-clause-keeps : goal.returns-then-k-eq0-clause-keeps
returns-then-k-eq0-clause-keeps c r unmarked = absurd (cc (all_marked 16 r))
