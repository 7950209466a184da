use Rattle.std.proofs.Common.{◌≡◌, ◌≤◌, ◌+◌, ap, sym, subst, refl, length, ◌∙◌, arith, take}
use Rattle.std.specs.Prelude.{Some}
use Rattle.picture_script.specs.Lines.{said}
use Rattle.picture_script.specs.Script.{drawn, drawn_by}
use Rattle.picture_script.specs.Board.{IsDrawn, IsSet}
use Rattle.picture_script.proofs.Drawn.{drawn_before, none_before, not_after, drawn-picture, before-most, length-all_said, next_line, next_set, kept_at, set_before, filled-drawn}
use Rattle.picture_script.proofs.canvas.Canvas.draw_until.Goals as goal
use Rattle.picture_script.proofs.canvas.Canvas.draw_until.Goals.{in-Some, in-None, in-Some-last_fill+else-loop-i-test, in_default}

pub last_fill-requires : goal.last_fill-requires
last_fill-requires c = omega (arith, before-most c.args.script.now c.args.k, c.place-to.ensures)

pub loop-i-init : goal.loop-i-init
loop-i-init c =
    let script = c.args.script.now in
    let at = ap (λ board. board.at) (sym c.self.view_is) in
    let before : IsDrawn (drawn_by (take c.match-self.from script)) c.args.self.now =
    elim c.match-self.branch [
      | in-Some w ↦
          drawn_before script c.args.k w.in-Some.drawn c.match-self.from c.args.self.now
          (at ∙ w.in-Some.is) c.requires.before (w.from-is ∙ w.place-from.ensures)
      | in-None w ↦
          none_before script c.args.k c.match-self.from c.args.self.now (at ∙ w.in-None.is) c.requires.before
          w.from-is
    ] in
    set_before (drawn_by (take c.match-self.from script)) c.args.self.now before

pub index-requires : goal.index-requires
index-requires c =
    let size = length-all_said c.script.inside.pixels.items c.script.inside.lines.items in
    let same = ap length c.script.view_is in
    let most = before-most c.args.script.now c.args.k in
    omega (arith, size, same, most, c.place-to.ensures, c.in-Some-last_fill.ensures.place.1)

pub set-requires : goal.set-requires
set-requires c =
    let size = length-all_said c.script.inside.pixels.items c.script.inside.lines.items in
    let same = ap length c.script.view_is in
    let most = before-most c.args.script.now c.args.k in
    record {
      kept = (
        length c.script.inside.pixels.items,
        kept_at c.script.inside.lines.items (length c.script.inside.pixels.items)
            (length c.script.inside.pixels.items) c.loop-i.i c.index.result.now c.script.invariant.kept refl
            (omega (arith, size, same, most, c.place-to.ensures, c.in-Some-last_fill.ensures.place.1))
            c.index.ensures,
      );
    }

pub loop-i-preserved : goal.loop-i-preserved
loop-i-preserved c =
    let script = c.args.script.now in
    let size = length-all_said c.script.inside.pixels.items c.script.inside.lines.items in
    let same = ap length c.script.view_is in
    let most = before-most script c.args.k in
    next_set c.script.inside.pixels.items c.script.inside.lines.items script c.loop-i.i c.index.result.now
    c.set.new.self c.script.view_is
    (omega (arith, size, same, most, c.place-to.ensures, c.in-Some-last_fill.ensures.place.1)) c.index.ensures
    (c.set.ensures.set c.script.inside.pixels.items (drawn_by (take c.loop-i.i script)) c.loop-i.invariant)

pub loop-i-2-init : goal.loop-i-2-init
loop-i-2-init c =
    let script = c.args.script.now in
    let from = c.match-last_fill.from in
    let at = ap (λ board. board.at) (sym c.self.view_is) in
    let most = before-most script c.args.k in
    elim c.match-last_fill.branch [
      | in-Some-last_fill+else-loop-i-test w ↦
          let place = w.in-Some-last_fill.place in
          let end : w.loop-i.i ≡ place = omega (arith, w.in-Some-last_fill.ensures.place.0) in
          let inside = w.self-in-Some-last_fill.inside in
          let view = w.self-in-Some-last_fill.view_is in
          let filled =
          filled-drawn script place w.in-Some-last_fill.colour inside.border w.clear.new.self inside.colours
          inside.at w.loop-i.self
          (omega (arith, most, c.place-to.ensures, w.in-Some-last_fill.ensures.place.1))
          w.in-Some-last_fill.ensures.fill w.clear.ensures
          (subst (λ n. IsSet (drawn_by (take n script)) w.loop-i.self) end w.loop-i.invariant)
          (sym (ap (λ board. board.border) view)) (sym (ap (λ board. board.colours) view)) in
          subst (λ n. IsDrawn (drawn_by (take n script)) c.match-last_fill.self) (sym w.from-is)
          (subst (λ board. IsDrawn (drawn_by (take (place + 1) script)) board) (sym w.self-is) filled)
      | in_default w ↦
          let before : IsDrawn (drawn_by (take c.match-self.from script)) c.args.self.now =
          elim c.match-self.branch [
            | in-Some v ↦
                drawn_before script c.args.k v.in-Some.drawn c.match-self.from c.args.self.now
                (at ∙ v.in-Some.is) c.requires.before (v.from-is ∙ v.place-from.ensures)
            | in-None v ↦
                none_before script c.args.k c.match-self.from c.args.self.now (at ∙ v.in-None.is)
                c.requires.before v.from-is
          ] in
          subst (λ n. IsDrawn (drawn_by (take n script)) c.match-last_fill.self) (sym w.from-is)
          (subst (λ board. IsDrawn (drawn_by (take c.match-self.from script)) board) (sym w.self-is) before)
    ]

pub index-requires-in-loop-i-2 : goal.index-requires-in-loop-i-2
index-requires-in-loop-i-2 c =
    let size = length-all_said c.script.inside.pixels.items c.script.inside.lines.items in
    let same = ap length c.script.view_is in
    omega (arith, size, same, before-most c.args.script.now c.args.k, c.place-to.ensures)

pub draw-requires-clause-kept : goal.draw-requires-clause-kept
draw-requires-clause-kept c =
    let size = length-all_said c.script.inside.pixels.items c.script.inside.lines.items in
    let same = ap length c.script.view_is in
    kept_at c.script.inside.lines.items (length c.script.inside.pixels.items) (length c.deref.result.now)
    c.loop-i-2.i c.index-in-loop-i-2.result.now c.script.invariant.kept (ap length c.deref.ensures.value)
    (omega (arith, size, same, before-most c.args.script.now c.args.k, c.place-to.ensures))
    c.index-in-loop-i-2.ensures

pub loop-i-2-preserved : goal.loop-i-2-preserved
loop-i-2-preserved c =
    let script = c.args.script.now in
    let size = length-all_said c.script.inside.pixels.items c.script.inside.lines.items in
    let same = ap length c.script.view_is in
    let i = c.loop-i-2.i in
    let line = c.index-in-loop-i-2.result.now in
    let step = c.draw.ensures.drawn (drawn_by (take i script)) c.loop-i-2.invariant in
    next_line c.script.inside.pixels.items c.script.inside.lines.items script i line c.draw.new.self
    c.script.view_is (omega (arith, size, same, before-most script c.args.k, c.place-to.ensures))
    c.index-in-loop-i-2.ensures
    (subst (λ pixels. IsDrawn (drawn (drawn_by (take i script)) (said pixels line)) c.draw.new.self)
    c.deref.ensures.value step)

pub returns-clause-picture : goal.returns-clause-picture
returns-clause-picture c =
    let script = c.args.script.now in
    let at = ap (λ board. board.at) (sym c.self.view_is) in
    let order : c.match-last_fill.from ≤ c.place-to.result = elim c.match-last_fill.branch [
      | in-Some-last_fill+else-loop-i-test w ↦ omega (arith, w.from-is, w.in-Some-last_fill.ensures.place.1)
      | in_default w ↦ elim c.match-self.branch [
        | in-Some v ↦ omega (
          arith,
          w.from-is,
          v.from-is,
          v.place-from.ensures,
          c.place-to.ensures,
          not_after script c.args.k v.in-Some.drawn c.args.self.now (at ∙ v.in-Some.is) c.requires.before,
        )
        | in-None v ↦ omega (arith, w.from-is, v.from-is)
      ]
    ] in
    let end : c.loop-i-2.i ≡ c.place-to.result = omega (arith, order) in
    drawn-picture script c.args.k c.loop-i-2.i (record {
      pixels = c.self-2.inside.window;
      border = c.self-2.inside.border;
      colours = c.self-2.inside.colours;
      at = c.self-2.inside.at;
    }) (Some c.args.k)
    (end ∙ c.place-to.ensures)
    (subst (λ board. IsDrawn (drawn_by (take c.loop-i-2.i script)) board) (sym c.self-2.view_is)
    c.loop-i-2.invariant)
