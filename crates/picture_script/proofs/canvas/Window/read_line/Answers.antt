use Rattle.std.proofs.Common.{◌≡◌, ◌+◌, ◌*◌, ap, ◌∙◌, arith}
use Rattle.std.specs.Prelude.{slice_index}
use Rattle.picture_script.specs.Board.{pixel_of}
use Rattle.picture_script.proofs.canvas.Window.read_line.Goals as goal

pub returns-clause-pixels : goal.returns-clause-pixels
unfolding pixel_of
returns-clause-pixels c i lt =
    let place : 288 * c.args.y + c.args.x + i ≡ 288 * c.args.y + (c.args.x + i) = omega arith in
    ap (λ xs. slice_index xs i) c.copy_from_slice.ensures.after
    ∙ c.loop-i.invariant.1 i (omega (arith, lt)) ∙ ap (slice_index c.args.self.now) place
