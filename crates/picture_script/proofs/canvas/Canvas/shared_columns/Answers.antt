use Rattle.std.proofs.Common.{◌≡◌, ◌+◌, ◌-◌, ◌*◌, ◌<◌, ℕ, true, false, get_or, ◌∙◌, arith}
use Rattle.std.specs.Prelude.{◌↔◌}
use Rattle.std.proofs.lemmas.List.{length-set}
use Rattle.picture_script.specs.Board.{tile_of, IsSameColumn}
use Rattle.picture_script.proofs.Parts.{marks_more, tile_reported}
use Rattle.picture_script.proofs.canvas.Canvas.shared_columns.Goals as goal

pub loop-i-preserved : goal.loop-i-preserved
loop-i-preserved c =
    let a = c.args.self.now.pixels in
    let b = c.args.other.now.pixels in
    let columns : (x : ℕ) → x < 288 → get_or c.equal_columns-equal.result x false ≡ true
    ↔ IsSameColumn a b (3456 * (c.args.row - 1) + x) =
    rw (← c.self.view_is, ← c.other.view_is, ← c.from.ensures) c.equal_columns-equal.ensures in
    let tile =
    tile_reported a b c.args.row c.loop-i.i c.equal_columns-equal.result c.are_six_equal.result
    c.requires.first
    c.loop-i-test.true columns c.are_six_equal.ensures in (
      length-set c.loop-i.shared c.loop-i.i c.are_six_equal.result ∙ c.loop-i.invariant.0,
      marks_more (λ m. tile_of a c.args.row (m + 1) ≡ tile_of b c.args.row (m + 1)) c.loop-i.shared c.loop-i.i
          c.are_six_equal.result (omega (arith, c.loop-i.invariant.0, c.loop-i-test.true))
          c.loop-i.invariant.1
          tile,
    )
