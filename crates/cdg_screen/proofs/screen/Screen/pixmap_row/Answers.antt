use Rattle.std.proofs.Common.{◌≡◌, ℕ, arith, sym, ap, slice_index, ◌∙◌, flat_map}
use Rattle.bit_lists.specs.Counting.{below}
use Rattle.cdg_screen.specs.Standing.{screen_pixel}
use Rattle.cdg_screen.specs.Texts.{pixmap_row, colour_bytes}
use Rattle.cdg_screen.proofs.Pieces.{three_more}
use Rattle.cdg_screen.proofs.screen.Screen.pixmap_row.Goals as goal

pub loop-x-preserved : goal.loop-x-preserved
loop-x-preserved c =
    let f =
    λ (x : ℕ). colour_bytes (slice_index c.args.self.now.colours (screen_pixel c.args.self.now x c.args.y)) in
    let colours = c.args.self.now.colours in
    let drawn : slice_index colours (screen_pixel c.args.self.now c.loop-x.x c.args.y)
    ≡ c.colour-colour.result =
    sym (c.colour-colour.ensures.colour ∙ ap (slice_index colours) c.pixel.ensures.pixel) in (
      three_more f c.loop-x.x _ _ _ _ _ _ _ c.loop-x.invariant.0 c.push.ensures.items
          c.push-in-loop-x.ensures.items c.push-in-loop-x-2.ensures.items (ap colour_bytes drawn),
      omega (arith, c.push.ensures.len, c.push-in-loop-x.ensures.len, c.push-in-loop-x-2.ensures.len),
    )

pub returns : goal.returns
unfolding pixmap_row
returns c =
    let last : c.loop-x.x ≡ 300 = omega arith in
    let f =
    λ (x : ℕ). colour_bytes (slice_index c.args.self.now.colours (screen_pixel c.args.self.now x c.args.y)) in
    c.loop-x.invariant.0 ∙ ap (λ (n : ℕ). flat_map f (below n)) last
