use Rattle.cdg_screen.specs.Memory.{seen}
use Rattle.std.proofs.Common.{◌≡◌, ◌<◌, ◌∙◌, get_or, subst, sym, arith}
use Rattle.cdg_screen.specs.Standing.{screen_pixel}
use Rattle.live_player.proofs.Pictures.{three_written}
use Rattle.live_player.proofs.looking.bytes.Goals as goal

pub loop-x-preserved : goal.loop-x-preserved
loop-x-preserved c n lt =
    let now = (seen c.args.screen.now) in
    let x = c.loop-x.x in
    let y = c.loop-y.y in
    let p = c.from-pixel.result in
    let x_lt : x < 300 = omega arith in
    let is : p ≡ screen_pixel now x y = c.from-pixel.ensures ∙ c.write_row.ensures.pixels x x_lt in
    let small : p < 16 = subst (λ v. v < 16) (sym c.from-pixel.ensures) (c.write_row.ensures.range x) in
    three_written now c.loop-x.bytes c.write_three.new.bytes (get_or c.parts-red.result p 0)
    (get_or c.parts-green.result p 0) (get_or c.parts-blue.result p 0) p x y x_lt is
    (c.parts-red.ensures p small) (c.parts-green.ensures p small) (c.parts-blue.ensures p small)
    c.loop-x.invariant c.write_three.ensures n lt
