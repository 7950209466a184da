use Rattle.std.proofs.Common.{◌≡◌, ◌+◌, ◌*◌, ◌/◌, ◌%◌, ◌∙◌, get_or, ap, ap₂, arith}
use Rattle.cdg_screen.specs.Memory.{seen}
use Rattle.cdg_screen.specs.Standing.{screen_pixel}
use Rattle.live_player.proofs.looking.pixels.Goals as goal

pub returns : goal.returns
returns c n lt =
    let i = n % 300 in
    let j = n / 300 in
    let place : n ≡ j * 300 + i = omega arith in
    let x : 0 + i ≡ i = omega arith in
    let y : 0 + j ≡ j = omega arith in
    ap (λ m. get_or c.write_whole.new.pixels m 0) place
    ∙ c.write_whole.ensures.pixels i j (omega arith) (omega (arith, lt))
    ∙ ap₂ (screen_pixel (seen c.args.screen.now)) x y
