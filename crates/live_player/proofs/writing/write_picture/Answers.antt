use Rattle.std.proofs.Common.{◌≡◌, ◌+◌, ◌*◌, ◌/◌, ◌%◌, ◌∙◌, get_or, ap, ap₂, arith}
use Rattle.cdg_screen.specs.Memory.{seen}
use Rattle.live_player.specs.Lives.{picture_byte}
use Rattle.live_player.specs.Formats.{shown_bytes}
use Rattle.live_player.specs.declared.format.PixelFormat.TheVariants.{Rgb}
use Rattle.live_player.proofs.writing.write_picture.Goals as goal

pub returns : goal.returns
unfolding picture_byte shown_bytes
returns c n lt =
    let now = seen c.args.screen.now in
    let i = n / 3 % 300 in
    let j = n / 3 / 300 in
    let k = n % 3 in
    let place : n ≡ j * 900 + (3 * i + k) = omega arith in
    let x : 0 + i ≡ i = omega arith in
    let y : 0 + j ≡ j = omega arith in
    ap (λ m. get_or c.write_pixels.new.out m 0) place
    ∙ c.write_pixels.ensures.pixels i j k (omega arith) (omega (arith, lt)) (omega arith)
    ∙ ap₂ (λ a b. get_or (shown_bytes Rgb now a b) k 0) x y
