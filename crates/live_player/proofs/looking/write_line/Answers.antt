use Rattle.std.proofs.Common.{◌≡◌, ◌+◌, ◌∙◌, ap, get_or, arith}
use Rattle.cdg_screen.specs.Memory.{seen}
use Rattle.cdg_screen.specs.Standing.{screen_pixel}
use Rattle.live_player.proofs.looking.write_line.Goals as goal

pub returns-then-line-eq-SCREEN_WIDTH : goal.returns-then-line-eq-SCREEN_WIDTH
returns-then-line-eq-SCREEN_WIDTH c i lt =
    let place : 0 + i ≡ c.args.part.now.left + i =
    omega (arith, c.requires.part.0, c.requires.size) in
    c.write_columns.ensures.pixels i (omega (arith, lt, c.requires.size))
    ∙ ap (λ x. screen_pixel (seen c.args.screen.now) x (c.args.part.now.top + c.args.j)) place

pub returns-in-Some : goal.returns-in-Some
returns-in-Some c i lt =
    ap (λ l. get_or l i 0) c.copy_from_slice.ensures.after ∙ c.in-Some.ensures.pixels i lt

pub returns-in-None : goal.returns-in-None
returns-in-None c i lt = c.write_columns-in-None.ensures.pixels i (omega (arith, lt, c.requires.size))
