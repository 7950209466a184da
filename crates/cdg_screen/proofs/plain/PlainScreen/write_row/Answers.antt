use Rattle.std.proofs.Common.{◌≡◌, ◌+◌, ◌∙◌, ap, arith}
use Rattle.cdg_screen.specs.Memory.{seen}
use Rattle.cdg_screen.specs.Standing.{screen_pixel}
use Rattle.cdg_screen.proofs.plain.PlainScreen.write_row.Goals as goal

pub returns-clause-pixels : goal.returns-clause-pixels
returns-clause-pixels c x lt =
    let here : 0 + x ≡ x = omega arith in
    c.write_columns.ensures.pixels x (omega (arith, lt))
    ∙ ap (λ i. screen_pixel (seen c.args.self.now) i c.args.y) here
