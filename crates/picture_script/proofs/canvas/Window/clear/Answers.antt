use Rattle.std.proofs.Common.{ℕ, arith}
use Rattle.std.proofs.lemmas.List.{get_or-replicate}
use Rattle.picture_script.proofs.Windows.{all-becomes}
use Rattle.picture_script.proofs.canvas.Window.clear.Goals as goal

pub returns : goal.returns
returns c =
    all-becomes _ c.args.colour (λ k lt. rw (c.fill.ensures.items (λ y e. e))
    (get_or-replicate {A = ℕ} _ k c.args.colour 0 (omega (arith, c.self.invariant.count))))
