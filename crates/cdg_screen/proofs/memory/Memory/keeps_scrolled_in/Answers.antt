use Rattle.std.proofs.Common.{refl, arith}
use Rattle.cdg_screen.proofs.ScrolledPixels.{unmoved_pixel}
use Rattle.cdg_screen.proofs.memory.Memory.keeps_scrolled_in.Goals as goal

pub returns-then-down-eq0 : goal.returns-then-down-eq0
returns-then-down-eq0 c =
    (λ _ x y x_lt y_lt. unmoved_pixel _ _ _ _ x y (omega arith) (omega arith) x_lt y_lt, λ _. refl)
