-- Screens whose rows are stored from the top left.
use Rattle.std.proofs.Common.{◌≡◌, ℕ, List, ap, ap₂, ◌∙◌, arith}
use Rattle.cdg_screen.specs.Memory.{Kept, MemoryRows, at, seen}
use Rattle.cdg_screen.specs.Standing.{IsWholeStanding, Standing, pixel_at}
use Rattle.cdg_screen.proofs.Lists.{AreSamePixels, rows_same}
use Rattle.cdg_screen.proofs.MemoryRows.{at_is, element}

abbrev from_top_left : List (List ℕ) → MemoryRows
from_top_left rows = record { rows = rows; left = 0; top = 0 }

same_pixels : (rows : List (List ℕ)) → AreSamePixels (at (from_top_left rows)) (pixel_at rows)
unfolding pixel_at
same_pixels rows x y x_lt y_lt =
    at_is rows 0 0 x y ∙ ap₂ (λ r k. element rows r k) (omega arith) (omega arith)

-- the stored screen with this standing
abbrev pub held : Standing → Kept
held now = record {
  memory = from_top_left now.memory;
  border = now.border;
  colours = now.colours;
  levels = now.levels;
  h = now.h;
  v = now.v;
}

pub held_stands : (now : Standing) → IsWholeStanding now → seen (held now) ≡ now
held_stands now whole =
    let memory =
    rows_same (at (from_top_left now.memory)) (pixel_at now.memory) (same_pixels now.memory)
    ∙ ap (λ (it : Standing). it.memory) whole in
    λ i. record {
      memory = memory i;
      border = now.border;
      colours = now.colours;
      levels = now.levels;
      h = now.h;
      v = now.v;
    }
