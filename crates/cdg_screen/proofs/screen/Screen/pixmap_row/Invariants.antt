use Rattle.std.specs.Prelude.{◌≡◌, ◌*◌, flat_map, slice_index}
use Rattle.arrayvec.specs.ArrayVec.{array_vec_len}
use Rattle.bit_lists.specs.Counting.{below}
use Rattle.cdg_screen.specs.Standing.{screen_pixel}
use Rattle.cdg_screen.specs.Texts.{colour_bytes}
use Rattle.cdg_screen.proofs.screen.Screen.pixmap_row.Given as goal

abbrev pub invariant-loop-x : goal.invariant-loop-x
invariant-loop-x l = (l.row.items
    ≡ flat_map (λ x. colour_bytes (slice_index l.self.colours (screen_pixel l.self x l.y))) (below l.x))
    × (array_vec_len l.row ≡ 3 * l.x)
