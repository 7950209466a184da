-- The weights of tiles, which are kept from picture to picture.
use Rattle.std.specs.Prelude.{◌≡◌, ℕ, ◌+◌, ◌/◌, ◌%◌, ◌<◌, ◌≤◌, List, replicate, slice_index_or, Some, None, IfSome}
use Rattle.cdg_instructions.specs.Sizes.{colour_count, tile_pixels, window_columns, window_tiles}
use Rattle.tile_author.specs.Sizes.{most_steps}
use Rattle.tile_author.specs.Plan.{steps}
use Rattle.picture_script.specs.Script.{Drawing, picture_tile}
use Rattle.pack_schedule.specs.declared.change.tiles.Weighed.{Weighed}

abbrev pub not_weighed : Weighed
not_weighed = record { weight = 0; single = None }

-- A tile needs no instruction after its single colour, and as many as its weight after every other colour.
pub record IsWeighed (tile : List ℕ) (kept : Weighed) : Type 0 where
  pub few : kept.weight ≤ most_steps
  pub colour : IfSome kept.single (λ c. c < colour_count)
  pub from_own : (c : ℕ) → c < colour_count → kept.single ≡ Some c → steps (replicate tile_pixels c) tile ≡ 0
  pub from_other : (c : ℕ) → c < colour_count → ¬ (kept.single ≡ Some c)
      → steps (replicate tile_pixels c) tile ≡ kept.weight

-- Weight i is the weight of tile i of picture k.
abbrev pub IsWeighedAt : List Drawing → ℕ → ℕ → List Weighed → Type 0
IsWeighedAt script k i weights =
    IsWeighed (picture_tile script k (i / window_columns + 1) (i % window_columns + 1))
    (slice_index_or weights i not_weighed)

-- The weights are those of all tiles of picture k.
abbrev pub AreWeights : List Drawing → ℕ → List Weighed → Type 0
AreWeights script k weights = (i : ℕ) → i < window_tiles → IsWeighedAt script k i weights
