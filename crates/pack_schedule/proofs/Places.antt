-- The places of the window, and the tiles of pictures.
use Rattle.std.proofs.Common.{◌≡◌, ℕ, zero, suc, ◌+◌, ◌-◌, ◌*◌, ◌/◌, ◌%◌, ◌<◌, List, map, get_or, All, refl, sym, subst, ◌∙◌, arith, replicate}
use Rattle.std.specs.Prelude.{Some}
use Rattle.std.proofs.lemmas.List.{length-replicate, get_or-replicate}
use Rattle.std.proofs.lemmas.List.Elements.{All-map, All-from_get_or}
use Rattle.std.proofs.lemmas.List.FromFn.{get_or-range_with_len, length-map-range_with_len}
use Rattle.bit_lists.specs.Counting.{below}
use Rattle.cdg_instructions.specs.Instruction.{IsTilePixels}
use Rattle.picture_script.specs.Script.{Drawing, picture_tile, picture_pixel}
use Rattle.pack_schedule.specs.Change.{window_places, IsStart}

one_sum : (n : ℕ) → 0 + n ≡ n
one_sum n = omega arith

abbrev pub place_of : ℕ → ℕ × ℕ
place_of i = (i / 48 + 1, i % 48 + 1)

pub places_in_order : window_places ≡ map place_of (below 768)
places_in_order = refl

abbrev pub AreInside : List (ℕ × ℕ) → Type 0
AreInside places = All (λ p. (p.0 < 18) × (p.1 < 50)) places

inside_places : (i : ℕ) → i < 768 → (i / 48 + 1 < 18) × (i % 48 + 1 < 50)
inside_places i lt = (omega arith, omega arith)

pub inside : AreInside window_places
inside = subst AreInside (sym places_in_order) (All-map (λ p. (p.0 < 18) × (p.1 < 50)) place_of (below 768)
    (All-from_get_or (λ i. (i / 48 + 1 < 18) × (i % 48 + 1 < 50)) (below 768) 0 (λ i lt. subst
    (λ j. (j / 48 + 1 < 18) × (j % 48 + 1 < 50)) (sym (get_or-range_with_len 0 768 i 0 lt ∙ one_sum i))
    (inside_places i lt))))

-- tiles of pictures and of one colour
pub picture_is_tile : (script : List Drawing) (k row column : ℕ)
    → ((k x y : ℕ) → picture_pixel script k x y < 16)
    → IsTilePixels (picture_tile script k row column)
unfolding picture_tile
picture_is_tile script k row column small =
    let f : ℕ → ℕ = λ p. picture_pixel script k (6 * (column - 1) + p % 6) (12 * (row - 1) + p / 6) in
    record {
      count = length-map-range_with_len f 0 72;
      below =
          All-map (λ n. n < 16) f (below 72) (All-from_get_or (λ p. f p < 16) (below 72) 0
          (λ i lt. small k (6 * (column - 1) + get_or (below 72) i 0 % 6)
          (12 * (row - 1) + get_or (below 72) i 0 / 6)));
    }

pub colour_is_tile : (colour : ℕ) → colour < 16 → IsTilePixels (replicate 72 colour)
colour_is_tile colour small = record {
  count = length-replicate {A = ℕ} 72 colour;
  below =
      All-from_get_or (λ n. n < 16) (replicate 72 colour) 0 (λ i lt. subst (λ n. n < 16)
      (sym (get_or-replicate {A = ℕ} 72 i colour 0 (omega (arith, length-replicate {A = ℕ} 72 colour))))
      small);
}

pub start_small : (k colour : ℕ) → IsStart k (Some colour) → colour < 16
start_small zero colour h = h
start_small (suc k) colour h = h
