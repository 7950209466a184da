-- The instruction of a pack that draws a tile.
use Rattle.std.proofs.Common.{◌≡◌, ◌⊎◌, ◌%◌, ◌==◌, ◌∙◌, Bool, false, true, ℕ, List, [], ◌∷◌, ap, drop, get_or, inl, inr, refl, sym}
use Rattle.cdg_instructions.specs.Effect.{effect_of}
use Rattle.cdg_instructions.specs.Instruction.{content_of}
use Rattle.cdg_instructions.specs.Meaning.{meaning}
use Rattle.cdg_instructions.specs.declared.effect.DrawnTile.{DrawnTile}
use Rattle.cdg_instructions.specs.declared.effect.Effect.TheVariants.{Draw}
use Rattle.cdg_instructions.specs.declared.instr.Instr.{Instr}
use Rattle.cdg_instructions.specs.declared.instr.Instr.TheVariants.{SetTile, XorTile}
use Rattle.cdg_instructions.proofs.Meaning.{only_meaning}
use Rattle.cdg_screen.specs.Standing.{offsets_from}
use Rattle.cdg_screen.specs.Touched.{tile_touched, touched_by}

-- the tile of a word
abbrev pub tile_in : List ℕ → Bool → DrawnTile
tile_in word exclusive = record {
  row = get_or word 6 0 % 32;
  column = get_or word 7 0;
  colours = (get_or word 4 0 % 16) ∷ (get_or word 5 0 % 16) ∷ [];
  lines = drop 4 (content_of word);
  exclusive = exclusive;
}

-- the instruction that sets it
abbrev pub set_in : List ℕ → Instr
set_in word = SetTile (get_or word 4 0 % 16) (get_or word 5 0 % 16) (get_or word 6 0 % 32) (get_or word 7 0)
    (drop 4 (content_of word))

abbrev pub xor_in : List ℕ → Instr
xor_in word = XorTile (get_or word 4 0 % 16) (get_or word 5 0 % 16) (get_or word 6 0 % 32) (get_or word 7 0)
    (drop 4 (content_of word))

pub means_tile : (word : List ℕ) → get_or word 0 0 ≡ 9 → (get_or word 1 0 ≡ 6) ⊎ (get_or word 1 0 ≡ 38)
    → ((set_in word ≡ meaning word) × ((get_or word 1 0 == 38) ≡ false))
    ⊎ ((xor_in word ≡ meaning word) × ((get_or word 1 0 == 38) ≡ true))
means_tile word mode (inl code) = inl (
  only_meaning word (set_in word) (
    record { mode_is = mode; code_is = code },
    record { colour0_is = refl; colour1_is = refl; row_is = refl; column_is = refl; lines_are = refl },
  ),
  rw code refl,
)
means_tile word mode (inr code) = inr (
  only_meaning word (xor_in word) (
    record { mode_is = mode; code_is = code },
    record { colour0_is = refl; colour1_is = refl; row_is = refl; column_is = refl; lines_are = refl },
  ),
  rw code refl,
)

pub tile_effect : (word : List ℕ) → get_or word 0 0 ≡ 9 → (get_or word 1 0 ≡ 6) ⊎ (get_or word 1 0 ≡ 38)
    → effect_of (meaning word) ≡ Draw (tile_in word (get_or word 1 0 == 38))
tile_effect word mode code =
    elim (means_tile word mode code) [
      | inl set ↦ ap effect_of (sym set.0) ∙ ap (λ (x : Bool). Draw (tile_in word x)) (sym set.1)
      | inr xor ↦ ap effect_of (sym xor.0) ∙ ap (λ (x : Bool). Draw (tile_in word x)) (sym xor.1)
    ]

pub tile_touches : (word : List ℕ) → get_or word 0 0 ≡ 9 → (get_or word 1 0 ≡ 6) ⊎ (get_or word 1 0 ≡ 38)
    → touched_by (meaning word) ≡ tile_touched (get_or word 6 0 % 32) (get_or word 7 0)
tile_touches word mode code =
    elim (means_tile word mode code) [
      | inl set ↦ ap touched_by (sym set.0)
      | inr xor ↦ ap touched_by (sym xor.0)
    ]

pub tile_stays : (word : List ℕ) → get_or word 0 0 ≡ 9 → (get_or word 1 0 ≡ 6) ⊎ (get_or word 1 0 ≡ 38)
    → (start : ℕ × ℕ) → offsets_from start (meaning word ∷ []) ≡ start
tile_stays word mode code start =
    elim (means_tile word mode code) [
      | inl set ↦ ap (λ (i : Instr). offsets_from start (i ∷ [])) (sym set.0)
      | inr xor ↦ ap (λ (i : Instr). offsets_from start (i ∷ [])) (sym xor.0)
    ]
