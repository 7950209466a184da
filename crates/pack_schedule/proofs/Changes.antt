-- The standing after the change of a picture.
use Rattle.std.proofs.Common.{◌≡◌, ℕ, zero, suc, ◌-◌, ◌<◌, List, ◌++◌, get_or, refl, sym, ap, ◌∙◌, subst, arith, Some, None}
use Rattle.std.specs.declared.option.Option.{Option}
use Rattle.std.proofs.lemmas.List.{get_or-replicate}
use Rattle.picture_script.specs.Script.{Drawing, picture_border, picture_colour, picture_tile}
use Rattle.cdg_instructions.specs.declared.instr.Instr.{Instr}
use Rattle.std.specs.Prelude.{slice_index}
use Rattle.cdg_screen.specs.Standing.{Standing, standing_after, pixel_at}
use Rattle.cdg_screen.proofs.Lists.{pixel_of_rows, number_of_sixteen}
use Rattle.pack_schedule.specs.Change.{settings, preset_of, tiles_before, IsStart, IsChangeFrom}
use Rattle.pack_schedule.proofs.Tiles.{InTurn, HoldsAt, Changed, place_row, place_column, tile_x, tile_y, window_changes}
use Rattle.pack_schedule.proofs.Set.{IsSet, first_settings, later_settings}

-- picture k is in the memory and on the screen
pub record Stands (script : List Drawing) (k : ℕ) (s : Standing) : Type 0 where
  pub tiles : (i : ℕ) → i < 768 → HoldsAt s (picture_tile script k) i
  pub border : s.border ≡ picture_border script k
  pub colours : (n : ℕ) → n < 16 → slice_index s.colours n ≡ picture_colour script k n
  pub h : s.h ≡ 0
  pub v : s.v ≡ 0

-- the standing before a change: no offsets, and the previous picture
abbrev pub IsReady : List Drawing → ℕ → Standing → Type 0
IsReady script zero s = (s.h ≡ 0) × (s.v ≡ 0)
IsReady script (suc k) s = Stands script k s

ready_offsets : (script : List Drawing) (k : ℕ) (s : Standing) → IsReady script k s → (s.h ≡ 0) × (s.v ≡ 0)
ready_offsets script zero s ready = ready
ready_offsets script (suc k) s ready = (ready.h, ready.v)

-- `s'` is `s` after the instruction that clears the memory, if the change begins with one
record Presets (script : List Drawing) (k : ℕ) (start : Option ℕ) (s s' : Standing) : Type 0 where
  tiles : (i : ℕ) → i < 768 → HoldsAt s' (tiles_before script k start) i
  border : s'.border ≡ s.border
  colour : (n : ℕ) → n < 16 → slice_index s'.colours n ≡ slice_index s.colours n
  h : s'.h ≡ s.h
  v : s'.v ≡ s.v

presets : (script : List Drawing) (k : ℕ) (start : Option ℕ) (s : Standing) → IsStart k start
    → IsReady script k s
    → Presets script k start s (standing_after s (preset_of start))
presets script k (Some colour) s allowed ready = record {
  tiles =
      λ i bound p small. pixel_of_rows (λ x y. colour) (tile_x (place_column i) p) (tile_y (place_row i) p)
      (omega arith) (omega (arith, bound, small))
      ∙ sym (get_or-replicate 72 p colour 0 small);
  border = refl;
  colour = λ n lt. number_of_sixteen (slice_index s.colours) n lt;
  h = refl;
  v = refl;
}
presets script zero None s allowed ready = absurd allowed
presets script (suc k) None s allowed ready =
    let before : suc k - 1 ≡ k = omega arith in
    record {
      tiles =
          λ i bound p small. pixel_of_rows (pixel_at s.memory) (tile_x (place_column i) p)
          (tile_y (place_row i) p) (omega arith) (omega (arith, bound, small))
          ∙ ready.tiles i bound p small
          ∙ ap (λ j. get_or (picture_tile script j (place_row i) (place_column i)) p 0) (sym before);
      border = refl;
      colour = λ n lt. number_of_sixteen (slice_index s.colours) n lt;
      h = refl;
      v = refl;
    }

settled : InTurn → (script : List Drawing) (k : ℕ) (s0 s : Standing) → IsReady script k s0
    → s.border ≡ s0.border → ((n : ℕ) → n < 16 → slice_index s.colours n ≡ slice_index s0.colours n)
    → IsSet s (standing_after s (settings script k)) (picture_border script k) (picture_colour script k)
settled in_turn script zero s0 s ready border colours = first_settings in_turn script s
settled in_turn script (suc k) s0 s ready border colours =
    later_settings in_turn script k s (border ∙ ready.border) (λ n lt. colours n lt ∙ ready.colours n lt)

-- a change draws its picture
pub change_stands : InTurn
    → (script : List Drawing) (k : ℕ) (start : Option ℕ) (instrs : List Instr) (s : Standing)
    → IsChangeFrom script k start instrs → IsReady script k s
    → Stands script k (standing_after s instrs)
change_stands in_turn script k start instrs s change ready =
    let pre : List Instr = preset_of start in
    let offsets = ready_offsets script k s ready in
    let first = presets script k start s change.allowed ready in
    let second =
    settled in_turn script k s (standing_after s (preset_of start)) ready first.border first.colour in
    let inner = in_turn s (preset_of start) (settings script k) in
    let s2 : Standing = standing_after s (preset_of start ++ settings script k) in
    let held : (i : ℕ) → i < 768
    → HoldsAt (standing_after s (preset_of start ++ settings script k)) (tiles_before script k start) i =
    λ i bound p small.
    ap (λ (now : Standing). pixel_at now.memory (tile_x (place_column i) p) (tile_y (place_row i) p)) inner
    ∙ second.place.memory (tile_x (place_column i) p) (tile_y (place_row i) p) (omega arith)
    (omega (arith, bound, small))
    ∙ first.tiles i bound p small in
    let third : Changed 0 768 (picture_tile script k)
    (standing_after s (preset_of start ++ settings script k))
    (standing_after (standing_after s (preset_of start ++ settings script k)) change.tiles) =
    window_changes in_turn (tiles_before script k start) (picture_tile script k)
    (standing_after s (preset_of start ++ settings script k)) change.tiles change.tile_changes held in
    let outer = in_turn s (preset_of start ++ settings script k) change.tiles in
    let after : Stands script k
    (standing_after (standing_after s (preset_of start ++ settings script k)) change.tiles) = record {
      tiles = λ i bound. third.inside i (omega arith) (omega (arith, bound));
      border = third.settings.border ∙ ap (λ (now : Standing). now.border) inner ∙ second.border_is;
      colours =
          λ n lt. third.settings.colour n lt
          ∙ ap (λ (now : Standing). slice_index now.colours n) inner
          ∙ second.colour_is n lt;
      h = third.settings.h ∙ ap (λ (now : Standing). now.h) inner ∙ second.place.h ∙ first.h ∙ offsets.0;
      v = third.settings.v ∙ ap (λ (now : Standing). now.v) inner ∙ second.place.v ∙ first.v ∙ offsets.1;
    } in
    subst (λ (is : List Instr). Stands script k (standing_after s is)) (sym change.whole)
    (subst (Stands script k) (sym outer) after)
