-- Facts about each instruction of a change, from facts about its parts.
use Rattle.std.proofs.Common.{ℕ, zero, suc, ◌<◌, ◌==◌, Bool, true, false, cond, List, [], ◌∷◌, ◌++◌, sym, subst, All, Some, None}
use Rattle.std.specs.declared.option.Option.{Option}
use Rattle.std.specs.List.{AllByRecursion}
use Rattle.std.proofs.lemmas.List.Elements.{All-from_recursion, recursion_from_All}
use Rattle.tile_author.specs.Plan.{are_equal}
use Rattle.picture_script.specs.Script.{Drawing, picture_border, picture_tile, low_colours, high_colours}
use Rattle.cdg_instructions.specs.Drawing.{IsOfPlace}
use Rattle.cdg_instructions.specs.declared.instr.Instr.{Instr}
use Rattle.cdg_instructions.specs.declared.instr.Instr.TheVariants.{BorderPreset, ColoursLow, ColoursHigh, MemoryPreset}
use Rattle.pack_schedule.specs.Change.{settings, preset_of, IsStart, tiles_before, AreTileChanges, window_places, IsChangeFrom}

module _ (P : Instr → Type 0)
    (of_place : (row column : ℕ) (instr : Instr) → IsOfPlace row column instr → P instr)
    (preset : (colour : ℕ) → colour < 16 → P (MemoryPreset colour 0)) (script : List Drawing)
    (border : (k : ℕ) → P (BorderPreset (picture_border script k)))
    (low : (k : ℕ) → P (ColoursLow (low_colours script k)))
    (high : (k : ℕ) → P (ColoursHigh (high_colours script k)))
  where
    both : (xs ys : List Instr) → AllByRecursion P xs → AllByRecursion P ys → AllByRecursion P (xs ++ ys)
    both [] ys all all' = all'
    both (x ∷ xs) ys all all' = (all.0, both xs ys all.1 all')

    of_tiles : (row column : ℕ) (instrs : List Instr) → AllByRecursion (IsOfPlace row column) instrs
        → AllByRecursion P instrs
    of_tiles row column [] all = tt
    of_tiles row column (i ∷ instrs) all = (of_place row column i all.0, of_tiles row column instrs all.1)

    of_changes : (old new : ℕ → ℕ → List ℕ) (places : List (ℕ × ℕ)) (instrs : List Instr)
        → AreTileChanges old new places instrs
        → AllByRecursion P instrs
    of_changes old new [] instrs changes = subst (AllByRecursion P) (sym changes) tt
    of_changes old new (place ∷ rest) instrs changes =
        let (first, others, whole, turns, least, more) = changes in
        subst (AllByRecursion P) (sym whole) (both first others
        (of_tiles place.0 place.1 first (recursion_from_All (IsOfPlace place.0 place.1) first turns.of_place))
        (of_changes old new rest others more))

    of_maybe : (skips : Bool) (instr : Instr) → P instr → AllByRecursion P (cond skips [] (instr ∷ []))
    of_maybe true instr holds = tt
    of_maybe false instr holds = (holds, tt)

    of_settings : (k : ℕ) → AllByRecursion P (settings script k)
    of_settings zero = (border 0, (low 0, (high 0, tt)))
    of_settings (suc k) =
        let borders =
        of_maybe (picture_border script k == picture_border script (suc k))
        (BorderPreset (picture_border script (suc k))) (border (suc k)) in
        let lows =
        of_maybe (are_equal (low_colours script k) (low_colours script (suc k)))
        (ColoursLow (low_colours script (suc k))) (low (suc k)) in
        let highs =
        of_maybe (are_equal (high_colours script k) (high_colours script (suc k)))
        (ColoursHigh (high_colours script (suc k))) (high (suc k)) in
        both _ _ (both _ _ borders lows) highs

    of_preset : (k : ℕ) (start : Option ℕ) → IsStart k start → AllByRecursion P (preset_of start)
    of_preset k (Some colour) allowed = (preset colour allowed, tt)
    of_preset k None allowed = tt

    pub of_change : (k : ℕ) (start : Option ℕ) (instrs : List Instr) → IsChangeFrom script k start instrs
        → All P instrs
    of_change k start instrs change = All-from_recursion P instrs (
        let tiles =
        of_changes (tiles_before script k start) (picture_tile script k) window_places change.tiles
        change.tile_changes in
        subst (AllByRecursion P) (sym change.whole)
        (both _ _ (both _ _ (of_preset k start change.allowed) (of_settings k)) tiles))
