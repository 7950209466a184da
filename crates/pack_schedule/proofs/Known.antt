-- The instructions of a change are in range, and each can be written.
use Rattle.std.proofs.Common.{◌≡◌, ◌≢◌, ℕ, ◌+◌, ◌<◌, List, length, map, sym, subst, arith, lit<, All}
use Rattle.std.specs.declared.option.Option.{Option}
use Rattle.std.proofs.lemmas.List.Elements.{All-from_get_or}
use Rattle.std.proofs.lemmas.List.FromFn.{length-map-range_with_len, get_or-map-range_with_len}
use Rattle.bit_lists.specs.Counting.{below}
use Rattle.picture_script.specs.Script.{Drawing, picture_border, picture_colour, low_colours, high_colours}
use Rattle.cdg_instructions.specs.Instruction.{InRange, IsKnown}
use Rattle.cdg_instructions.specs.Drawing.{IsOfPlace}
use Rattle.cdg_instructions.specs.declared.instr.Instr.{Instr}
use Rattle.cdg_instructions.specs.declared.instr.Instr.TheVariants.{Idle, BorderPreset, ColoursLow, ColoursHigh, SetTile, XorTile}
use Rattle.pack_schedule.specs.Change.{IsChangeFrom}
use Rattle.pack_schedule.specs.Shown.{AreColoursInRange}
use Rattle.pack_schedule.proofs.Parts.{of_change}

abbrev IsSound : Instr → Type 0
IsSound instr = InRange instr × IsKnown instr

sound_of_place : (row column : ℕ) (instr : Instr) → IsOfPlace row column instr → IsSound instr
sound_of_place row column (SetTile colour0 colour1 r c lines) of_place = (of_place.2, ((λ e. cc), (λ e. cc)))
sound_of_place row column (XorTile colour0 colour1 r c lines) of_place = (of_place.2, ((λ e. cc), (λ e. cc)))
sound_of_place row column _ of_place = absurd of_place

table_sound : (f : ℕ → ℕ) → ((n : ℕ) → f n < 4096)
    → (length (map f (below 8)) ≡ 8) × All (λ colour. colour < 4096) (map f (below 8))
table_sound f small = (
  length-map-range_with_len f 0 8,
  All-from_get_or (λ colour. colour < 4096) (map f (below 8)) 0 (λ i lt.
      subst (λ c. c < 4096) (sym (get_or-map-range_with_len f 0 8 i i 0
      (omega (arith, lt, length-map-range_with_len f 0 8)) (omega arith))) (small i)),
)

module _ (script : List Drawing) (ranges : AreColoursInRange script) where
  border_sound : (k : ℕ) → IsSound (BorderPreset (picture_border script k))
  border_sound k = (ranges.border k, ((λ e. cc), (λ e. cc)))

  low_sound : (k : ℕ) → IsSound (ColoursLow (low_colours script k))
  unfolding low_colours
  low_sound k = (table_sound (picture_colour script k) (ranges.colour k), ((λ e. cc), (λ e. cc)))

  high_sound : (k : ℕ) → IsSound (ColoursHigh (high_colours script k))
  unfolding high_colours
  high_sound k = (
    table_sound (λ n. picture_colour script k (8 + n)) (λ n. ranges.colour k (8 + n)),
    ((λ e. cc), (λ e. cc)),
  )

  pub change_sound : (k : ℕ) (start : Option ℕ) (instrs : List Instr) → IsChangeFrom script k start instrs
      → All IsSound instrs
  change_sound =
      of_change IsSound sound_of_place (λ colour small. ((small, lit< tt), ((λ e. cc), (λ e. cc)))) script
      border_sound low_sound high_sound

-- none of them is idle
busy_of_place : (row column : ℕ) (instr : Instr) → IsOfPlace row column instr → instr ≢ Idle
busy_of_place row column (SetTile colour0 colour1 r c lines) of_place = λ e. cc
busy_of_place row column (XorTile colour0 colour1 r c lines) of_place = λ e. cc
busy_of_place row column _ of_place = absurd of_place

pub change_busy : (script : List Drawing) (k : ℕ) (start : Option ℕ) (instrs : List Instr)
    → IsChangeFrom script k start instrs
    → All (λ instr. instr ≢ Idle) instrs
change_busy script =
    of_change (λ instr. instr ≢ Idle) busy_of_place (λ colour small e. cc) script (λ k e. cc) (λ k e. cc)
    (λ k e. cc)
