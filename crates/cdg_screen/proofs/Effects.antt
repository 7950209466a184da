-- The effect of an instruction, compared with the definition of the standing.
use Rattle.std.proofs.Common.{◌≡◌, ℕ, ◌+◌, ◌-◌, ◌<◌, ◌≤◌, subst, ◌&&◌, List, [], ◌∷◌, refl, arith}
use Rattle.std.specs.Prelude.{nat_le, nat_lt, if◌then◌else◌, slice_index}
use Rattle.std.proofs.lemmas.Bool.Decides.{nat_tests}
use Rattle.cdg_instructions.specs.Effect.{IsEffectInRange, effect_of}
use Rattle.cdg_instructions.specs.declared.effect.Effect.{Effect}
use Rattle.cdg_instructions.specs.declared.effect.Effect.TheVariants.{Clear, Border, Draw, Scroll, Levels, Colours}
use Rattle.cdg_instructions.specs.declared.instr.Instr.{Instr}
use Rattle.cdg_instructions.specs.declared.instr.Instr.TheVariants.{Idle, Foreign, Unknown, MemoryPreset, BorderPreset, SetTile, XorTile, ScrollPreset, ScrollCopy, Transparency, ColoursLow, ColoursHigh}
use Rattle.cdg_screen.specs.Standing.{memory_from, border_from, colour_from, level_from, offsets_from}
use Rattle.cdg_screen.specs.Memory.{moved_in, scrolled, with_tile}

-- the pixels of the memory after an effect
abbrev pub memory_by : Effect → (ℕ → ℕ → ℕ) → ℕ → ℕ → ℕ
memory_by (Clear colour) old x y = colour
memory_by (Draw tile) old x y = with_tile tile old x y
memory_by (Scroll scroll) old x y = scrolled scroll old x y
memory_by _ old x y = old x y

abbrev pub border_by : Effect → ℕ → ℕ
border_by (Border colour) old = colour
border_by _ old = old

abbrev pub colour_by : Effect → (ℕ → ℕ) → ℕ → ℕ
colour_by (Colours first colours) old k =
    if nat_le first k && nat_lt k (first + 8) then slice_index colours (k - first) else old k
colour_by _ old k = old k

abbrev pub level_by : Effect → (ℕ → ℕ) → ℕ → ℕ
level_by (Levels levels) old k = slice_index levels k
level_by _ old k = old k

abbrev pub offsets_by : Effect → ℕ × ℕ → ℕ × ℕ
offsets_by (Scroll scroll) old = (scroll.h, scroll.v)
offsets_by _ old = old

pub memory_is : (instr : Instr) (old : ℕ → ℕ → ℕ) (x y : ℕ)
    → memory_by (effect_of instr) old x y ≡ memory_from old (instr ∷ []) x y
unfolding moved_in
memory_is Idle old x y = refl
memory_is Foreign old x y = refl
memory_is Unknown old x y = refl
memory_is (MemoryPreset colour repeat) old x y = refl
memory_is (BorderPreset colour) old x y = refl
memory_is (SetTile colour0 colour1 row column lines) old x y = refl
memory_is (XorTile colour0 colour1 row column lines) old x y = refl
memory_is (ScrollPreset colour across h down v) old x y = refl
memory_is (ScrollCopy colour across h down v) old x y = refl
memory_is (Transparency levels) old x y = refl
memory_is (ColoursLow colours) old x y = refl
memory_is (ColoursHigh colours) old x y = refl

pub border_is : (instr : Instr) (old : ℕ) → border_by (effect_of instr) old ≡ border_from old (instr ∷ [])
border_is Idle old = refl
border_is Foreign old = refl
border_is Unknown old = refl
border_is (MemoryPreset colour repeat) old = refl
border_is (BorderPreset colour) old = refl
border_is (SetTile colour0 colour1 row column lines) old = refl
border_is (XorTile colour0 colour1 row column lines) old = refl
border_is (ScrollPreset colour across h down v) old = refl
border_is (ScrollCopy colour across h down v) old = refl
border_is (Transparency levels) old = refl
border_is (ColoursLow colours) old = refl
border_is (ColoursHigh colours) old = refl

pub colour_is : (instr : Instr) (old : ℕ → ℕ) (k : ℕ) → k < 16
    → colour_by (effect_of instr) old k ≡ colour_from old (instr ∷ []) k
colour_is Idle old k lt = refl
colour_is Foreign old k lt = refl
colour_is Unknown old k lt = refl
colour_is (MemoryPreset colour repeat) old k lt = refl
colour_is (BorderPreset colour) old k lt = refl
colour_is (SetTile colour0 colour1 row column lines) old k lt = refl
colour_is (XorTile colour0 colour1 row column lines) old k lt = refl
colour_is (ScrollPreset colour across h down v) old k lt = refl
colour_is (ScrollCopy colour across h down v) old k lt = refl
colour_is (Transparency levels) old k lt = refl
colour_is (ColoursLow colours) old k lt = grind (arith, nat_tests)
colour_is (ColoursHigh colours) old k lt = grind (arith, nat_tests)

pub level_is : (instr : Instr) (old : ℕ → ℕ) (k : ℕ)
    → level_by (effect_of instr) old k ≡ level_from old (instr ∷ []) k
level_is Idle old k = refl
level_is Foreign old k = refl
level_is Unknown old k = refl
level_is (MemoryPreset colour repeat) old k = refl
level_is (BorderPreset colour) old k = refl
level_is (SetTile colour0 colour1 row column lines) old k = refl
level_is (XorTile colour0 colour1 row column lines) old k = refl
level_is (ScrollPreset colour across h down v) old k = refl
level_is (ScrollCopy colour across h down v) old k = refl
level_is (Transparency levels) old k = refl
level_is (ColoursLow colours) old k = refl
level_is (ColoursHigh colours) old k = refl

pub offsets_are : (instr : Instr) (old : ℕ × ℕ)
    → offsets_by (effect_of instr) old ≡ offsets_from old (instr ∷ [])
offsets_are Idle old = refl
offsets_are Foreign old = refl
offsets_are Unknown old = refl
offsets_are (MemoryPreset colour repeat) old = refl
offsets_are (BorderPreset colour) old = refl
offsets_are (SetTile colour0 colour1 row column lines) old = refl
offsets_are (XorTile colour0 colour1 row column lines) old = refl
offsets_are (ScrollPreset colour across h down v) old = refl
offsets_are (ScrollCopy colour across h down v) old = refl
offsets_are (Transparency levels) old = refl
offsets_are (ColoursLow colours) old = refl
offsets_are (ColoursHigh colours) old = refl

-- colours are set from entry 0 or 8 at most
pub first_most : (effect : Effect) (first : ℕ) (colours : List ℕ) → IsEffectInRange effect
    → effect ≡ Colours first colours
    → first ≤ 8
first_most effect first colours range is =
    let place = (subst IsEffectInRange is range).0 in
    omega (arith, place)
