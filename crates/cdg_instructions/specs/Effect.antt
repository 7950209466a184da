-- The effects of instructions, as a few kinds.
use Rattle.std.specs.Prelude.{◌≡◌, ◌⊎◌, ℕ, ◌<◌, ◌≤◌, Bool, true, false, List, [], ◌∷◌, All, Option, Some, None, IfSome, ⊤}
use Rattle.cdg_instructions.specs.declared.instr.Instr.{Instr}
use Rattle.cdg_instructions.specs.declared.instr.Instr.TheVariants.{MemoryPreset, BorderPreset, SetTile, XorTile, ScrollPreset, ScrollCopy, Transparency, ColoursLow, ColoursHigh}
use Rattle.cdg_instructions.specs.declared.effect.Scrolling.{Scrolling}
use Rattle.cdg_instructions.specs.declared.effect.Effect.{Effect}
use Rattle.cdg_instructions.specs.declared.effect.Effect.TheVariants.{Nothing, Clear, Border, Draw, Scroll, Levels, Colours}
use Rattle.cdg_instructions.specs.Sizes.{colour_values}

-- the tile that an instruction draws
abbrev pub drawn_tile : Bool → ℕ → ℕ → ℕ → ℕ → List ℕ → Effect
drawn_tile exclusive colour0 colour1 row column lines = Draw (record {
  row = row;
  column = column;
  colours = colour0 ∷ colour1 ∷ [];
  lines = lines;
  exclusive = exclusive;
})

-- a move of the memory, and the colour that fills the free pixels, if any
abbrev pub scroll_by : Option ℕ → ℕ → ℕ → ℕ → ℕ → Effect
scroll_by incoming across h down v = Scroll (record {
  across = across;
  down = down;
  incoming = incoming;
  h = h;
  v = v;
})

-- the effect of an instruction
abbrev pub effect_of : Instr → Effect
effect_of (MemoryPreset colour repeat) = Clear colour
effect_of (BorderPreset colour) = Border colour
effect_of (SetTile colour0 colour1 row column lines) = drawn_tile false colour0 colour1 row column lines
effect_of (XorTile colour0 colour1 row column lines) = drawn_tile true colour0 colour1 row column lines
effect_of (ScrollPreset colour across h down v) = scroll_by (Some colour) across h down v
effect_of (ScrollCopy colour across h down v) = scroll_by None across h down v
effect_of (Transparency levels) = Levels levels
effect_of (ColoursLow colours) = Colours 0 colours
effect_of (ColoursHigh colours) = Colours 8 colours
effect_of _ = Nothing

-- The fields of a move of the memory are in their ranges.
pub record IsScrollInRange (scroll : Scrolling) : Type 0 where
  pub across_most : scroll.across ≤ 2
  pub down_most : scroll.down ≤ 2
  pub incoming_below : IfSome scroll.incoming (λ colour. colour < 16)
  pub h_most : scroll.h ≤ 5
  pub v_most : scroll.v ≤ 11

-- The numbers of the effect are in their ranges.
abbrev pub IsEffectInRange : Effect → Type 0
IsEffectInRange (Clear colour) = colour < 16
IsEffectInRange (Border colour) = colour < 16
IsEffectInRange (Draw tile) = All (λ colour. colour < 16) tile.colours
IsEffectInRange (Scroll scroll) = IsScrollInRange scroll
IsEffectInRange (Levels levels) = All (λ level. level < 64) levels
IsEffectInRange (Colours first colours) = ((first ≡ 0) ⊎ (first ≡ 8))
    × All (λ colour. colour < colour_values) colours
IsEffectInRange _ = ⊤
