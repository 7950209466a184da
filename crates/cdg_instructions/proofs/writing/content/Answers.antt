use Rattle.std.proofs.Common.{◌≡◌, ℕ, ◌+◌, ◌*◌, ◌<◌, List, ◌∷◌, ◌⊎◌, inl, inr, subst, arith}
use Rattle.std.specs.Prelude.{All, replicate}
use Rattle.std.proofs.lemmas.List.Elements.{All-cons, All-replicate}
use Rattle.cdg_instructions.specs.Instruction.{InRange, InScrollRange}
use Rattle.cdg_instructions.specs.declared.instr.Instr.{Instr}
use Rattle.cdg_instructions.specs.declared.instr.Instr.TheVariants.{MemoryPreset, ScrollPreset, ScrollCopy}
use Rattle.cdg_instructions.proofs.writing.content.Goals as goal

-- each number of a part of the content has six bits
abbrev AreSixBits : List ℕ → Type 0
AreSixBits = All (λ symbol. symbol < 64)

one_more : (symbol : ℕ) (rest : List ℕ) → symbol < 64 → AreSixBits rest → AreSixBits (symbol ∷ rest)
one_more symbol rest lt small = All-cons (λ symbol. symbol < 64) symbol rest lt small

and_zeros : (n symbol : ℕ) → symbol < 64 → AreSixBits (symbol ∷ replicate n 0)
and_zeros n symbol lt =
    one_more symbol (replicate n 0) lt (All-replicate (λ symbol. symbol < 64) n 0 (omega arith))

small_presets : (instr : Instr) (colour repeat : ℕ) → instr ≡ MemoryPreset colour repeat → InRange instr
    → AreSixBits (colour ∷ repeat ∷ replicate 14 0)
small_presets instr colour repeat is range =
    let both : (colour < 16) × (repeat < 16) = subst InRange is range in
    one_more colour (repeat ∷ replicate 14 0) (omega arith) (and_zeros 14 repeat (omega arith))

small_scrolls : (instr : Instr) (colour across h down v : ℕ)
    → (instr ≡ ScrollPreset colour across h down v) ⊎ (instr ≡ ScrollCopy colour across h down v)
    → InRange instr
    → AreSixBits (colour ∷ (16 * across + h) ∷ (16 * down + v) ∷ replicate 13 0)
small_scrolls instr colour across h down v is range =
    let all : InScrollRange colour across h down v =
    elim is [ inl preset ↦ subst InRange preset range | inr copy ↦ subst InRange copy range ] in
    one_more colour ((16 * across + h) ∷ (16 * down + v) ∷ replicate 13 0) (omega arith)
    (one_more (16 * across + h) ((16 * down + v) ∷ replicate 13 0) (omega arith)
    (and_zeros 13 (16 * down + v) (omega arith)))

pub returns-in-MemoryPreset-clause-range : goal.returns-in-MemoryPreset-clause-range
returns-in-MemoryPreset-clause-range c = small_presets _ _ _ c.in-MemoryPreset.is c.requires.range

pub returns-in-BorderPreset-clause-range : goal.returns-in-BorderPreset-clause-range
returns-in-BorderPreset-clause-range c =
    let small : c.in-BorderPreset.colour < 16 = subst InRange c.in-BorderPreset.is c.requires.range in
    and_zeros 15 c.in-BorderPreset.colour (omega arith)

pub returns-in-ScrollPreset-clause-range : goal.returns-in-ScrollPreset-clause-range
returns-in-ScrollPreset-clause-range c = small_scrolls _ _ _ _ _ _ c.in-ScrollPreset.is c.requires.range
