-- The steps of the stage that makes needless packs idle.
use Rattle.std.specs.Prelude.{ℕ, nat_eq, ◌==◌, ◌&&◌, Bool, if◌then◌else◌, List, [], ◌∷◌, Option, Some}
use Rattle.std.specs.Cmp.Lexicographic.{pointwise}
use Rattle.cdg_instructions.specs.Meaning.{meaning}
use Rattle.cdg_screen.specs.Standing.{Standing, standing_after}
use Rattle.rw_code.specs.Packs.{idle_pack}
use Rattle.raw_subcode.specs.Channels.{symbols_of}
use Rattle.cdg_press.specs.Thin.{is_graphic}
use Rattle.cdg_instructions.specs.declared.instr.Instr.{Instr}

-- the instruction of 24 bytes; their parity is ignored
unfoldable pub pack_instruction : List ℕ → Instr
pack_instruction pack = meaning (symbols_of pack)

-- whether two screens are equal
unfoldable pub is_same : Standing → Standing → Bool
is_same a b =
    pointwise (pointwise nat_eq) a.memory b.memory
    && a.border == b.border
    && pointwise nat_eq a.colours b.colours
    && pointwise nat_eq a.levels b.levels
    && a.h == b.h
    && a.v == b.v

-- whether an instruction is a graphics instruction that does not change the screen
unfoldable pub is_needless : Standing → Instr → Bool
is_needless now instr = is_graphic instr && is_same (standing_after now (instr ∷ [])) now

-- the screen after a pack
unfoldable pub thin_next : Standing → List ℕ → Standing
thin_next now pack = standing_after now (pack_instruction pack ∷ [])

-- the pack of the thin form: an idle pack if the instruction is needless, otherwise the pack itself
unfoldable pub thin_gives : Standing → List ℕ → Option (List ℕ)
thin_gives now pack = Some (if is_needless now (pack_instruction pack) then idle_pack else pack)
