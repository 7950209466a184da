-- The steps of a stage that draws packs.
use Rattle.std.specs.Prelude.{ℕ, ◌-◌, ◌==◌, if◌then◌else◌, List, [], ◌∷◌, Option, Some, None}
use Rattle.arrayvec.specs.ArrayVec.{ArrayVec}
use Rattle.rw_code.specs.Finding.{finding}
use Rattle.cdg_instructions.specs.Meaning.{meaning}
use Rattle.cdg_screen.specs.Standing.{Standing, standing_after}
use Rattle.stream_stages.specs.Steps.{bad_next}
use Rattle.stream_stages.specs.declared.painting.Painting.{Painting}

-- the screen after a corrected word; a word without a codeword changes nothing
abbrev pub entry_drawn : Standing → Option (List ℕ) → Standing
entry_drawn standing (Some codeword) = standing_after standing (meaning codeword ∷ [])
entry_drawn standing None = standing

-- the stage after a word; it draws only the number of packs in `left`
unfoldable pub draw_next : Painting → List ℕ → Painting
draw_next s word = if s.left == 0 then s else record {
  screen = entry_drawn s.screen (finding word);
  left = s.left - 1;
  bad = bad_next s.bad word;
}

-- the stage after some words
unfoldable pub draw_after : Painting → List (List ℕ) → Painting
draw_after s [] = s
draw_after s (word ∷ words) = draw_after (draw_next s word) words

-- the stage after the words of a block
unfoldable pub painting_next : Painting → ArrayVec (List ℕ) → Painting
painting_next s words = draw_after s words.items

-- the stage has no output
unfoldable pub painting_gives : Painting → ArrayVec (List ℕ) → Option (List ℕ)
painting_gives s words = None
