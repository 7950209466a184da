-- Marks of a stream.
use Rattle.std.specs.Prelude.{◌≢◌, ℕ, List, map, reverse, take}
use Rattle.raw_subcode.specs.declared.form.Form.{Form}
use Rattle.live_player.specs.Lives.{Given, HasPlayed}
use Rattle.live_player.specs.Plain.{player_of}
use Rattle.live_player.specs.declared.marks.Mark.{Mark}

-- the inputs for the first n blocks or packs of a stream, the last one first
abbrev pub given_first : (List ℕ → Given) → ℕ → List (List ℕ) → List Given
given_first gives n units = map gives (reverse (take n units))

-- The player of a mark was given the blocks or packs of a stream up to its place. At place 0 it is no mark.
abbrev pub IsMark : (List ℕ → Given) → Form → ℕ → List (List ℕ) → Mark → Type 0
IsMark gives form lead_in units mark =
    mark.place ≢ 0 → HasPlayed form lead_in (given_first gives mark.place units) (player_of mark.player)
