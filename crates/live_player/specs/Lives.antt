-- A player that is fed block by block, and its screen.
use Rattle.std.specs.Prelude.{◌≡◌, ◌+◌, ◌-◌, ◌^◌, ◌/◌, ◌%◌, ◌++◌, ℕ, List, [], ◌∷◌, length, map, drop, min, slice_index, Option, Some, None}
use Rattle.bit_lists.specs.Counting.{below}
use Rattle.std.specs.List.{flat_map, AllByRecursion}
use Rattle.arrayvec.specs.ArrayVec.{ArrayVec}
use Rattle.cdg_io.specs.Run.{run_state}
use Rattle.raw_subcode.specs.Channels.{symbols_of}
use Rattle.raw_subcode.specs.declared.form.Form.{Form}
use Rattle.rw_code.specs.Finding.{finding}
use Rattle.rw_interleave.specs.Stream.{IsRecovered, bad_count, form_word, word_count}
use Rattle.cdg_instructions.specs.declared.instr.Instr.{Instr}
use Rattle.cdg_instructions.specs.Meaning.{meaning}
use Rattle.cdg_instructions.specs.Sizes.{screen_width}
use Rattle.cdg_screen.specs.Memory.{seen}
use Rattle.cdg_screen.specs.Standing.{Standing, blank, screen_pixel, standing_after}
use Rattle.cdg_screen.specs.Texts.{colour_bytes}
use Rattle.stream_stages.specs.Screen.{AreMeant, AreShown}
use Rattle.stream_stages.specs.Steps.{fresh_words, words_next}
use Rattle.live_player.specs.declared.live.LivePlayer.{LivePlayer}
use Rattle.raw_subcode.specs.Sizes.{block_bytes}

-- the state of a player's screen
abbrev pub standing_on : LivePlayer → Standing
standing_on player = seen player.screen

-- the words of a stream, each in the order of its last symbol
unfoldable pub stream_words : Form → ℕ → List (List ℕ) → List (List ℕ)
stream_words form lead_in blocks =
    let symbols = flat_map symbols_of (drop lead_in blocks) in
    map (form_word form symbols) (below (word_count form (length symbols / block_bytes)))

-- the words that a block adds after other blocks
abbrev pub words_with : Form → ℕ → List (List ℕ) → List ℕ → List (List ℕ)
words_with form lead_in before block =
    drop (length (stream_words form lead_in before)) (stream_words form lead_in (before ++ block ∷ []))

-- the instructions of corrected words, in order; a word with no codeword near has none
abbrev pub meant_by : List (Option (List ℕ)) → List Instr
meant_by [] = []
meant_by (None ∷ rest) = meant_by rest
meant_by (Some codeword ∷ rest) = meaning codeword ∷ meant_by rest

-- the instructions of words, each corrected to the codeword near it
abbrev pub instructions_of : List (List ℕ) → List Instr
instructions_of words = meant_by (map finding words)

-- the instruction of 24 bytes, whose low six bits are symbols; the parity is ignored
unfoldable pub instruction_of : List ℕ → Instr
instruction_of pack = meaning (map (λ byte. byte % 64) pack)

-- an input of a player: the next block of its stream, or a pack to draw
pub data Given : Type 0 where
  Fed : List ℕ → Given
  Drawn : List ℕ → Given

-- In the next three definitions, the last input of a player is the first of the list.

-- the blocks among the inputs, in order
abbrev pub blocks_in : List Given → List (List ℕ)
blocks_in [] = []
blocks_in (Fed block ∷ before) = blocks_in before ++ block ∷ []
blocks_in (Drawn pack ∷ before) = blocks_in before

-- the packs among the inputs, in order
abbrev pub packs_given : List Given → List (List ℕ)
packs_given [] = []
packs_given (Fed block ∷ before) = packs_given before
packs_given (Drawn pack ∷ before) = packs_given before ++ pack ∷ []

-- the instructions of all inputs, in order: those of the words that end with each block, and that of each pack
abbrev pub instructions_in : Form → ℕ → List Given → List Instr
instructions_in form lead_in [] = []
instructions_in form lead_in (Fed block ∷ before) =
    instructions_in form lead_in before ++ instructions_of (words_with form lead_in (blocks_in before) block)
instructions_in form lead_in (Drawn pack ∷ before) =
    instructions_in form lead_in before ++ instruction_of pack ∷ []

-- the number of words of the blocks with no codeword near
abbrev pub bad_words_in : Form → ℕ → List (List ℕ) → ℕ
bad_words_in form lead_in blocks = bad_count (map finding (stream_words form lead_in blocks))

-- The player began with a stream of this form and was given these inputs since, the last one first. Its screen is what
-- they draw, in order, on a blank screen. The blocks and the words with no codeword near are counted; the counts
-- saturate.
pub record HasPlayed (form : Form) (lead_in : ℕ) (given : List Given) (player : LivePlayer) : Type 0 where
  pub sized : AllByRecursion (λ block. length block ≡ block_bytes) (blocks_in given)
  pub gathers : player.words ≡ run_state words_next (fresh_words form lead_in) (blocks_in given)
  pub stands : standing_on player ≡ standing_after blank (instructions_in form lead_in given)
  pub begun : player.lead_in ≡ lead_in
  pub counted : player.blocks ≡ min (length (blocks_in given)) (2 ^ 32 - 1)
  pub bad : player.bad ≡ min (bad_words_in form lead_in (blocks_in given)) (2 ^ 32 - 1)

-- Whatever a player was given before, it was given these inputs since, the last one first.
abbrev pub PlaysOn : List Given → LivePlayer → LivePlayer → Type 0
PlaysOn more before after = (form : Form) (lead_in : ℕ) (given : List Given)
    → HasPlayed form lead_in given before → HasPlayed form lead_in (more ++ given) after

-- This is the screen of these blocks: all packs that end with them, each corrected to the codeword near it, are drawn in
-- turn on a blank screen.
pub record IsLiveView (form : Form) (lead_in : ℕ) (blocks : List (List ℕ)) (now : Standing) : Type 0 where
  pub found : List (Option (List ℕ))
  pub recovered : IsRecovered form (flat_map symbols_of (drop lead_in blocks)) found
  pub instrs : List Instr
  pub meant : AreMeant found instrs
  pub stands : now ≡ standing_after blank instrs

-- This is the screen of these blocks at a moment: the packs that are complete then are drawn in the same way.
pub record IsLiveViewAt (form : Form) (lead_in time : ℕ) (blocks : List (List ℕ))
    (now : Standing) : Type 0 where
  pub found : List (Option (List ℕ))
  pub recovered : IsRecovered form (flat_map symbols_of (drop lead_in blocks)) found
  pub instrs : List Instr
  pub shown : AreShown found time instrs
  pub stands : now ≡ standing_after blank instrs

-- the instructions of the words that end with a block, if any
abbrev pub drawn_for : Option (ArrayVec (List ℕ)) → List Instr
drawn_for None = []
drawn_for (Some words) = instructions_of words.items

-- the count of bad words after the words that end with a block, if any: a u32 that saturates
abbrev pub bad_counted : ℕ → Option (ArrayVec (List ℕ)) → ℕ
bad_counted bad None = bad
bad_counted bad (Some words) = min (bad + bad_count (map finding words.items)) (2 ^ 32 - 1)

-- the number of bytes in a picture: red, green and blue of each pixel
abbrev pub picture_bytes : ℕ
picture_bytes = 194400

-- byte n of the picture: red, green or blue of the colour of pixel n / 3, of the pixels row by row
unfoldable pub picture_byte : Standing → ℕ → ℕ
picture_byte now n =
    let pixel = screen_pixel now (n / 3 % screen_width) (n / 3 / screen_width) in
    slice_index (colour_bytes (slice_index now.colours pixel)) (n % 3)
