-- The steps of the stages of a player.
use Rattle.std.specs.Prelude.{◌≡◌, replicate, ℕ, ◌+◌, ◌-◌, ◌*◌, ◌^◌, ◌==◌, min, if◌then◌else◌, List, [], ◌∷◌, map, take, drop, Option, Some, None, is_none}
use Rattle.arrayvec.specs.ArrayVec.{ArrayVec}
use Rattle.cdg_io.specs.Run.{run_state, run_gives}
use Rattle.rw_code.specs.Finding.{finding}
use Rattle.bit_lists.specs.Counting.{below}
use Rattle.rw_interleave.specs.Gathering.{gather_next, gather_gives}
use Rattle.raw_subcode.specs.Channels.{symbols_of}
use Rattle.raw_subcode.specs.Sizes.{slots_a_block, symbols_a_slot}
use Rattle.rw_interleave.specs.Texts.{cdg_bytes}
use Rattle.raw_subcode.specs.declared.form.Form.{Form}
use Rattle.raw_subcode.specs.declared.form.Form.TheVariants.{Raw, Sector, Cooked}
use Rattle.stream_stages.specs.declared.block_words.BlockWords.{BlockWords}
use Rattle.stream_stages.specs.declared.block_packs.BlockPacks.{BlockPacks}
use Rattle.rw_code.specs.Packs.{idle_pack}

-- slot i of a block
unfoldable pub slot_of : List ℕ → ℕ → List ℕ
slot_of block i = symbols_of (take symbols_a_slot (drop (symbols_a_slot * i) block))

-- the four slots of a block
unfoldable pub slots_of : List ℕ → List (List ℕ)
slots_of block = map (slot_of block) (below slots_a_block)

-- the window of slots after a slot; a cooked stream needs no window
unfoldable pub window_next : Form → List (List ℕ) → List ℕ → List (List ℕ)
window_next Raw window slot = gather_next window slot
window_next Sector window slot = gather_next window slot
window_next Cooked window slot = window

-- the word that a slot completes, if any; in a cooked stream each slot is a word
unfoldable pub window_gives : Form → List (List ℕ) → List ℕ → Option (List ℕ)
window_gives Raw window slot = gather_gives window slot
window_gives Sector window slot = gather_gives window slot
window_gives Cooked window slot = Some slot

-- the words of a block; None means four idle packs
abbrev pub words_or_idle : Option (ArrayVec (List ℕ)) → ArrayVec (List ℕ)
words_or_idle (Some words) = words
words_or_idle None = record { items = replicate slots_a_block idle_pack }

-- the words of a block; None means no words
abbrev pub words_or_none : Option (ArrayVec (List ℕ)) → List (List ℕ)
words_or_none (Some words) = words.items
words_or_none None = []

-- the state at the start of a stream
abbrev pub fresh_words : Form → ℕ → BlockWords
fresh_words form lead_in = record { form = form; lead_in = lead_in; gather = [] }

-- A block of the lead-in is skipped, and a block of the program is gathered slot by slot.
unfoldable pub words_next : BlockWords → List ℕ → BlockWords
words_next s block =
    if s.lead_in == 0 then record s { gather = run_state (window_next s.form) s.gather (slots_of block) }
    else record s { lead_in = s.lead_in - 1 }

-- the words that a block of the program completes
unfoldable pub words_give : BlockWords → List ℕ → Option (ArrayVec (List ℕ))
words_give s block =
    if s.lead_in == 0 then Some (record {
      items = run_gives (window_next s.form) (window_gives s.form)
          s.gather (slots_of block);
    }) else None

-- The block changes no state, and completes four idle packs.
abbrev pub IdlesOn : BlockWords → List ℕ → Type 0
IdlesOn s block = (s ≡ words_next s block)
    × (Some (record { items = replicate slots_a_block idle_pack }) ≡ words_give s block)

-- the count of bad words after a word; it saturates at 32 bits
unfoldable pub bad_next : ℕ → List ℕ → ℕ
bad_next bad word = if is_none (finding word) then min (bad + 1) (2 ^ 32 - 1) else bad

-- the count of bad words after some words
unfoldable pub bad_after : ℕ → List (List ℕ) → ℕ
bad_after bad [] = bad
bad_after bad (word ∷ words) = bad_after (bad_next bad word) words

-- the count of bad words after the words of a block
abbrev pub bad_with : ℕ → Option (ArrayVec (List ℕ)) → ℕ
bad_with bad None = bad
bad_with bad (Some words) = bad_after bad words.items

-- the bytes of the corrected words
abbrev pub text_of_words : Option (ArrayVec (List ℕ)) → List ℕ
text_of_words None = []
text_of_words (Some words) = cdg_bytes (map finding words.items)

-- the stage after a block: it gathers the words and counts the bad ones
unfoldable pub packs_next : BlockPacks → List ℕ → BlockPacks
packs_next s block = record {
  words = words_next s.words block;
  bad = bad_with s.bad (words_give s.words block);
}

-- the output of the stage for a block: the bytes of the packs
unfoldable pub packs_give : BlockPacks → List ℕ → Option (List ℕ)
packs_give s block = Some (text_of_words (words_give s.words block))
