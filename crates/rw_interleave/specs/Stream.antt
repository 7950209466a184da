-- The words of a stream, what is recovered from them, and which damage can be recovered.
use Rattle.std.specs.List.{list_any}
use Rattle.std.specs.Prelude.{⊤, Bool, false, nat_le, nat_lt, ◌&&◌, ◌≡◌, ℕ, ◌+◌, ◌-◌, ◌*◌, ◌/◌, ◌<◌, ◌≤◌, List, [], ◌∷◌, ◌++◌, length, map, slice_index, slice_index_or, count_by, replicate, Option, None, is_none}
use Rattle.bit_lists.specs.Counting.{below}
use Rattle.raw_subcode.specs.Sizes.{block_bytes, slots_a_block}
use Rattle.rw_code.specs.Sizes.{word_symbols}
use Rattle.rw_code.specs.Codeword.{IsNear}
use Rattle.rw_code.specs.Finding.{IsFinding}
use Rattle.rw_interleave.specs.Interleave.{word_of, whole_packs}
use Rattle.raw_subcode.specs.declared.form.Form.{Form}
use Rattle.raw_subcode.specs.declared.form.Form.TheVariants.{Cooked}
use Rattle.rw_code.specs.Packs.{idle_pack}

-- the number of whole words in `blocks` blocks of a stream in this form
abbrev pub word_count : Form → ℕ → ℕ
word_count Cooked blocks = slots_a_block * blocks
word_count _ blocks = whole_packs blocks

-- word n of the program symbols: in a cooked stream, its symbols are next to each other; otherwise, they are spread over
-- eight slots
abbrev pub form_word : Form → List ℕ → ℕ → List ℕ
form_word Cooked symbols n = map (λ i. slice_index symbols (word_symbols * n + i)) (below word_symbols)
form_word _ symbols n = word_of symbols n

-- `found` has the result of the correction of each word of the program symbols.
pub record IsRecovered (form : Form) (symbols : List ℕ) (found : List (Option (List ℕ))) : Type 0 where
  pub count : length found ≡ word_count form (length symbols / block_bytes)
  pub each : (n : ℕ) → n < word_count form (length symbols / block_bytes)
      → IsFinding (form_word form symbols n) (slice_index_or found n None)

-- the number of bad words: those for which nothing was found
abbrev pub bad_count : List (Option (List ℕ)) → ℕ
bad_count found = count_by is_none found

-- the packs of a stream of `blocks` blocks as its words: in a cooked stream, idle packs follow them
abbrev pub all_packs : Form → ℕ → List (List ℕ) → List (List ℕ)
all_packs form blocks packs = packs ++ replicate (word_count form blocks - length packs) idle_pack

-- Each word of `symbols` differs in at most two symbols from the word of `others` with the same number. If the form is
-- `Cooked`, `others` has further words after these. In each further word, at most two symbols are not 0.
pub record IsDamaged (symbols : List ℕ) (form : Form) (others : List ℕ) : Type 0 where
  pub size : length others ≡ length symbols
  pub words : (n : ℕ) → n < whole_packs (length symbols / block_bytes)
      → IsNear (word_of symbols n) (form_word form others n)
  pub further : (n : ℕ) → whole_packs (length symbols / block_bytes) ≤ n
      → n < word_count form (length symbols / block_bytes) → IsNear (form_word form others n) idle_pack

-- Symbols that differ in bursts

-- the maximum number of symbols in a burst
abbrev pub most_burst : ℕ
most_burst = 16

-- the minimum number of symbols between two bursts: as many as the eight slots of a pack have
abbrev pub least_gap : ℕ
least_gap = 192

-- Each burst (its first place and its size) begins at `place` or later and has at most `most_burst` symbols. At least
-- `least_gap` symbols lie between two bursts.
abbrev pub AreBurstsFrom : ℕ → List (ℕ × ℕ) → Type 0
AreBurstsFrom place [] = ⊤
AreBurstsFrom place (burst ∷ rest) = (place ≤ burst.0) × (burst.1 ≤ most_burst)
    × AreBurstsFrom (burst.0 + burst.1 + least_gap) rest

-- whether a place is in a burst
abbrev pub is_in_burst : ℕ → ℕ × ℕ → Bool
is_in_burst place burst = nat_le burst.0 place && nat_lt place (burst.0 + burst.1)

-- The two lists of symbols have equal lengths, and are equal outside some bursts.
pub record DiffersInBursts (symbols others : List ℕ) : Type 0 where
  pub size : length others ≡ length symbols
  pub bursts : List (ℕ × ℕ)
  pub apart : AreBurstsFrom 0 bursts
  pub equal : (p : ℕ) → p < length symbols → list_any (is_in_burst p) bursts ≡ false
      → slice_index others p ≡ slice_index symbols p
