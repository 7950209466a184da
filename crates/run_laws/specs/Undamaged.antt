-- Streams without damage.
use Rattle.std.specs.Prelude.{ℕ, ◌/◌, ◌<◌, List, length, map}
use Rattle.bit_lists.specs.Counting.{below}
use Rattle.raw_subcode.specs.Channels.{program_symbols}
use Rattle.raw_subcode.specs.declared.form.Form.{Form}
use Rattle.rw_code.specs.Codeword.{IsCodeword}
use Rattle.rw_interleave.specs.Stream.{form_word, word_count}
use Rattle.stream_stages.specs.TextListing.{IsWholeInput}

-- the words of program symbols
abbrev pub form_words : Form → List ℕ → List (List ℕ)
form_words form symbols = map (form_word form symbols) (below (word_count form (length symbols / 96)))

-- These are whole units in which each word is a codeword.
pub record IsCleanStream (form : Form) (lead_in : ℕ) (bytes : List ℕ) : Type 0 where
  pub input : IsWholeInput form bytes
  pub codewords : (n : ℕ) → n < word_count form (length (program_symbols form bytes lead_in) / 96)
      → IsCodeword (form_word form (program_symbols form bytes lead_in) n)
