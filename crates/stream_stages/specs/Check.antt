-- What `check` counts, and the lines that it writes.
use Rattle.std.specs.Prelude.{◌≡◌, ℕ, ◌-◌, Bool, false, not, ◌&&◌, ◌||◌, ◌==◌, min, List, ◌++◌, length, map, count_by, slice_index, Option, Some, None, Result, is_ok, is_err, codes, decimal}
use Rattle.std.specs.List.{list_any, zip}
use Rattle.bit_lists.specs.Counting.{below}
use Rattle.bit_lists.specs.Digits.{line_feed}
use Rattle.rw_code.specs.Codeword.{differences}
use Rattle.raw_subcode.specs.Channels.{blocks_of, program_symbols}
use Rattle.raw_subcode.specs.declared.form.Form.{Form}
use Rattle.rw_interleave.specs.Stream.{word_count, form_word, IsRecovered, bad_count}
use Rattle.cdg_instructions.specs.Instruction.{known_codes}
use Rattle.q_channel.specs.declared.frame.QFrame.{QFrame}
use Rattle.q_channel.specs.declared.frame.QFault.{QFault}
use Rattle.q_channel.specs.QList.{q_blocks, AreQReadings}

-- whether n symbols of a word are wrong
abbrev pub has_wrong : ℕ → List ℕ × Option (List ℕ) → Bool
has_wrong n (word, Some codeword) = differences word codeword == n
has_wrong n (word, None) = false

-- whether the first two symbols of a codeword pass a test
abbrev pub found_passes : (ℕ → ℕ → Bool) → Option (List ℕ) → Bool
found_passes test (Some codeword) = test (slice_index codeword 0) (slice_index codeword 1)
found_passes test None = false

-- whether a number names a graphics instruction
abbrev pub is_known : ℕ → Bool
is_known code = list_any (λ c. c == code) known_codes

-- whether a pack is idle: the first of its symbols, the mode, is 0
abbrev pub is_idle : ℕ → ℕ → Bool
is_idle mode code = mode == 0

-- whether a pack has a known instruction for graphics
abbrev pub is_graphics : ℕ → ℕ → Bool
is_graphics mode code = mode == 9 && is_known code

-- whether a pack has the mode of graphics, but no known instruction
abbrev pub is_unknown : ℕ → ℕ → Bool
is_unknown mode code = mode == 9 && not (is_known code)

-- whether a pack is neither idle nor of the mode of graphics
abbrev pub is_foreign : ℕ → ℕ → Bool
is_foreign mode code = not (mode == 0 || mode == 9)

-- a name, a space, a count and a line feed
unfoldable pub count_line : List ℕ → ℕ → List ℕ
count_line name n = name ++ codes " " ++ decimal n ++ line_feed

-- the lines for blocks and packs
abbrev pub stream_lines : ℕ → ℕ → ℕ → List ℕ
stream_lines lead_in program packs =
    count_line (codes "lead-in") lead_in
    ++ (count_line (codes "program") program ++ count_line (codes "packs") packs)

-- the lines for wrong symbols
abbrev pub wrong_lines : ℕ → ℕ → ℕ → ℕ → List ℕ
wrong_lines clean one two bad = count_line (codes "clean") clean
    ++ (count_line (codes "one") one ++ (count_line (codes "two") two ++ count_line (codes "bad") bad))

-- the lines for the kinds of packs
abbrev pub pack_count_lines : ℕ → ℕ → ℕ → ℕ → List ℕ
pack_count_lines idle graphics unknown foreign =
    count_line (codes "idle") idle
    ++ (count_line (codes "graphics") graphics
    ++ (count_line (codes "unknown") unknown ++ count_line (codes "foreign") foreign))

-- the lines for Q frames
abbrev pub frame_count_lines : ℕ → ℕ → List ℕ
frame_count_lines good bad = count_line (codes "q-good") good ++ count_line (codes "q-bad") bad

-- the lines for the words of a stream, their corrections, and the readings of the Q channel of all its blocks
unfoldable pub check_text : ℕ → ℕ → List (List ℕ) → List (Option (List ℕ)) → List (Result QFrame QFault)
    → List ℕ
check_text lead_in program words found readings =
    stream_lines lead_in program (length words)
    ++ (wrong_lines (count_by (has_wrong 0) (zip words found)) (count_by (has_wrong 1) (zip words found))
    (count_by (has_wrong 2) (zip words found)) (bad_count found)
    ++ (pack_count_lines (count_by (found_passes is_idle) found) (count_by (found_passes is_graphics) found)
    (count_by (found_passes is_unknown) found) (count_by (found_passes is_foreign) found)
    ++ frame_count_lines (count_by is_ok readings) (count_by is_err readings)))

-- The text lists the counts for these bytes, and `bad` is the number of bad words.
pub record IsCheckListed (form : Form) (lead_in : ℕ) (bytes text : List ℕ) (bad : ℕ) : Type 0 where
  pub found : List (Option (List ℕ))
  pub recovered : IsRecovered form (program_symbols form bytes lead_in) found
  pub readings : List (Result QFrame QFault)
  pub read : AreQReadings (q_blocks form bytes) readings
  pub text_is :
      let blocks = length (blocks_of form bytes) in
      let words = map (form_word form (program_symbols form bytes lead_in))
      (below (word_count form (blocks - lead_in))) in
      text ≡ check_text (min lead_in blocks) (blocks - lead_in) words found readings
  pub bad_is : bad ≡ bad_count found
