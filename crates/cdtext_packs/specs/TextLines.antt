-- Texts as lines.
use Rattle.std.specs.Prelude.{ℕ, ◌+◌, ◌-◌, not, ◌&&◌, List, [], ◌∷◌, ◌++◌, flat_map, count_by, codes, decimal, ◌==◌, nat_le, if◌then◌else◌}
use Rattle.std.specs.List.{range_with_len}
use Rattle.bit_lists.specs.Digits.{digits, hex_digits, line_feed}
use Rattle.cdtext_packs.specs.Packs.{check_matches, is_good, is_of_other_block}
use Rattle.cdtext_packs.specs.Texts.{Texts, kinds, text_of, is_empty}
use Rattle.cdtext_packs.specs.declared.kinds.TextKind.{TextKind}
use Rattle.cdtext_packs.specs.declared.kinds.TextKind.TheVariants.{Title, Performer, Songwriter, Composer, Arranger, Message, Code}

-- the name of a kind
abbrev pub kind_name : TextKind → List ℕ
kind_name Title = codes "title"
kind_name Performer = codes "performer"
kind_name Songwriter = codes "songwriter"
kind_name Composer = codes "composer"
kind_name Arranger = codes "arranger"
kind_name Message = codes "message"
kind_name Code = codes "code"

-- a byte as it is printed: printable characters except the backslash are unchanged; any other byte becomes a backslash and
-- two hexadecimal digits
abbrev pub printed : ℕ → List ℕ
printed byte = if nat_le 0x20 byte && nat_le byte 0x7e
    && not (byte == 92) then byte ∷ [] else 92 ∷ hex_digits 2 byte

-- the beginning of a line, before its string
abbrev pub line_head : TextKind → ℕ → List ℕ
line_head kind track = kind_name kind ++ codes " " ++ digits 2 track ++ codes " "

-- the line with the string of a track (0 for the album), or nothing if the string is empty
unfoldable pub text_line : Texts → TextKind → ℕ → List ℕ
text_line texts kind track =
    if is_empty (text_of kind track texts) then []
    else line_head kind track ++ (flat_map printed (text_of kind track texts) ++ line_feed)

-- the album, and the tracks from the first to the last
unfoldable pub tracks_of : Texts → List ℕ
tracks_of texts = 0 ∷ range_with_len texts.first (texts.last - texts.first + 1)

-- the lines of a kind
unfoldable pub kind_lines : Texts → TextKind → List ℕ
kind_lines texts kind = flat_map (text_line texts kind) (tracks_of texts)

-- the line with the numbers of offered packs: good packs, packs whose check does not match, and packs of other text blocks
unfoldable pub offers_line : ℕ → ℕ → ℕ → List ℕ
offers_line good bad other = codes "packs good " ++ decimal good ++ codes " bad " ++ decimal bad
    ++ codes " other " ++ decimal other ++ line_feed

-- the lines of texts, kind by kind, and the line on offered packs
abbrev pub counted_lines : Texts → ℕ → ℕ → ℕ → List ℕ
counted_lines texts good bad other = flat_map (kind_lines texts) kinds ++ offers_line good bad other

-- the lines of texts, and the line on the packs that they were read from
abbrev pub text_lines : Texts → List (List ℕ) → List ℕ
text_lines texts packs =
    counted_lines texts (count_by is_good packs) (count_by (λ pack. not (check_matches pack)) packs)
    (count_by is_of_other_block packs)
