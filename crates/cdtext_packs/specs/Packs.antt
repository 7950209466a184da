-- Packs of eighteen bytes: type, track, number, position, twelve bytes of text, check. Code calls their sizes by the
-- names of src/pack.rt and src/kinds.rt.
use Rattle.std.specs.Prelude.{ℕ, ◌+◌, ◌*◌, ◌/◌, ◌%◌, Bool, not, ◌&&◌, List, [], ◌∷◌, ◌++◌, take, drop, slice_index, ◌==◌, nat_lt}
use Rattle.bit_lists.specs.Check.{check_of}

-- the maximum number of text packs on a disc: the number of a pack is one byte
abbrev pub most_text_packs : ℕ
most_text_packs = 256

-- the number of bytes in a pack: its head, its text, and two bytes of check
abbrev pub text_pack_bytes : ℕ
text_pack_bytes = 18

-- the number of bytes in the head of a pack: type, track, number, position
abbrev pub head_bytes : ℕ
head_bytes = 4

-- the number of bytes of text in a pack
abbrev pub text_bytes : ℕ
text_bytes = 12

-- the number of bytes that the check covers: head and text
abbrev pub checked_bytes : ℕ
checked_bytes = 16

-- the number of size packs
abbrev pub size_packs : ℕ
size_packs = 3

-- the index of the first track among the 36 bytes of text in the size packs
abbrev pub first_track_place : ℕ
first_track_place = 1

-- the index of the last track among the 36 bytes of text in the size packs
abbrev pub last_track_place : ℕ
last_track_place = 2

-- the index of the number of the last pack among the 36 bytes of text in the size packs
abbrev pub last_number_place : ℕ
last_number_place = 20

-- the greatest position in the head of a pack, which has four bits for it
abbrev pub most_position : ℕ
most_position = 15

-- the type of a pack, in hexadecimal: 80 to 85 and 8E for the kinds of strings, 8F for the size packs
abbrev pub pack_type : List ℕ → ℕ
pack_type pack = slice_index pack 0

-- the track of the string with which the text of a pack begins (0 for the album); in a size pack, its index from 0 to 2
abbrev pub pack_track : List ℕ → ℕ
pack_track pack = slice_index pack 1

-- the number of a pack: packs are in the order of their numbers
abbrev pub pack_number : List ℕ → ℕ
pack_number pack = slice_index pack 2

-- the twelve bytes of text of a pack
abbrev pub pack_text : List ℕ → List ℕ
pack_text pack = take text_bytes (drop head_bytes pack)

-- whether the last two bytes of a pack, the high byte first, are the check of the others
unfoldable pub check_matches : List ℕ → Bool
check_matches pack =
    check_of (take checked_bytes pack)
    == 256 * slice_index pack checked_bytes + slice_index pack (checked_bytes + 1)

-- whether a pack has single-byte characters and belongs to the first of eight text blocks
abbrev pub is_first_block : List ℕ → Bool
is_first_block pack = nat_lt (slice_index pack 3) 16

-- whether a pack can be kept
abbrev pub is_good : List ℕ → Bool
is_good pack = check_matches pack && is_first_block pack

-- whether the check of a pack matches, but the pack belongs to another text block or has double-byte text
abbrev pub is_of_other_block : List ℕ → Bool
is_of_other_block pack = check_matches pack && not (is_first_block pack)

-- sixteen bytes and their check, its high byte first
unfoldable pub sealed : List ℕ → List ℕ
sealed bytes = bytes ++ (check_of bytes / 256) ∷ (check_of bytes % 256) ∷ []
