-- The texts of kept packs.
use Rattle.std.specs.Prelude.{ℕ, ◌+◌, ◌-◌, Bool, not, ◌&&◌, ◌||◌, List, [], ◌∷◌, ◌++◌, length, flat_map, filter, find, fold, take, replicate, count_by, slice_index, slice_index_or, Option, Some, None, is_none, Result, Ok, Err, ◌==◌, nat_lt, if◌then◌else◌}
use Rattle.std.specs.List.{filter_map, slice_split}
use Rattle.bit_lists.specs.Counting.{below}
use Rattle.disc_time.specs.Counts.{most_tracks}
use Rattle.cdtext_packs.specs.Packs.{checked_bytes, first_track_place, head_bytes, last_number_place, last_track_place, pack_type, pack_track, pack_number, pack_text, text_bytes}
use Rattle.cdtext_packs.specs.Kept.{with_number}
use Rattle.cdtext_packs.specs.Texts.{Texts, no_texts, kinds}
use Rattle.cdtext_packs.specs.Writing.{type_of, size_type}
use Rattle.cdtext_packs.specs.declared.kinds.TextKind.{TextKind}
use Rattle.cdtext_packs.specs.declared.kinds.TextKind.TheVariants.{Title, Performer, Songwriter, Composer, Arranger, Message, Code}
use Rattle.cdtext_packs.specs.declared.kinds.TextFault.{TextFault}
use Rattle.cdtext_packs.specs.declared.kinds.TextFault.TheVariants.{Missing, NoSize, Malformed}

-- the kept packs in order of their numbers
abbrev pub in_order : List (Option (List ℕ)) → List (List ℕ)
in_order kept = filter_map (λ pack. pack) kept

-- whether a pack is size pack d of the three
abbrev pub is_size_pack : ℕ → List ℕ → Bool
is_size_pack d pack = pack_type pack == size_type && pack_track pack == d

-- size pack d: if there are several, the one with the least number
unfoldable pub size_pack : List (Option (List ℕ)) → ℕ → Option (List ℕ)
size_pack kept d = find (is_size_pack d) (in_order kept)

-- the packs of a kind, in order
unfoldable pub kind_packs : List (Option (List ℕ)) → TextKind → List (List ℕ)
kind_packs kept kind = filter (λ pack. pack_type pack == type_of kind) (in_order kept)

-- the bytes of text in the packs of a kind
abbrev pub kind_bytes : List (Option (List ℕ)) → TextKind → List ℕ
kind_bytes kept kind = flat_map pack_text (kind_packs kept kind)

-- whether a byte is zero
abbrev pub is_zero : ℕ → Bool
is_zero byte = byte == 0

-- the number of strings that end in these bytes
abbrev pub ends_in : List ℕ → ℕ
ends_in bytes = count_by is_zero bytes

-- the first `count` strings in these bytes; a zero byte ends each string
abbrev pub strings_in : ℕ → List ℕ → List (List ℕ)
strings_in count bytes = take count (slice_split is_zero bytes)

-- the meaning of a string after other strings: a single tab repeats the previous string
abbrev pub meant : List (List ℕ) → List ℕ → List ℕ
meant before s = if length s == 1 && slice_index s 0 == 9
    && not (length before == 0) then slice_index_or before (length before - 1) [] else s

-- the meanings of a list of strings; the first string, which is the album's, is never replaced
unfoldable pub resolved : List (List ℕ) → List (List ℕ)
resolved strings = fold (λ before s. before ++ meant before s ∷ []) [] strings

-- the strings of a kind, one for the album and each track; if the kind has no packs, all strings are empty
unfoldable pub kind_texts : List (Option (List ℕ)) → ℕ → TextKind → List (List ℕ)
kind_texts kept count kind = if length (kind_bytes kept kind) == 0 then replicate count []
    else resolved (strings_in count (kind_bytes kept kind))

-- whether a kind has packs, but with fewer than `count` strings
unfoldable pub is_short : List (Option (List ℕ)) → ℕ → TextKind → Bool
is_short kept count kind = not (length (kind_packs kept kind) == 0)
    && nat_lt (ends_in (kind_bytes kept kind)) count

-- the number of the last of some packs
abbrev pub last_number : List (List ℕ) → ℕ
last_number packs = pack_number (slice_index_or packs (length packs - 1) [])

-- the texts of all kinds for these tracks
abbrev pub all_texts : List (Option (List ℕ)) → ℕ → ℕ → Texts
all_texts kept first_track last_track =
    let strings = kind_texts kept (last_track - first_track + 2) in
    record {
      first = first_track;
      last = last_track;
      title = strings Title;
      performer = strings Performer;
      songwriter = strings Songwriter;
      composer = strings Composer;
      arranger = strings Arranger;
      message = strings Message;
      code = strings Code;
    }

-- the texts of packs of which none is missing, or the fault of a kind with too few strings
abbrev pub read_kinds : List (Option (List ℕ)) → ℕ → ℕ → Option TextKind → Result Texts TextFault
read_kinds kept first_track last_track (Some kind) =
    Err (Malformed (last_number (kind_packs kept kind)) (checked_bytes - 1))
read_kinds kept first_track last_track None = Ok (all_texts kept first_track last_track)

-- the least number below `count` without a kept pack, if any
abbrev pub first_missing : List (Option (List ℕ)) → ℕ → Option ℕ
first_missing kept count = find (λ n. is_none (with_number kept n)) (below count)

-- the first kind that is short
abbrev pub first_short : List (Option (List ℕ)) → ℕ → Option TextKind
first_short kept count = find (is_short kept count) kinds

-- the texts of the packs with the numbers below `count`, or the fault of the first missing pack
abbrev pub read_numbers : List (Option (List ℕ)) → ℕ → ℕ → ℕ → Option ℕ → Result Texts TextFault
read_numbers kept count first_track last_track (Some n) = Err (Missing n)
read_numbers kept count first_track last_track None =
    let used = take count kept in read_kinds used first_track last_track
    (first_short used (last_track - first_track + 2))

-- the texts of kept packs, from the first two size packs: these have the first track, the last track and the last number
abbrev pub read_sized : List (Option (List ℕ)) → List ℕ → List ℕ → Result Texts TextFault
read_sized kept size0 size1 =
    let first_track = slice_index (pack_text size0) first_track_place in
    let last_track = slice_index (pack_text size0) last_track_place in
    let count = slice_index (pack_text size1) (last_number_place - text_bytes) + 1 in
    if nat_lt first_track 1 || nat_lt most_tracks first_track
    then Err (Malformed (pack_number size0) (head_bytes + first_track_place))
    else (if nat_lt last_track first_track || nat_lt most_tracks last_track
    then Err (Malformed (pack_number size0) (head_bytes + last_track_place))
    else read_numbers kept count first_track last_track (first_missing kept count))

-- the texts of kept packs, if all three size packs are kept
abbrev pub read_sizes : List (Option (List ℕ)) → Option (List ℕ) → Option (List ℕ) → Option (List ℕ)
    → Result Texts TextFault
read_sizes kept (Some size0) (Some size1) (Some size2) = read_sized kept size0 size1
read_sizes kept size0 size1 size2 = Err NoSize

-- whether no pack is kept
abbrev pub keeps_nothing : List (Option (List ℕ)) → Bool
keeps_nothing kept = length (in_order kept) == 0

-- the texts of kept packs, or the first reason why they have none
abbrev pub read_texts : List (Option (List ℕ)) → Result Texts TextFault
read_texts kept = if keeps_nothing kept then Ok no_texts
    else read_sizes kept (size_pack kept 0) (size_pack kept 1) (size_pack kept 2)
