-- The packs of texts.
use Rattle.std.specs.Prelude.{ℕ, ◌+◌, ◌-◌, ◌*◌, ◌/◌, ◌≡◌, ◌<◌, ◌≤◌, List, [], ◌∷◌, ◌++◌, length, map, flat_map, take, drop, replicate, slice_index_or, min, ◌==◌, if◌then◌else◌}
use Rattle.std.specs.List.{enumerate_from}
use Rattle.bit_lists.specs.Counting.{below}
use Rattle.cdtext_packs.specs.Packs.{most_position, most_text_packs, sealed, size_packs, text_bytes}
use Rattle.cdtext_packs.specs.Texts.{Texts, kinds, strings_of, are_empty, has_no_text}
use Rattle.cdtext_packs.specs.declared.kinds.TextKind.{TextKind}
use Rattle.cdtext_packs.specs.declared.kinds.TextKind.TheVariants.{Title, Performer, Songwriter, Composer, Arranger, Message, Code}
use Rattle.cdtext_packs.specs.declared.kinds.PackStop.{PackStop}
use Rattle.cdtext_packs.specs.declared.kinds.PackStop.TheVariants.{TooMany, NoMemory}

-- the type of the packs of a kind
abbrev pub type_of : TextKind → ℕ
type_of Title = 0x80
type_of Performer = 0x81
type_of Songwriter = 0x82
type_of Composer = 0x83
type_of Arranger = 0x84
type_of Message = 0x85
type_of Code = 0x8e

-- the type of the size packs
abbrev pub size_type : ℕ
size_type = 0x8f

-- the code of the language English
abbrev pub english : ℕ
english = 9

-- the maximum number of packs for the strings of a kind: the album and 99 tracks, each with a string of the maximum length
abbrev pub most_kind_packs : ℕ
most_kind_packs = 559240542

-- the content of a pack: everything except its number and its check
pub record Content : Type 0 where
  pub type : ℕ
  pub track : ℕ
  pub position : ℕ
  pub text : List ℕ

-- the bytes of strings, with a zero byte after each string
abbrev pub joined : List (List ℕ) → List ℕ
joined strings = flat_map (λ s. s ++ 0 ∷ []) strings

-- for each of these bytes, the place of its string (the first string has the place `first`), and the offset of the byte in
-- its string
abbrev pub holders : ℕ → List (List ℕ) → List (ℕ × ℕ)
holders first [] = []
holders first (s ∷ rest) = map (λ offset. (first, offset)) (below (length s + 1)) ++ holders (first + 1) rest

-- part k of bytes that are divided into parts of twelve; zeros fill the last part
abbrev pub twelve : List ℕ → ℕ → List ℕ
twelve bytes k = take text_bytes (drop (text_bytes * k) bytes ++ replicate text_bytes 0)

-- the content of pack k of the strings of a type; the track and the position belong to the first byte of its text
unfoldable pub text_content : ℕ → ℕ → List (List ℕ) → ℕ → Content
text_content first type strings k =
    let holder = slice_index_or (holders 0 strings) (text_bytes * k) (0, 0) in
    record {
      type = type;
      track = if holder.0 == 0 then 0 else first + holder.0 - 1;
      position = min holder.1 most_position;
      text = twelve (joined strings) k;
    }

-- the number of packs for the strings of a kind: none if every string is empty
abbrev pub pack_count : List (List ℕ) → ℕ
pack_count strings = if are_empty strings then 0
    else (length (joined strings) + (text_bytes - 1)) / text_bytes

-- the contents of the packs of a kind, in order
unfoldable pub kind_contents : Texts → TextKind → List Content
kind_contents texts kind =
    let strings = strings_of kind texts in
    map (text_content texts.first (type_of kind) strings) (below (pack_count strings))

-- the 36 size bytes: the first and the last track, the number of packs of each type from 80 to 8F, the last pack number of
-- each text block, and the languages
abbrev pub size_bytes : Texts → List ℕ
size_bytes texts =
    let count = λ (kind : TextKind). length (kind_contents texts kind) in
    0 ∷ texts.first ∷ texts.last ∷ 0
    ∷ (map count (take 6 kinds) ++ replicate 8 0 ++ count Code ∷ size_packs
    ∷ (length (flat_map (kind_contents texts) kinds) + (size_packs - 1))
    ∷ (replicate 7 0 ++ english ∷ replicate 7 0))

-- the content of size pack d, from 0 to 2
abbrev pub size_content : Texts → ℕ → Content
size_content texts d = record {
  type = size_type;
  track = d;
  position = 0;
  text = twelve (size_bytes texts) d;
}

-- the contents of the three size packs
abbrev pub size_contents : Texts → List Content
size_contents texts = map (size_content texts) (below size_packs)

-- the contents of all packs of texts, in order
abbrev pub contents : Texts → List Content
contents texts = if has_no_text texts then [] else flat_map (kind_contents texts) kinds ++ size_contents texts

-- the sixteen bytes of a pack with this number and this content, without its check
abbrev pub content_bytes : ℕ → Content → List ℕ
content_bytes number content = content.type ∷ content.track ∷ number ∷ content.position ∷ content.text

-- the packs with these contents, numbered from `first` on
abbrev pub numbered : ℕ → List Content → List (List ℕ)
numbered first holding = map (λ n. sealed (content_bytes n.0 n.1)) (enumerate_from first holding)

-- the packs of texts, each of eighteen bytes
abbrev pub packs_of : Texts → List (List ℕ)
packs_of texts = numbered 0 (contents texts)

-- This is the reason why texts have no packs: they need too many packs, or memory ran out.
abbrev pub IsPackStop : Texts → PackStop → Type 0
IsPackStop texts (TooMany packs) = (most_text_packs < packs) × (packs ≡ length (contents texts))
IsPackStop texts NoMemory = length (contents texts) ≤ most_text_packs
