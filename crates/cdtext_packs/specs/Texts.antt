-- The texts of a disc: strings of seven kinds for the album and each track.
use Rattle.std.specs.Prelude.{◌≡◌, ◌≢◌, ◌≤◌, ◌⊎◌, ℕ, ◌+◌, ◌-◌, Bool, List, [], ◌∷◌, length, replicate, slice_index_or, All, ◌==◌, nat_lt, if◌then◌else◌}
use Rattle.std.specs.List.{list_all}
use Rattle.disc_time.specs.Counts.{most_tracks}
use Rattle.disc_time.specs.Counts.{most_text_bytes}
use Rattle.cdtext_packs.specs.declared.kinds.TextKind.{TextKind}
use Rattle.cdtext_packs.specs.declared.kinds.TextKind.TheVariants.{Title, Performer, Songwriter, Composer, Arranger, Message, Code}

-- the numbers of the first and the last track, and for each kind the album's string and then each track's
pub record Texts : Type 0 where
  pub first : ℕ
  pub last : ℕ
  pub title : List (List ℕ)
  pub performer : List (List ℕ)
  pub songwriter : List (List ℕ)
  pub composer : List (List ℕ)
  pub arranger : List (List ℕ)
  pub message : List (List ℕ)
  pub code : List (List ℕ)

-- no tracks and no strings
abbrev pub no_texts : Texts
no_texts = record {
  first = 0;
  last = 0;
  title = [];
  performer = [];
  songwriter = [];
  composer = [];
  arranger = [];
  message = [];
  code = [];
}

-- all kinds, in the order of the types of their packs
abbrev pub kinds : List TextKind
kinds = Title ∷ Performer ∷ Songwriter ∷ Composer ∷ Arranger ∷ Message ∷ Code ∷ []

-- the strings of a kind
abbrev pub strings_of : TextKind → Texts → List (List ℕ)
strings_of Title texts = texts.title
strings_of Performer texts = texts.performer
strings_of Songwriter texts = texts.songwriter
strings_of Composer texts = texts.composer
strings_of Arranger texts = texts.arranger
strings_of Message texts = texts.message
strings_of Code texts = texts.code

-- the string of a track (0 for the album), or an empty string if there is none
abbrev pub text_of : TextKind → ℕ → Texts → List ℕ
text_of kind track texts =
    if track == 0 then slice_index_or (strings_of kind texts) 0 []
    else (if nat_lt track texts.first then []
    else slice_index_or (strings_of kind texts) (track - texts.first + 1) [])

-- whether a string is empty
abbrev pub is_empty : List ℕ → Bool
is_empty s = length s == 0

-- whether all of these strings are empty
abbrev pub are_empty : List (List ℕ) → Bool
are_empty strings = list_all is_empty strings

-- whether every string is empty
abbrev pub has_no_text : Texts → Bool
has_no_text texts = list_all (λ kind. are_empty (strings_of kind texts)) kinds

-- these texts, or no texts at all if every string is empty
abbrev pub unless_empty : Texts → Texts
unless_empty texts = if has_no_text texts then no_texts else texts

-- the texts of these kinds, each with a string for the album and for each track from the first on, and empty strings
-- of the other kinds
abbrev pub texts_with : ℕ → List (List ℕ) → List (List ℕ) → List (List ℕ) → List (List ℕ) → Texts
texts_with first title performer songwriter code =
    let none = replicate (length title) [] in
    record {
      first = first;
      last = first + (length title - 2);
      title = title;
      performer = performer;
      songwriter = songwriter;
      composer = none;
      arranger = none;
      message = none;
      code = code;
    }

-- The string has no zero byte, and at most as many bytes as a sheet may have.
pub record IsString (s : List ℕ) : Type 0 where
  pub size : length s ≤ most_text_bytes
  pub nonzero : All (λ byte. byte ≢ 0) s

-- There are tracks, and each kind has a string for the album and for each track.
pub record HasTracks (texts : Texts) : Type 0 where
  pub first : 1 ≤ texts.first
  pub last : texts.first ≤ texts.last
  pub limit : texts.last ≤ most_tracks
  pub count : (kind : TextKind) → length (strings_of kind texts) ≡ texts.last - texts.first + 2
  pub strings : (kind : TextKind) → All IsString (strings_of kind texts)

-- There are no texts at all, or the texts of an album with tracks.
abbrev pub AreTexts : Texts → Type 0
AreTexts texts = (texts ≡ no_texts) ⊎ HasTracks texts
