-- The lines of a cue sheet, one by one: commands and arguments.
use Rattle.std.specs.Prelude.{◌≤◌, ◌<◌, IsTrue, ℕ, ◌+◌, Bool, false, not, ◌&&◌, ◌||◌, List, [], ◌∷◌, length, take, drop, slice_index, Option, Some, None, option_map, find, codes, ◌==◌, nat_le, if◌then◌else◌, bytes_eq}
use Rattle.std.specs.List.{list_any, list_all, position}
use Rattle.std.specs.Str.{str_to_ascii_uppercase, str_eq_ignore_ascii_case}
use Rattle.disc_time.specs.Counts.{most_tracks, time_count}
use Rattle.disc_time.specs.Fields.{control_values}
use Rattle.text_lines.specs.Text.{words_in, is_some_bytes, two_digit_number, parsed_time}
use Rattle.cue_sheet.specs.CueSheet.{IsText, is_catalogue_number, is_capital_code}
use Rattle.cue_sheet.specs.declared.command.SheetCommand.{SheetCommand}
use Rattle.cue_sheet.specs.declared.command.SheetCommand.TheVariants.{Remark, Catalogue, File, Title, Performer, Songwriter, Track, Flags, Isrc, Pregap, Index, Postgap}

-- a line with a valid argument
pub data CueLine : Type 0 where
  SaysNothing : CueLine
  SaysCatalogue : List ℕ → CueLine
  SaysFile : CueLine
  SaysTitle : List ℕ → CueLine
  SaysPerformer : List ℕ → CueLine
  SaysSongwriter : List ℕ → CueLine
  SaysTrack : ℕ → Bool → CueLine
  SaysFlags : ℕ → CueLine
  SaysIsrc : List ℕ → CueLine
  SaysPregap : ℕ → CueLine
  SaysIndex : ℕ → ℕ → CueLine
  SaysPostgap : ℕ → CueLine

-- the names of commands, in upper or lower case
abbrev pub command_words : List (List ℕ × SheetCommand)
command_words =
    (codes "REM", Remark) ∷ (codes "CDTEXTFILE", Remark) ∷ (codes "CATALOG", Catalogue)
    ∷ (codes "FILE", File)
    ∷ (codes "TITLE", Title) ∷ (codes "PERFORMER", Performer) ∷ (codes "SONGWRITER", Songwriter)
    ∷ (codes "TRACK", Track) ∷ (codes "FLAGS", Flags) ∷ (codes "ISRC", Isrc)
    ∷ (codes "PREGAP", Pregap) ∷ (codes "INDEX", Index) ∷ (codes "POSTGAP", Postgap) ∷ []

-- the command of this name
unfoldable pub command_named : List ℕ → Option SheetCommand
command_named word =
    option_map (λ (entry : List ℕ × SheetCommand). entry.1)
    (find (λ (entry : List ℕ × SheetCommand). str_eq_ignore_ascii_case word entry.0) command_words)

-- whether a byte is not a control byte
abbrev pub is_plain : ℕ → Bool
is_plain b = nat_le 32 b && not (b == 127)

-- a text, if it has no control bytes
unfoldable pub plain : List ℕ → Option (List ℕ)
plain s = if list_all is_plain s then Some s else None

-- whether a byte is the quotation mark
abbrev pub is_quote : ℕ → Bool
is_quote b = b == 34

-- whether a text begins with a quotation mark
abbrev pub begins_quoted : List ℕ → Bool
begins_quoted s = is_some_bytes s && is_quote (slice_index s 0)

-- the bytes between the first two quotes of an argument that begins with one, and the rest after them
unfoldable pub quoted : List ℕ → Option (List ℕ × List ℕ)
quoted s =
    option_map (λ (end : ℕ). (take end (drop 1 s), drop (end + 1) (drop 1 s))) (position is_quote (drop 1 s))

-- the text in quotes, if nothing follows it
abbrev pub quoted_text : Option (List ℕ × List ℕ) → Option (List ℕ)
quoted_text (Some (inside, after)) = if length after == 0 then plain inside else None
quoted_text None = None

-- a text: in quotes with nothing after them, or not empty and without quotes
unfoldable pub text_argument : List ℕ → Option (List ℕ)
text_argument s =
    if begins_quoted s then quoted_text (quoted s) else (if is_some_bytes s then plain s else None)

-- whether one word follows the quotes
abbrev pub is_quoted_file : Option (List ℕ × List ℕ) → Bool
is_quoted_file (Some (name, after)) = length (words_in after) == 1
is_quoted_file None = false

-- whether the argument names a file: a name in quotes and then one word, or two or more words
unfoldable pub is_file : List ℕ → Bool
is_file s = if begins_quoted s then is_quoted_file (quoted s) else nat_le 2 (length (words_in s))

-- the catalogue number in an argument
unfoldable pub catalogue_argument : List ℕ → Option (List ℕ)
catalogue_argument s = if is_catalogue_number s then Some s else None

-- a track's code: two letters, three letters or digits, seven digits; small letters become capital letters
unfoldable pub code_argument : List ℕ → Option (List ℕ)
code_argument s = if is_capital_code (str_to_ascii_uppercase s) then Some (str_to_ascii_uppercase s) else None

-- whether some word is this flag
abbrev pub names_flag : List ℕ → List (List ℕ) → Bool
names_flag flag words = list_any (λ word. bytes_eq word flag) words

-- the control bits of flags; repeated flags count once
abbrev pub control_of : List (List ℕ) → ℕ
control_of words =
    (if names_flag (codes "4CH") words then 8 else 0) + (if names_flag (codes "DCP") words then 2 else 0)
    + (if names_flag (codes "PRE") words then 1 else 0)

-- whether a word is a flag
abbrev pub is_flag : List ℕ → Bool
is_flag word =
    bytes_eq word (codes "4CH") || bytes_eq word (codes "DCP") || bytes_eq word (codes "PRE")
    || bytes_eq word (codes "SCMS")

-- the control bits of flags, if there is at least one word and each word is a flag
unfoldable pub flags_argument : List (List ℕ) → Option ℕ
flags_argument words =
    if nat_le 1 (length words) && list_all is_flag words then Some (control_of words) else None

-- the words, if there are exactly two
abbrev pub two_words : List (List ℕ) → Option (List ℕ × List ℕ)
two_words (first ∷ second ∷ []) = Some (first, second)
two_words _ = None

-- a track's number, 01 to 99, and whether its type is AUDIO
abbrev pub track_of_words : Option ℕ → List ℕ → Option (ℕ × Bool)
track_of_words (Some number) type =
    if nat_le 1 number then Some (number, str_eq_ignore_ascii_case type (codes "AUDIO")) else None
track_of_words None type = None

-- a track: two words, its number and its type
abbrev pub track_argument : List (List ℕ) → Option (ℕ × Bool)
track_argument (number ∷ type ∷ []) = track_of_words (two_digit_number number) type
track_argument _ = None

-- an index line's number and time
abbrev pub index_of_words : Option ℕ → Option ℕ → Option (ℕ × ℕ)
index_of_words (Some number) (Some time) = Some (number, time)
index_of_words _ _ = None

-- an index line: two words, its number and its time
abbrev pub index_argument : List (List ℕ) → Option (ℕ × ℕ)
index_argument (number ∷ time ∷ []) = index_of_words (two_digit_number number) (parsed_time time)
index_argument _ = None

-- the line of a command and its argument, if the argument is valid
abbrev pub said_by : SheetCommand → List ℕ → Option CueLine
said_by Remark s = Some SaysNothing
said_by Catalogue s = option_map SaysCatalogue (catalogue_argument s)
said_by File s = if is_file s then Some SaysFile else None
said_by Title s = option_map SaysTitle (text_argument s)
said_by Performer s = option_map SaysPerformer (text_argument s)
said_by Songwriter s = option_map SaysSongwriter (text_argument s)
said_by Track s = option_map (λ (t : ℕ × Bool). SaysTrack t.0 t.1) (track_argument (words_in s))
said_by Flags s = option_map SaysFlags (flags_argument (words_in s))
said_by Isrc s = option_map SaysIsrc (code_argument s)
said_by Pregap s = option_map SaysPregap (parsed_time s)
said_by Index s = option_map (λ (i : ℕ × ℕ). SaysIndex i.0 i.1) (index_argument (words_in s))
said_by Postgap s = option_map SaysPostgap (parsed_time s)

-- The values of the line are in their ranges.
abbrev pub IsLineInRange : CueLine → Type 0
IsLineInRange (SaysCatalogue s) = IsTrue (is_catalogue_number s)
IsLineInRange (SaysTitle s) = IsText s
IsLineInRange (SaysPerformer s) = IsText s
IsLineInRange (SaysSongwriter s) = IsText s
IsLineInRange (SaysTrack number audio) = (1 ≤ number) × (number ≤ most_tracks)
IsLineInRange (SaysFlags control) = control < control_values
IsLineInRange (SaysIsrc s) = IsTrue (is_capital_code s)
IsLineInRange (SaysPregap time) = time < time_count
IsLineInRange (SaysIndex number time) = (number ≤ 99) × (time < time_count)
IsLineInRange (SaysPostgap time) = time < time_count
IsLineInRange _ = Unit {0}
