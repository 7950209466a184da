-- The strings of a sheet have no zero byte, and form its texts.
use Rattle.std.proofs.Common.{◌≡◌, ◌≢◌, ℕ, ◌+◌, ◌-◌, ◌<◌, ◌≤◌, Bool, true, not, ◌&&◌, ◌||◌, ◌==◌, List, [], ◌∷◌, ◌++◌, length, get_or, take, drop, map, replicate, unwrap_or, Option, Some, None, All, IsTrue, inl, inr, refl, sym, ap, ◌∙◌, subst, arith}
use Rattle.std.specs.List.{list_all}
use Rattle.std.specs.Char.{is_ascii_digit, is_ascii_uppercase}
use Rattle.std.specs.Option.{ForSome}
use Rattle.std.proofs.lemmas.List.{take-append-drop, drop-drop}
use Rattle.std.proofs.lemmas.List.Elements.{All-get_or, All-from_get_or}
use Rattle.std.proofs.lemmas.List.Folds.{list_all-append, list_all_at}
use Rattle.std.proofs.lemmas.List.FromFn.{map-range_with_len_more, length-map-range_with_len}
use Rattle.std.proofs.lemmas.Bool.{and_parts, and_from, cond_both, eq-eqb, ne_eqb, eqb-true, eqb-false, not_from_false, not_from_true, false≢true, or_cases, both_ways}
use Rattle.bit_lists.specs.Counting.{below}
use Rattle.cue_sheet.specs.CueSheet.{CueSheet, IsSheet, IsText, is_catalogue_number, is_capital_code, text_at, track_text, album_text, track_of}
use Rattle.cue_sheet.specs.declared.fault.CueText.{CueText}
use Rattle.cue_sheet.specs.declared.fault.CueText.TheVariants.{Title, Performer, Songwriter}
use Rattle.cdtext_packs.specs.Texts.{Texts, IsString, texts_with, unless_empty}
use Rattle.cdtext_packs.specs.declared.kinds.TextKind.{TextKind}
use Rattle.cdtext_packs.specs.declared.kinds.TextKind.TheVariants as kind
use Rattle.stream_writer.specs.SheetTexts.{code_at, for_each, sheet_texts, string_at, texts_of_sheet}

text_string : (s : List ℕ) → IsText s → IsString s
text_string s text = record {
  size = text.short;
  nonzero =
      All-from_get_or (λ b. b ≢ 0) s 0 (λ i inside e.
      let plain = All-get_or (λ b. (32 ≤ b) × (b ≢ 127)) s i 0 inside text.plain in
      omega (arith, plain.0));
}

album : (sheet : CueSheet) (kind : CueText) → IsSheet sheet → IsText (album_text kind sheet)
album sheet Title is = is.title
album sheet Performer is = is.performer
album sheet Songwriter is = is.songwriter

track : (sheet : CueSheet) (kind : CueText) (k : ℕ) → IsSheet sheet → k < length sheet.tracks
    → IsText (track_text kind (track_of sheet k))
track sheet Title k is inside = (is.tracks k inside).title
track sheet Performer k is inside = (is.tracks k inside).performer
track sheet Songwriter k is inside = (is.tracks k inside).songwriter

pub text_is_string : (sheet : CueSheet) (kind : CueText) (place : ℕ) → IsSheet sheet
    → place ≤ length sheet.tracks
    → IsString (text_at kind sheet place)
text_is_string sheet kind place is inside =
    cond_both (place == 0) (album_text kind sheet) (track_text kind (track_of sheet (place - 1))) IsString
    (λ _. text_string (album_text kind sheet) (album sheet kind is))
    (λ later. let some : place ≢ 0 = eqb-false place 0 later in
    text_string (track_text kind (track_of sheet (place - 1)))
    (track sheet kind (place - 1) is (omega arith)))

some_byte : ℕ → Bool
some_byte b = not (b == 0)

digit_some : (b : ℕ) → is_ascii_digit b ≡ true → some_byte b ≡ true
unfolding some_byte
digit_some b is =
    not_from_false (b == 0) (ne_eqb b 0 (λ e. false≢true (subst (λ (n : ℕ). is_ascii_digit n ≡ true) e is)))

upper_some : (b : ℕ) → is_ascii_uppercase b ≡ true → some_byte b ≡ true
unfolding some_byte
upper_some b is =
    not_from_false (b == 0)
    (ne_eqb b 0 (λ e. false≢true (subst (λ (n : ℕ). is_ascii_uppercase n ≡ true) e is)))

either_some : (b : ℕ) → (is_ascii_digit b || is_ascii_uppercase b) ≡ true → some_byte b ≡ true
either_some b is = elim (or_cases (is_ascii_digit b) (is_ascii_uppercase b) is)
    [ inl digit ↦ digit_some b digit | inr upper ↦ upper_some b upper ]

weaker : (p q : ℕ → Bool) → ((b : ℕ) → p b ≡ true → q b ≡ true) → (s : List ℕ) → list_all p s ≡ true
    → list_all q s ≡ true
weaker p q implies [] all = refl
weaker p q implies (b ∷ s) all = let parts = and_parts (p b) (list_all p s) all in
    and_from (q b) (list_all q s) (implies b parts.0) (weaker p q implies s parts.1)

some_bytes : (s : List ℕ) → list_all some_byte s ≡ true → All (λ b. b ≢ 0) s
unfolding some_byte
some_bytes s all = All-from_get_or (λ b. b ≢ 0) s 0 (λ i inside e.
    both_ways (list_all some_byte s)
    (list_all_at some_byte s i 0 inside (not_from_true (get_or s i 0 == 0) (eq-eqb (get_or s i 0) 0 e))) all)

catalogue_string : (s : List ℕ) → is_catalogue_number s ≡ true → IsString s
catalogue_string s is =
    let parts = and_parts (length s == 13) (list_all is_ascii_digit s) is in
    let size : length s ≡ 13 = eqb-true (length s) 13 parts.0 in
    record {
      size = omega arith;
      nonzero = some_bytes s (weaker is_ascii_digit some_byte digit_some s parts.1);
    }

code_string : (s : List ℕ) → is_capital_code s ≡ true → IsString s
code_string s is =
    let last =
    and_parts (length s == 12 && list_all is_ascii_uppercase (take 2 s)
    && list_all (λ c. is_ascii_digit c || is_ascii_uppercase c) (take 3 (drop 2 s)))
    (list_all is_ascii_digit (drop 5 s)) is in
    let middle =
    and_parts (length s == 12 && list_all is_ascii_uppercase (take 2 s))
    (list_all (λ c. is_ascii_digit c || is_ascii_uppercase c) (take 3 (drop 2 s))) last.0 in
    let first = and_parts (length s == 12) (list_all is_ascii_uppercase (take 2 s)) middle.0 in
    let size : length s ≡ 12 = eqb-true (length s) 12 first.0 in
    let whole : take 2 s ++ (take 3 (drop 2 s) ++ drop 5 s) ≡ s =
    ap (λ (xs : List ℕ). take 2 s ++ (take 3 (drop 2 s) ++ xs)) (sym (drop-drop 3 2 s))
    ∙ ap (λ (xs : List ℕ). take 2 s ++ xs) (take-append-drop 3 (drop 2 s))
    ∙ take-append-drop 2 s in
    let front = weaker is_ascii_uppercase some_byte upper_some (take 2 s) first.1 in
    let centre =
    weaker (λ c. is_ascii_digit c || is_ascii_uppercase c) some_byte either_some (take 3 (drop 2 s))
    middle.1 in
    let back = weaker is_ascii_digit some_byte digit_some (drop 5 s) last.1 in
    let rest =
    list_all-append some_byte (take 3 (drop 2 s)) (drop 5 s)
    ∙ and_from (list_all some_byte (take 3 (drop 2 s))) (list_all some_byte (drop 5 s)) centre back in
    let all =
    list_all-append some_byte (take 2 s) (take 3 (drop 2 s) ++ drop 5 s)
    ∙ and_from (list_all some_byte (take 2 s)) (list_all some_byte (take 3 (drop 2 s) ++ drop 5 s)) front
    rest in
    record {
      size = omega arith;
      nonzero = some_bytes s (subst (λ (xs : List ℕ). list_all some_byte xs ≡ true) whole all);
    }

empty_string : IsString []
empty_string = record { size = omega arith; nonzero = λ k d less. absurd (omega arith) }

pub pushed_string : (strings : List (List ℕ)) (f : ℕ → List ℕ) (k : ℕ) (s : List ℕ)
    → strings ≡ map f (below k) → s ≡ f k
    → strings ++ s ∷ [] ≡ map f (below (k + 1))
pushed_string strings f k s is next =
    ap (λ (xs : List (List ℕ)). xs ++ s ∷ []) is
    ∙ ap (λ (x : List ℕ). map f (below k) ++ x ∷ []) next
    ∙ sym (map-range_with_len_more f 0 k k (omega arith))

catalogue_is_string : (number : Option (List ℕ)) → ForSome number (λ n. IsTrue (is_catalogue_number n))
    → IsString (unwrap_or number [])
catalogue_is_string None is = empty_string
catalogue_is_string (Some number) is = catalogue_string number (is number refl)

code_is_string : (code : Option (List ℕ)) → ForSome code (λ c. IsTrue (is_capital_code c))
    → IsString (unwrap_or code [])
code_is_string None is = empty_string
code_is_string (Some code) is = code_string code (is code refl)

pub code_at_string : (sheet : CueSheet) (place : ℕ) → IsSheet sheet → place ≤ length sheet.tracks
    → IsString (code_at sheet place)
code_at_string sheet place is inside =
    cond_both (place == 0) (unwrap_or sheet.catalogue []) (unwrap_or (track_of sheet (place - 1)).isrc [])
    IsString
    (λ _. catalogue_is_string sheet.catalogue is.catalogue)
    (λ later. let some : place ≢ 0 = eqb-false place 0 later in
    code_is_string (track_of sheet (place - 1)).isrc ((is.tracks (place - 1) (omega arith)).isrc))

pub string_at_string : (sheet : CueSheet) (k : TextKind) (place : ℕ) → IsSheet sheet
    → place ≤ length sheet.tracks → IsString (string_at k sheet place)
string_at_string sheet kind.Title place is inside = text_is_string sheet Title place is inside
string_at_string sheet kind.Performer place is inside = text_is_string sheet Performer place is inside
string_at_string sheet kind.Songwriter place is inside = text_is_string sheet Songwriter place is inside
string_at_string sheet kind.Composer place is inside = empty_string
string_at_string sheet kind.Arranger place is inside = empty_string
string_at_string sheet kind.Message place is inside = empty_string
string_at_string sheet kind.Code place is inside = code_at_string sheet place is inside

pub length-for_each : (sheet : CueSheet) (f : ℕ → List ℕ) (strings : List (List ℕ))
    → strings ≡ for_each sheet f
    → length strings ≡ length sheet.tracks + 1
length-for_each sheet f strings is = ap length is ∙ length-map-range_with_len f 0 (length sheet.tracks + 1)

-- the texts of a sheet with this last number and with `count` empty strings of each kind that it lacks
abbrev sized : CueSheet → ℕ → ℕ → Texts
sized sheet last count = record {
  first = (track_of sheet 0).number;
  last = last;
  title = for_each sheet (text_at Title sheet);
  performer = for_each sheet (text_at Performer sheet);
  songwriter = for_each sheet (text_at Songwriter sheet);
  composer = replicate count [];
  arranger = replicate count [];
  message = replicate count [];
  code = for_each sheet (code_at sheet);
}

pub sheet_texts_are : (sheet : CueSheet) (first : ℕ) (titles performers songwriters codes : List (List ℕ))
    → IsSheet sheet
    → first ≡ (track_of sheet 0).number → titles ≡ for_each sheet (text_at Title sheet)
    → performers ≡ for_each sheet (text_at Performer sheet)
    → songwriters ≡ for_each sheet (text_at Songwriter sheet) → codes ≡ for_each sheet (code_at sheet)
    → unless_empty (texts_with first titles performers songwriters codes) ≡ texts_of_sheet sheet
sheet_texts_are sheet first titles performers songwriters codes is number t p s c =
    let n = length sheet.tracks in
    let zero_ = (track_of sheet 0).number in
    let ts = for_each sheet (text_at Title sheet) in
    let ps = for_each sheet (text_at Performer sheet) in
    let ss = for_each sheet (text_at Songwriter sheet) in
    let size : length ts ≡ n + 1 = length-for_each sheet (text_at Title sheet) ts refl in
    let some : 1 ≤ n = is.count.0 in
    let end : (track_of sheet (n - 1)).number ≡ zero_ + (n - 1) = is.next (n - 1) (omega (arith, some)) in
    let last : zero_ + (length ts - 2) ≡ (track_of sheet (n - 1)).number = omega (arith, size, some, end) in
    let given : texts_with first titles performers songwriters codes
    ≡ texts_with zero_ ts ps ss (for_each sheet (code_at sheet)) =
    ap (λ (x : ℕ). texts_with x titles performers songwriters codes) number
    ∙ ap (λ (x : List (List ℕ)). texts_with zero_ x performers songwriters codes) t
    ∙ ap (λ (x : List (List ℕ)). texts_with zero_ ts x songwriters codes) p
    ∙ ap (λ (x : List (List ℕ)). texts_with zero_ ts ps x codes) s
    ∙ ap (λ (x : List (List ℕ)). texts_with zero_ ts ps ss x) c in
    let whole : texts_with zero_ ts ps ss (for_each sheet (code_at sheet)) ≡ sheet_texts sheet =
    ap (sized sheet (zero_ + (length ts - 2))) size ∙ ap (λ (k : ℕ). sized sheet k (n + 1)) last in
    ap unless_empty (given ∙ whole)
