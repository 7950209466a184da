-- The texts of a sheet have tracks, and none of its strings is a single tab.
use Rattle.std.proofs.Common.{◌≡◌, ◌≢◌, ℕ, ◌+◌, ◌-◌, ◌<◌, ◌≤◌, ◌&&◌, ◌==◌, List, [], ◌∷◌, length, take, drop, replicate, unwrap_or, Option, Some, None, All, IsTrue, inl, inr, refl, ap, subst, arith}
use Rattle.std.specs.List.{list_all}
use Rattle.std.specs.Char.{is_ascii_digit, is_ascii_uppercase}
use Rattle.std.specs.Prelude.{◌||◌}
use Rattle.std.specs.Option.{ForSome}
use Rattle.std.proofs.lemmas.Bool.{and_parts, cond_both, eqb-true, eqb-false}
use Rattle.std.proofs.lemmas.List.{length-replicate}
use Rattle.std.proofs.lemmas.List.Elements.{All-map, All-from_get_or, All-replicate}
use Rattle.std.proofs.lemmas.List.FromFn.{get_or-range_with_len, length-range_with_len, length-map-range_with_len}
use Rattle.bit_lists.specs.Counting.{below}
use Rattle.cue_sheet.specs.CueSheet.{CueSheet, IsSheet, IsText, is_catalogue_number, is_capital_code, text_at, track_text, album_text, track_of}
use Rattle.cue_sheet.specs.declared.fault.CueText.{CueText}
use Rattle.cue_sheet.specs.declared.fault.CueText.TheVariants.{Title, Performer, Songwriter}
use Rattle.cdtext_packs.specs.Texts.{Texts, IsString, AreTexts, HasTracks, strings_of}
use Rattle.cdtext_packs.specs.declared.kinds.TextKind.TheVariants as kind
use Rattle.stream_writer.specs.SheetTexts.{code_at, for_each, sheet_texts}
use Rattle.stream_writer.proofs.SheetStrings.{text_is_string, code_at_string}
use Rattle.cdtext_packs.proofs.WholeTexts.{has_tracks}
use Rattle.cdtext_packs.specs.Copies.{HasNoTab}

pub for_all : (P : List ℕ → Type 0) (sheet : CueSheet) (f : ℕ → List ℕ)
    → ((place : ℕ) → place ≤ length sheet.tracks → P (f place))
    → All P (for_each sheet f)
for_all P sheet f each =
    All-map P f (below (length sheet.tracks + 1))
    (All-from_get_or (λ place. P (f place)) (below (length sheet.tracks + 1)) 0 (λ i inside.
    let count = length-range_with_len 0 (length sheet.tracks + 1) in
    let same = get_or-range_with_len 0 (length sheet.tracks + 1) i 0 (omega arith) in
    each _ (omega arith)))

empty_string : IsString []
empty_string = record { size = omega arith; nonzero = λ k d less. absurd (omega arith) }

pub sheet_has_tracks : (sheet : CueSheet) → IsSheet sheet → HasTracks (sheet_texts sheet)
sheet_has_tracks sheet is =
    let n = length sheet.tracks in
    let first = is.tracks 0 (omega (arith, is.count.0)) in
    let last = is.next (n - 1) (omega (arith, is.count.0)) in
    let end = is.tracks (n - 1) (omega (arith, is.count.0)) in
    let count : (f : ℕ → List ℕ) → length (for_each sheet f) ≡ n + 1 =
    λ f. length-map-range_with_len f 0 (n + 1) in
    let none : length (replicate {A = List ℕ} (n + 1) []) ≡ n + 1 = length-replicate (n + 1) [] in
    let texts : (kind : CueText) → All IsString (for_each sheet (text_at kind sheet)) =
    λ kind.
    for_all IsString sheet (text_at kind sheet) (λ place inside. text_is_string sheet kind place is inside) in
    let codes : All IsString (for_each sheet (code_at sheet)) =
    for_all IsString sheet (code_at sheet) (λ place inside. code_at_string sheet place is inside) in
    let nothing : All IsString (replicate (n + 1) []) = All-replicate IsString (n + 1) [] empty_string in
    let made : AreTexts (sheet_texts sheet) =
    has_tracks (sheet_texts sheet) n is.count.0 first.number.0 last (end.number.1)
    (count (text_at Title sheet)) (count (text_at Performer sheet)) (count (text_at Songwriter sheet)) none
    none none (count (code_at sheet))
    (texts Title) (texts Performer) (texts Songwriter) nothing nothing nothing codes in
    elim made [
      | inl no_track ↦
          absurd (let zero_ : (track_of sheet 0).number ≡ 0 = ap (λ (t : Texts). t.first) no_track in
          omega (arith, first.number.0))
      | inr tracks ↦ tracks
    ]

-- No string is a single tab

album : (sheet : CueSheet) (kind : CueText) → IsSheet sheet → IsText (album_text kind sheet)
album sheet Title is = is.title
album sheet Performer is = is.performer
album sheet Songwriter is = is.songwriter

track : (sheet : CueSheet) (kind : CueText) (k : ℕ) → IsSheet sheet → k < length sheet.tracks
    → IsText (track_text kind (track_of sheet k))
track sheet Title k is inside = (is.tracks k inside).title
track sheet Performer k is inside = (is.tracks k inside).performer
track sheet Songwriter k is inside = (is.tracks k inside).songwriter

plain_text : (s : List ℕ) → IsText s → s ≢ 9 ∷ []
plain_text s is = λ e.
    let plain : All (λ b. (32 ≤ b) × (b ≢ 127)) (9 ∷ []) =
    subst (All (λ b. (32 ≤ b) × (b ≢ 127))) e is.plain in
    let byte : 32 ≤ 9 = (plain 0 0 (omega arith)).0 in
    absurd (omega arith)

text_no_tab : (sheet : CueSheet) (kind : CueText) (place : ℕ) → IsSheet sheet → place ≤ length sheet.tracks
    → text_at kind sheet place ≢ 9 ∷ []
text_no_tab sheet kind place is inside =
    cond_both (place == 0) (album_text kind sheet) (track_text kind (track_of sheet (place - 1)))
    (λ (s : List ℕ). s ≢ 9 ∷ [])
    (λ _. plain_text (album_text kind sheet) (album sheet kind is))
    (λ later. let some : place ≢ 0 = eqb-false place 0 later in
    plain_text (track_text kind (track_of sheet (place - 1))) (track sheet kind (place - 1) is (omega arith)))

catalogue_no_tab : (number : Option (List ℕ)) → ForSome number (λ n. IsTrue (is_catalogue_number n))
    → unwrap_or number [] ≢ 9 ∷ []
catalogue_no_tab None is = λ e. absurd (omega (arith, ap length e))
catalogue_no_tab (Some s) is =
    let size : length s ≡ 13 =
    eqb-true (length s) 13 (and_parts (length s == 13) (list_all is_ascii_digit s) (is s refl)).0 in
    λ e. absurd (omega (arith, ap length e))

code_no_tab : (code : Option (List ℕ)) → ForSome code (λ c. IsTrue (is_capital_code c))
    → unwrap_or code [] ≢ 9 ∷ []
code_no_tab None is = λ e. absurd (omega (arith, ap length e))
code_no_tab (Some s) is =
    let last =
    and_parts (length s == 12 && list_all is_ascii_uppercase (take 2 s)
    && list_all (λ c. is_ascii_digit c || is_ascii_uppercase c) (take 3 (drop 2 s)))
    (list_all is_ascii_digit (drop 5 s)) (is s refl) in
    let middle =
    and_parts (length s == 12 && list_all is_ascii_uppercase (take 2 s))
    (list_all (λ c. is_ascii_digit c || is_ascii_uppercase c) (take 3 (drop 2 s))) last.0 in
    let first = and_parts (length s == 12) (list_all is_ascii_uppercase (take 2 s)) middle.0 in
    let size : length s ≡ 12 = eqb-true (length s) 12 first.0 in
    λ e. absurd (omega (arith, ap length e))

code_at_no_tab : (sheet : CueSheet) (place : ℕ) → IsSheet sheet → place ≤ length sheet.tracks
    → code_at sheet place ≢ 9 ∷ []
code_at_no_tab sheet place is inside =
    cond_both (place == 0) (unwrap_or sheet.catalogue []) (unwrap_or (track_of sheet (place - 1)).isrc [])
    (λ (s : List ℕ). s ≢ 9 ∷ [])
    (λ _. catalogue_no_tab sheet.catalogue is.catalogue)
    (λ later. let some : place ≢ 0 = eqb-false place 0 later in
    code_no_tab (track_of sheet (place - 1)).isrc ((is.tracks (place - 1) (omega arith)).isrc))

pub sheet_has_no_tab : (sheet : CueSheet) → IsSheet sheet → HasNoTab (sheet_texts sheet)
sheet_has_no_tab sheet is =
    let texts : (kind : CueText) → All (λ (s : List ℕ). s ≢ 9 ∷ []) (for_each sheet (text_at kind sheet)) =
    λ kind. for_all (λ (s : List ℕ). s ≢ 9 ∷ []) sheet (text_at kind sheet)
    (λ place inside. text_no_tab sheet kind place is inside) in
    let codes : All (λ (s : List ℕ). s ≢ 9 ∷ []) (for_each sheet (code_at sheet)) =
    for_all (λ (s : List ℕ). s ≢ 9 ∷ []) sheet (code_at sheet)
    (λ place inside. code_at_no_tab sheet place is inside) in
    let nothing : All (λ (s : List ℕ). s ≢ 9 ∷ []) (replicate (length sheet.tracks + 1) []) =
    All-replicate (λ (s : List ℕ). s ≢ 9 ∷ []) (length sheet.tracks + 1) []
    (λ e. absurd (omega (arith, ap length e))) in
    λ k. elim k as (λ k. All (λ (s : List ℕ). s ≢ 9 ∷ []) (strings_of k (sheet_texts sheet))) [
      | kind.Title ↦ texts Title
      | kind.Performer ↦ texts Performer
      | kind.Songwriter ↦ texts Songwriter
      | kind.Composer ↦ nothing
      | kind.Arranger ↦ nothing
      | kind.Message ↦ nothing
      | kind.Code ↦ codes
    ]
