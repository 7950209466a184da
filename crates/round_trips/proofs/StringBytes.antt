-- If the texts of a sheet are bytes, so are its strings.
use Rattle.std.proofs.Common.{◌≡◌, ◌≢◌, ℕ, ◌+◌, ◌-◌, ◌<◌, ◌≤◌, Bool, true, ◌&&◌, ◌==◌, List, [], ◌∷◌, ◌++◌, length, take, drop, replicate, unwrap_or, Option, Some, None, All, IsTrue, inl, inr, refl, sym, ap, subst, ◌∙◌, arith}
use Rattle.std.specs.List.{list_all}
use Rattle.std.specs.Char.{is_ascii_digit, is_ascii_uppercase}
use Rattle.std.specs.Prelude.{◌||◌}
use Rattle.std.specs.Option.{ForSome}
use Rattle.std.proofs.lemmas.Bool.{and_parts, or_cases, cond_both, eqb-false}
use Rattle.std.proofs.lemmas.List.{take-append-drop, drop-drop}
use Rattle.std.proofs.lemmas.List.Elements.{All-append, All-replicate}
use Rattle.cue_sheet.specs.CueSheet.{CueSheet, IsSheet, is_catalogue_number, is_capital_code, text_at, track_of}
use Rattle.cue_sheet.specs.declared.fault.CueText.{CueText}
use Rattle.cue_sheet.specs.declared.fault.CueText.TheVariants.{Title, Performer, Songwriter}
use Rattle.cdtext_packs.specs.Texts.{strings_of}
use Rattle.cdtext_packs.specs.declared.kinds.TextKind.{TextKind}
use Rattle.cdtext_packs.specs.declared.kinds.TextKind.TheVariants as kind
use Rattle.stream_writer.specs.SheetTexts.{code_at, for_each, sheet_texts}
use Rattle.cue_sheet.specs.SheetBytes.{HasByteTexts}
use Rattle.round_trips.proofs.PackBytes.{AreBytes, no_bytes, one_byte}
use Rattle.round_trips.proofs.SheetTracks.{for_all}

-- if a test passes only bytes, a string that passes it consists of bytes
passing : (p : ℕ → Bool) → ((b : ℕ) → p b ≡ true → b < 256) → (s : List ℕ) → list_all p s ≡ true → AreBytes s
passing p small [] all = no_bytes
passing p small (b ∷ s) all = let parts = and_parts (p b) (list_all p s) all in
    one_byte b s (small b parts.0) (passing p small s parts.1)

digit_small : (b : ℕ) → is_ascii_digit b ≡ true → b < 256
digit_small b is = grind arith

upper_small : (b : ℕ) → is_ascii_uppercase b ≡ true → b < 256
upper_small b is = grind arith

either_small : (b : ℕ) → (is_ascii_digit b || is_ascii_uppercase b) ≡ true → b < 256
either_small b is = elim (or_cases (is_ascii_digit b) (is_ascii_uppercase b) is)
    [ inl digit ↦ digit_small b digit | inr upper ↦ upper_small b upper ]

catalogue_bytes : (number : Option (List ℕ)) → ForSome number (λ n. IsTrue (is_catalogue_number n))
    → AreBytes (unwrap_or number [])
catalogue_bytes None is = no_bytes
catalogue_bytes (Some s) is =
    passing is_ascii_digit digit_small s
    (and_parts (length s == 13) (list_all is_ascii_digit s) (is s refl)).1

code_bytes : (code : Option (List ℕ)) → ForSome code (λ c. IsTrue (is_capital_code c))
    → AreBytes (unwrap_or code [])
code_bytes None is = no_bytes
code_bytes (Some s) is =
    let last =
    and_parts (length s == 12 && list_all is_ascii_uppercase (take 2 s)
    && list_all (λ c. is_ascii_digit c || is_ascii_uppercase c) (take 3 (drop 2 s)))
    (list_all is_ascii_digit (drop 5 s)) (is s refl) in
    let middle =
    and_parts (length s == 12 && list_all is_ascii_uppercase (take 2 s))
    (list_all (λ c. is_ascii_digit c || is_ascii_uppercase c) (take 3 (drop 2 s))) last.0 in
    let first = and_parts (length s == 12) (list_all is_ascii_uppercase (take 2 s)) middle.0 in
    let whole : take 2 s ++ (take 3 (drop 2 s) ++ drop 5 s) ≡ s =
    ap (λ (xs : List ℕ). take 2 s ++ (take 3 (drop 2 s) ++ xs)) (sym (drop-drop 3 2 s))
    ∙ ap (λ (xs : List ℕ). take 2 s ++ xs) (take-append-drop 3 (drop 2 s))
    ∙ take-append-drop 2 s in
    subst AreBytes whole
    (All-append (λ b. b < 256) (take 2 s) (take 3 (drop 2 s) ++ drop 5 s)
    (passing is_ascii_uppercase upper_small (take 2 s) first.1)
    (All-append (λ b. b < 256) (take 3 (drop 2 s)) (drop 5 s)
    (passing (λ c. is_ascii_digit c || is_ascii_uppercase c) either_small (take 3 (drop 2 s)) middle.1)
    (passing is_ascii_digit digit_small (drop 5 s) last.1)))

code_at_bytes : (sheet : CueSheet) (place : ℕ) → IsSheet sheet → place ≤ length sheet.tracks
    → AreBytes (code_at sheet place)
code_at_bytes sheet place is inside =
    cond_both (place == 0) (unwrap_or sheet.catalogue []) (unwrap_or (track_of sheet (place - 1)).isrc [])
    AreBytes
    (λ _. catalogue_bytes sheet.catalogue is.catalogue)
    (λ later. let some : place ≢ 0 = eqb-false place 0 later in
    code_bytes (track_of sheet (place - 1)).isrc ((is.tracks (place - 1) (omega arith)).isrc))

pub strings_are_bytes : (sheet : CueSheet) → IsSheet sheet → HasByteTexts sheet → (k : TextKind)
    → All AreBytes (strings_of k (sheet_texts sheet))
strings_are_bytes sheet is has =
    let texts : (kind : CueText) → All AreBytes (for_each sheet (text_at kind sheet)) =
    λ kind. for_all AreBytes sheet (text_at kind sheet) (has kind) in
    let codes : All AreBytes (for_each sheet (code_at sheet)) =
    for_all AreBytes sheet (code_at sheet) (λ place inside. code_at_bytes sheet place is inside) in
    let nothing : All AreBytes (replicate (length sheet.tracks + 1) []) =
    All-replicate AreBytes (length sheet.tracks + 1) [] no_bytes in
    λ k. elim k as (λ k. All AreBytes (strings_of k (sheet_texts sheet))) [
      | kind.Title ↦ texts Title
      | kind.Performer ↦ texts Performer
      | kind.Songwriter ↦ texts Songwriter
      | kind.Composer ↦ nothing
      | kind.Arranger ↦ nothing
      | kind.Message ↦ nothing
      | kind.Code ↦ codes
    ]
