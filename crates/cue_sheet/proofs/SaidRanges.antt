-- The values in the lines of a cue sheet are in their ranges, and consist of bytes of the text.
use Rattle.std.proofs.Common.{◌≡◌, ◌≢◌, ℕ, zero, suc, ◌+◌, ◌*◌, ◌^◌, ◌<◌, ◌≤◌, Bool, true, false, not, ◌&&◌, ◌==◌, if◌then◌else◌, List, [], ◌∷◌, length, take, drop, Option, Some, None, All, IsTrue, refl, sym, ap, subst, ◌∙◌, arith}
use Rattle.std.specs.Prelude.{nat_le, option_map, find, is_some, Result, Ok, Err}
use Rattle.std.specs.List.{list_all, position}
use Rattle.std.specs.Str.{str_to_ascii_uppercase, str_eq_ignore_ascii_case}
use Rattle.std.specs.Str.Parse.{digits_value, AllDigits}
use Rattle.std.specs.Char.{is_ascii_digit, digit_value}
use Rattle.std.proofs.lemmas.Int.Digits.{digits_value-lt}
use Rattle.std.proofs.lemmas.Bool.{and_parts, cond_both, false≢true, leb-true}
use Rattle.text_lines.specs.Text.{words_in, number_in, two_digit_number, time_of, parsed_time, is_some_bytes}
use Rattle.cue_sheet.specs.CueSheet.{IsText, is_catalogue_number, is_capital_code}
use Rattle.cue_sheet.specs.CueLines.{CueLine, SaysNothing, SaysCatalogue, SaysFile, SaysTitle, SaysPerformer, SaysSongwriter, SaysTrack, SaysFlags, SaysIsrc, SaysPregap, SaysIndex, SaysPostgap, is_plain, is_quote, begins_quoted, plain, quoted, quoted_text, text_argument, is_file, catalogue_argument, code_argument, is_flag, control_of, flags_argument, track_argument, track_of_words, index_argument, index_of_words, command_words, command_named, IsLineInRange}
use Rattle.cue_sheet.specs.Grammar.{CueState, spelled_line, obeyed, has_index_one}
use Rattle.cue_sheet.specs.Steps.{after, later_sheet_reason, unless}
use Rattle.cue_sheet.proofs.Stepping.{taken_is}
use Rattle.cue_sheet.specs.declared.fault.CueWhy.{CueWhy}
use Rattle.cue_sheet.specs.declared.fault.CueWhy.TheVariants.{SecondFile, Misplaced}
use Rattle.cue_sheet.proofs.LineBytes.{Fits, fits_take, fits_drop}

-- the value of an option that is chosen
chosen : {X : Type 0} → (b : Bool) (x y : X) → (if b then Some x else None) ≡ Some y → (b ≡ true) × (x ≡ y)
chosen true x y e = (refl, cc)
chosen false x y e = cc

guarded : {X : Type 0} → (b : Bool) (o : Option X) (y : X) → (if b then o else None) ≡ Some y → o ≡ Some y
guarded true o y e = e
guarded false o y e = cc

-- Q holds for each value of a list of pairs
abbrev EachValue : {C : Type 0} → (Option C → Type 0) → List (List ℕ × C) → Type 0
EachValue Q [] = Unit {0}
EachValue Q (e ∷ es) = Q (Some e.1) × EachValue Q es

find_each : {C : Type 0} → (Q : Option C → Type 0) (p : List ℕ × C → Bool) (es : List (List ℕ × C)) → Q None
    → EachValue Q es
    → Q (option_map (λ (e : List ℕ × C). e.1) (find p es))
find_each Q p [] none each = none
find_each Q p (e ∷ es) none each =
    cond_both (p e) (Some e) (find p es)
    (λ (o : Option (List ℕ × _)). Q (option_map (λ (e : List ℕ × _). e.1) o)) (λ _. each.0)
    (λ _. find_each Q p es none each.1)

-- Numbers

digit_is : (c : ℕ) → is_ascii_digit c ≡ true → digit_value c < 10
digit_is c is = grind arith

all_digits : (s : List ℕ) → list_all is_ascii_digit s ≡ true → AllDigits 10 s
all_digits [] all = tt
all_digits (c ∷ s) all = let parts = and_parts (is_ascii_digit c) (list_all is_ascii_digit s) all in
    (digit_is c parts.0, all_digits s parts.1)

number_is : (word : List ℕ) (n : ℕ) → two_digit_number word ≡ Some n → n ≤ 99
unfolding number_in
number_is word n e =
    let is =
    chosen (nat_le 2 (length word) && nat_le (length word) 2 && list_all is_ascii_digit word)
    (digits_value 10 word) n e in
    let parts =
    and_parts (nat_le 2 (length word) && nat_le (length word) 2) (list_all is_ascii_digit word) is.0 in
    let sizes = and_parts (nat_le 2 (length word)) (nat_le (length word) 2) parts.0 in
    let two : length word ≡ 2 =
    omega (arith, leb-true 2 (length word) sizes.0, leb-true (length word) 2 sizes.1) in
    let power : 10 ^ length word ≡ 100 = ap (λ k. 10 ^ k) two in
    let less = digits_value-lt 10 word (all_digits word parts.1) in
    let same = is.1 in
    omega arith

abbrev IsSmall : Option ℕ → Type 0
IsSmall o = (n : ℕ) → o ≡ Some n → n ≤ 99

time_is : (a b c : Option ℕ) (t : ℕ) → IsSmall a → time_of a b c ≡ Some t → t < 450000
time_is None b c t small e = cc
time_is (Some min) None c t small e = cc
time_is (Some min) (Some sec) None t small e = cc
time_is (Some min) (Some sec) (Some frame) t small e =
    let is = chosen (nat_le sec 59 && nat_le frame 74) (4500 * min + 75 * sec + frame) t e in
    let parts = and_parts (nat_le sec 59) (nat_le frame 74) is.0 in
    let least = small min refl in
    let same = is.1 in
    omega (arith, leb-true sec 59 parts.0, leb-true frame 74 parts.1, least, same)

parsed_is : (word : List ℕ) (t : ℕ) → parsed_time word ≡ Some t → t < 450000
unfolding parsed_time
parsed_is word t e =
    time_is (two_digit_number (take 2 word)) (two_digit_number (take 2 (drop 3 word)))
    (two_digit_number (drop 6 word)) t (number_is (take 2 word)) (guarded _ _ t e)

track_of_is : (o : Option ℕ) (type : List ℕ) (t : ℕ × Bool) → IsSmall o → track_of_words o type ≡ Some t
    → (1 ≤ t.0) × (t.0 ≤ 99)
track_of_is None type t small e = cc
track_of_is (Some n) type t small e =
    let is = chosen (nat_le 1 n) _ t e in
    let same : n ≡ t.0 = ap (λ (x : ℕ × Bool). x.0) is.1 in
    let le = small n refl in
    (omega (arith, leb-true 1 n is.0), omega arith)

track_is : (words : List (List ℕ)) (t : ℕ × Bool) → track_argument words ≡ Some t → (1 ≤ t.0) × (t.0 ≤ 99)
track_is [] t e = cc
track_is (n ∷ []) t e = cc
track_is (n ∷ type ∷ []) t e = track_of_is (two_digit_number n) type t (number_is n) e
track_is (n ∷ type ∷ x ∷ more) t e = cc

index_of_is : (o time : Option ℕ) (i : ℕ × ℕ) → IsSmall o → ((t : ℕ) → time ≡ Some t → t < 450000)
    → index_of_words o time ≡ Some i
    → (i.0 ≤ 99) × (i.1 < 450000)
index_of_is None time i small early e = cc
index_of_is (Some n) None i small early e = cc
index_of_is (Some n) (Some t) i small early e =
    let one : n ≡ i.0 = cc in
    let two : t ≡ i.1 = cc in
    let le = small n refl in
    let lt = early t refl in
    (omega arith, omega arith)

index_is : (words : List (List ℕ)) (i : ℕ × ℕ) → index_argument words ≡ Some i → (i.0 ≤ 99) × (i.1 < 450000)
index_is [] i e = cc
index_is (n ∷ []) i e = cc
index_is (n ∷ time ∷ []) i e =
    index_of_is (two_digit_number n) (parsed_time time) i (number_is n) (parsed_is time) e
index_is (n ∷ time ∷ x ∷ more) i e = cc

at_most : (b : Bool) (n : ℕ) → (if b then n else 0) ≤ n
at_most true n = omega arith
at_most false n = omega arith

flags_are : (words : List (List ℕ)) (n : ℕ) → flags_argument words ≡ Some n → n < 16
unfolding flags_argument
flags_are words n e =
    let is = chosen (nat_le 1 (length words) && list_all is_flag words) (control_of words) n e in
    let same = is.1 in
    grind (arith, same)

catalogue_is : (s n : List ℕ) → catalogue_argument s ≡ Some n → IsTrue (is_catalogue_number n)
unfolding catalogue_argument
catalogue_is s n e = let is = chosen (is_catalogue_number s) s n e in
    subst (λ (x : List ℕ). IsTrue (is_catalogue_number x)) is.1 is.0

code_is : (s code : List ℕ) → code_argument s ≡ Some code → IsTrue (is_capital_code code)
unfolding code_argument
code_is s code e =
    let is = chosen (is_capital_code (str_to_ascii_uppercase s)) (str_to_ascii_uppercase s) code e in
    subst (λ (x : List ℕ). IsTrue (is_capital_code x)) is.1 is.0

-- Texts

plain_all : (s : List ℕ) → list_all is_plain s ≡ true → All (λ b. (32 ≤ b) × (b ≢ 127)) s
plain_all [] all = λ k d less. absurd (omega arith)
plain_all (b ∷ s) all =
    let parts = and_parts (is_plain b) (list_all is_plain s) all in
    let first = and_parts (nat_le 32 b) (not (b == 127)) parts.0 in
    more b s (leb-true 32 b first.0, other b first.1) (plain_all s parts.1)
  where
    other : (b : ℕ) → not (b == 127) ≡ true → b ≢ 127
    other b is e = false≢true (subst (λ (n : ℕ). not (n == 127) ≡ true) e is)

    more : (b : ℕ) (s : List ℕ) → (32 ≤ b) × (b ≢ 127) → All (λ b. (32 ≤ b) × (b ≢ 127)) s
        → All (λ b. (32 ≤ b) × (b ≢ 127)) (b ∷ s)
    more b s le rest zero d less = le
    more b s le rest (suc k) d less = rest k d (omega arith)

module _ (P : ℕ → Type 0) where
  -- P holds for all bytes of the texts in a line
  abbrev pub SaysBytes : CueLine → Type 0
  SaysBytes (SaysTitle s) = All P s
  SaysBytes (SaysPerformer s) = All P s
  SaysBytes (SaysSongwriter s) = All P s
  SaysBytes _ = Unit {0}

  abbrev pub IsSaid : CueLine → Type 0
  IsSaid line = IsLineInRange line × SaysBytes line

  abbrev IsByteText : List ℕ → Type 0
  IsByteText s = IsText s × All P s

  plain_is : (s t : List ℕ) → Fits P 67108864 s → plain s ≡ Some t → IsByteText t
  unfolding plain
  plain_is s t fits e =
      let is = chosen (list_all is_plain s) s t e in
      subst IsByteText is.1 (record { short = fits.size; plain = plain_all s is.0 }, fits.bytes)

  ended_is : (inside t : List ℕ) (b : Bool) → Fits P 67108864 inside
      → (if b then plain inside else None) ≡ Some t
      → IsByteText t
  ended_is inside t b fits e = plain_is inside t fits (guarded b (plain inside) t e)

  quoted_is : (s t : List ℕ) (o : Option ℕ) → Fits P 67108864 s
      → quoted_text (option_map (λ (end : ℕ). (take end (drop 1 s), drop (end + 1) (drop 1 s))) o) ≡ Some t
      → IsByteText t
  quoted_is s t None fits e = cc
  quoted_is s t (Some end) fits e =
      ended_is (take end (drop 1 s)) t (length (drop (end + 1) (drop 1 s)) == 0)
      (fits_take P 67108864 end (drop 1 s) (fits_drop P 67108864 1 s fits)) e

  either_is : (s t : List ℕ) (b some : Bool) → Fits P 67108864 s
      → (if b then quoted_text (quoted s) else (if some then plain s else None)) ≡ Some t
      → IsByteText t
  unfolding quoted
  either_is s t true some fits e = quoted_is s t (position is_quote (drop 1 s)) fits e
  either_is s t false some fits e = ended_is s t some fits e

  text_is : (s t : List ℕ) → Fits P 67108864 s → text_argument s ≡ Some t → IsByteText t
  unfolding text_argument
  text_is s t fits e = either_is s t (begins_quoted s) (is_some_bytes s) fits e

  -- Lines

  mapped : {X : Type 0} → (f : X → CueLine) (o : Option X) (line : CueLine)
      → ((x : X) → o ≡ Some x → IsSaid (f x)) → option_map f o ≡ Some line
      → IsSaid line
  mapped f None line each e = cc
  mapped f (Some x) line each e = let same : f x ≡ line = cc in subst IsSaid same (each x refl)

  -- a line with a meaning is accepted
  pub record Takes (s next : CueState) : Type 0 where
    pub line : CueLine
    pub said : IsSaid line
    pub free : later_sheet_reason s line ≡ None
    pub is : next ≡ after s line

  free_is : (s : CueState) (line : CueLine) (next : CueState) (why : Option CueWhy)
      → later_sheet_reason s line ≡ why → unless (after s line) why ≡ Ok next
      → (later_sheet_reason s line ≡ None) × (next ≡ after s line)
  free_is s line next None is e = (is, cc)
  free_is s line next (Some why) is e = cc

  line_is : (s : CueState) (o : Option CueLine) (next : CueState)
      → ((line : CueLine) → o ≡ Some line → IsSaid line) → spelled_line s o ≡ Ok next
      → Takes s next
  line_is s None next each e = cc
  line_is s (Some line) next each e =
      let is = free_is s line next (later_sheet_reason s line) refl (sym (taken_is s line) ∙ e) in
      record { line = line; said = each line refl; free = is.0; is = is.1 }

  passed : (second placed : Bool) (answer : Result CueState CueWhy) (next : CueState)
      → (if second then Err SecondFile else (if not placed then Err Misplaced else answer)) ≡ Ok next
      → answer ≡ Ok next
  passed true placed answer next e = cc
  passed false true answer next e = e
  passed false false answer next e = cc

  entry_is : (s : CueState) (second placed : Bool) (o : Option CueLine) (next : CueState)
      → ((line : CueLine) → o ≡ Some line → IsSaid line)
      → (if second then Err SecondFile else (if not placed then Err Misplaced else spelled_line s o))
      ≡ Ok next
      → Takes s next
  entry_is s second placed o next each e =
      line_is s o next each (passed second placed (spelled_line s o) next e)

  nothing_is : (line : CueLine) → Some SaysNothing ≡ Some line → IsSaid line
  nothing_is line e = let same : SaysNothing ≡ line = cc in subst IsSaid same (tt, tt)

  pub command_is : (s : CueState) (word argument : List ℕ) (next : CueState) → Fits P 67108864 argument
      → obeyed s (command_named word) argument ≡ Ok next
      → Takes s next
  unfolding command_named
  command_is s word argument next fits =
      let words = words_in argument in
      let title : (line : CueLine) → option_map SaysTitle (text_argument argument) ≡ Some line → IsSaid line =
      λ line. mapped SaysTitle (text_argument argument) line (λ x is. text_is argument x fits is) in
      let performer : (line : CueLine) → option_map SaysPerformer (text_argument argument) ≡ Some line
      → IsSaid line =
      λ line. mapped SaysPerformer (text_argument argument) line (λ x is. text_is argument x fits is) in
      let songwriter : (line : CueLine) → option_map SaysSongwriter (text_argument argument) ≡ Some line
      → IsSaid line =
      λ line. mapped SaysSongwriter (text_argument argument) line (λ x is. text_is argument x fits is) in
      find_each (λ o. obeyed s o argument ≡ Ok next → Takes s next) (λ e. str_eq_ignore_ascii_case word e.0)
      command_words (λ e. cc) (
        entry_is s false true (Some SaysNothing) next nothing_is,
        (
          entry_is s false true (Some SaysNothing) next nothing_is,
          (
            entry_is s false (not (is_some s.number)) (option_map SaysCatalogue (catalogue_argument argument))
                next (λ line. mapped SaysCatalogue (catalogue_argument argument) line
                (λ x is. (catalogue_is argument x is, tt))),
            (
              entry_is s s.has_file true (if is_file argument then Some SaysFile else None) next
                  (λ line e. subst IsSaid (chosen (is_file argument) SaysFile line e).1 (tt, tt)),
              (
                entry_is s false true (option_map SaysTitle (text_argument argument)) next title,
                (
                  entry_is s false true (option_map SaysPerformer (text_argument argument)) next performer,
                  (
                    entry_is s false true (option_map SaysSongwriter (text_argument argument)) next
                        songwriter,
                    (
                      entry_is s false s.has_file
                          (option_map (λ (t : ℕ × Bool). SaysTrack t.0 t.1) (track_argument words)) next
                          (λ line. mapped (λ (t : ℕ × Bool). SaysTrack t.0 t.1) (track_argument words) line
                          (λ x is. (track_is words x is, tt))),
                      (
                        entry_is s false (is_some s.number) (option_map SaysFlags (flags_argument words)) next
                            (λ line.
                            mapped SaysFlags (flags_argument words) line
                            (λ x is. (flags_are words x is, tt))),
                        (
                          entry_is s false (is_some s.number) (option_map SaysIsrc (code_argument argument))
                              next (λ line. mapped SaysIsrc (code_argument argument) line
                              (λ x is. (code_is argument x is, tt))),
                          (
                            entry_is s false (is_some s.number && length s.section.indices == 0)
                                (option_map SaysPregap (parsed_time argument)) next (λ line. mapped SaysPregap
                                (parsed_time argument) line (λ x is. (parsed_is argument x is, tt))),
                            (
                              entry_is s false (is_some s.number && not (is_some s.section.postgap))
                                  (option_map (λ (i : ℕ × ℕ). SaysIndex i.0 i.1) (index_argument words)) next
                                  (λ line.
                                  mapped (λ (i : ℕ × ℕ). SaysIndex i.0 i.1) (index_argument words) line
                                  (λ x is. (index_is words x is, tt))),
                              (
                                entry_is s false (is_some s.number && has_index_one s.section)
                                    (option_map SaysPostgap (parsed_time argument)) next (λ line. mapped
                                    SaysPostgap (parsed_time argument) line
                                    (λ x is. (parsed_is argument x is, tt))),
                                tt,
                              ),
                            ),
                          ),
                        ),
                      ),
                    ),
                  ),
                ),
              ),
            ),
          ),
        ),
      )
