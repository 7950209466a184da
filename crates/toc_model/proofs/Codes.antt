-- The catalogue number and the codes of tracks: their lengths, their parts and their copies.
use Rattle.std.proofs.Common.{◌≡◌, ℕ, true, false, List, length, take, drop, Bool, Bor, Some, None, refl, ap, sym, ◌∙◌, inl, inr, get_or}
use Rattle.std.specs.Prelude.{◌&&◌, ◌||◌, ◌≢◌, All, ◌==◌, Option, MatchOption, option_copied}
use Rattle.std.specs.Array.{IsWholeChunk}
use Rattle.std.specs.List.{list_all}
use Rattle.std.specs.Char.{is_ascii_digit, is_ascii_uppercase}
use Rattle.std.proofs.lemmas.Bool.{cases_Bool, false≢true, eqb-true}
use Rattle.std.proofs.lemmas.List.Folds.{list_all_at}
use Rattle.cue_sheet.specs.CueSheet.{is_capital_code, is_catalogue_number}

both : (a b : Bool) → (a && b) ≡ true → (a ≡ true) × (b ≡ true)
both true b h = (refl, h)
both false b h = absurd (false≢true h)

all_of : (p : ℕ → Bool) (xs : List ℕ) → list_all p xs ≡ true → All (λ c. p c ≡ true) xs
all_of p xs h =
    λ k d lt. elim (cases_Bool (p (get_or xs k d))) [
      | inl yes_it_is ↦ yes_it_is
      | inr not_it ↦ absurd (false≢true (sym (list_all_at p xs k d lt not_it) ∙ h))
    ]

pub code_parts : (code : List ℕ) → is_capital_code code ≡ true
    → (length code ≡ 12) × All (λ c. is_ascii_uppercase c ≡ true) (take 2 code)
    × All (λ c. (is_ascii_digit c || is_ascii_uppercase c) ≡ true) (take 3 (drop 2 code))
    × All (λ c. is_ascii_digit c ≡ true) (drop 5 code)
code_parts code good =
    let whole = both _ _ good in
    let front = both _ _ whole.0 in
    let start = both _ _ front.0 in
    let first : (length code == 12) ≡ true = start.0 in
    let size : length code ≡ 12 = eqb-true (length code) 12 first in (
      size,
      all_of is_ascii_uppercase (take 2 code) start.1,
      all_of (λ c. is_ascii_digit c || is_ascii_uppercase c) (take 3 (drop 2 code)) front.1,
      all_of is_ascii_digit (drop 5 code) whole.1,
    )

pub number_length : (digits : List ℕ) → is_catalogue_number digits ≡ true → length digits ≡ 13
number_length digits good = let size : (length digits == 13) ≡ true = (both _ _ good).0 in
    eqb-true (length digits) 13 size

pub number_parts : (digits : List ℕ) → is_catalogue_number digits ≡ true
    → (length digits ≡ 13) × All (λ c. is_ascii_digit c ≡ true) digits
number_parts digits good = (number_length digits good, all_of is_ascii_digit digits (both _ _ good).1)

whole : (array : Option (Bor (List ℕ))) (xs : List ℕ) (n : ℕ) → length xs ≡ n
    → MatchOption array (length xs ≢ n) (λ y. IsWholeChunk xs y.now n)
    → option_copied array ≡ Some xs
whole None xs n size cases = absurd (cases size)
whole (Some y) xs n size cases = ap (λ l. Some l) cases.same

-- the copy of a slice as an array
pub copied_array : (found : Option (Bor (List ℕ))) (s : Bor (List ℕ)) (array : Option (Bor (List ℕ)))
    (copy wanted : Option (List ℕ)) (n : ℕ)
    → option_copied found ≡ wanted → found ≡ Some s → length s.now ≡ n
    → MatchOption array (length s.now ≢ n) (λ y. IsWholeChunk s.now y.now n)
    → copy ≡ option_copied array → copy ≡ wanted
copied_array found s array copy wanted n same is size cases copied =
    copied ∙ (whole array s.now n size cases ∙ (sym (ap option_copied is) ∙ same))

pub copied_none : (found : Option (Bor (List ℕ))) (copy wanted : Option (List ℕ))
    → option_copied found ≡ wanted → found ≡ None → copy ≡ None → copy ≡ wanted
copied_none found copy wanted same is none = none ∙ (sym (ap option_copied is) ∙ same)
