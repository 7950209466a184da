-- Lines with a wrong number of words.
use Rattle.std.proofs.Common.{◌≡◌, ◌≢◌, ℕ, List, [], ◌∷◌, length, refl, ap}
use Rattle.std.specs.Prelude.{Some, None, Bool, true, false, ◌&&◌, if◌then◌else◌, map}
use Rattle.std.specs.List.{list_all}
use Rattle.std.specs.Char.{is_ascii_hexdigit, digit_value}
use Rattle.text_lines.specs.Text.{parsed_time, is_some_bytes}
use Rattle.picture_script.specs.ScriptGrammar.{small_number, colour_in, pixels_in, colour_line, row_line, show_line, colour_of, row_of, show_of}
use Rattle.picture_script.proofs.Drafts.{and_true}

pub colour_none : (words : List (List ℕ)) → length words ≢ 2 → colour_line words ≡ None
unfolding colour_line
colour_none [] h = refl
colour_none (a ∷ []) h = refl
colour_none (a ∷ b ∷ []) h = absurd (h refl)
colour_none (a ∷ b ∷ c ∷ words) h = refl

pub show_none : (words : List (List ℕ)) → length words ≢ 2 → show_line words ≡ None
unfolding show_line
show_none [] h = refl
show_none (a ∷ []) h = refl
show_none (a ∷ b ∷ []) h = absurd (h refl)
show_none (a ∷ b ∷ c ∷ words) h = refl

pub row_none : (words : List (List ℕ)) → length words ≢ 3 → row_line words ≡ None
unfolding row_line
row_none [] h = refl
row_none (a ∷ []) h = refl
row_none (a ∷ b ∷ []) h = refl
row_none (a ∷ b ∷ c ∷ []) h = absurd (h refl)
row_none (a ∷ b ∷ c ∷ d ∷ words) h = refl

pub colour_two : (words : List (List ℕ)) (a b : List ℕ) → words ≡ a ∷ b ∷ []
    → colour_line words ≡ colour_of (small_number a) (colour_in b)
unfolding colour_line
colour_two words a b h = ap colour_line h

pub show_two : (words : List (List ℕ)) (a b : List ℕ) → words ≡ a ∷ b ∷ []
    → show_line words ≡ show_of (parsed_time a) (parsed_time b)
unfolding show_line
show_two words a b h = ap show_line h

pub row_three : (words : List (List ℕ)) (a b c : List ℕ) → words ≡ a ∷ b ∷ c ∷ []
    → row_line words ≡ row_of (small_number a) (small_number b) (pixels_in c)
unfolding row_line
row_three words a b c h = ap row_line h

pub pixels_some : (word : List ℕ) → (is_some_bytes word && list_all is_ascii_hexdigit word) ≡ true
    → pixels_in word ≡ Some (map digit_value word)
unfolding pixels_in
pixels_some word h = ap (λ (b : Bool). if b then Some (map digit_value word) else None) h

pub pixels_none : (word : List ℕ) → (is_some_bytes word && list_all is_ascii_hexdigit word) ≡ false
    → pixels_in word ≡ None
unfolding pixels_in
pixels_none word h = ap (λ (b : Bool). if b then Some (map digit_value word) else None) h

pub all_digits : (word : List ℕ) → (is_some_bytes word && list_all is_ascii_hexdigit word) ≡ true
    → list_all is_ascii_hexdigit word ≡ true
all_digits word h = (and_true (is_some_bytes word) (list_all is_ascii_hexdigit word) h).1
