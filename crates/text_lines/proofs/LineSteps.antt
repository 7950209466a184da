-- The first line of a text, and the lines after it.
use Rattle.std.proofs.Common.{◌≡◌, ℕ, ◌+◌, ◌-◌, ◌<◌, Bool, List, [], ◌∷◌, length, take, drop, arith, refl, ap, ◌∙◌}
use Rattle.std.specs.Prelude.{◌==◌}
use Rattle.std.specs.List.{position_or_len, slice_split, after_first}
use Rattle.std.specs.Str.Lines.{lines, lines_of_parts, strip_carriage_return}
use Rattle.std.proofs.lemmas.List.Splits.{slice_split_first, slice_split_none, length-slice_split}
use Rattle.std.proofs.lemmas.List.Sums.{fails_before_first}
use Rattle.std.proofs.lemmas.Grind.{common_steps}
use Rattle.text_lines.specs.Text.{lines_in, after_line}

abbrev is_feed : ℕ → Bool
is_feed b = b == 10

lines_more : (x : List ℕ) (parts : List (List ℕ)) → 0 < length parts
    → lines_of_parts (x ∷ parts) ≡ strip_carriage_return x ∷ lines_of_parts parts
lines_more x (y ∷ ys) some = refl
lines_more x [] some = absurd (omega arith)

rest_of : (n : ℕ) (text : List ℕ) → take (length text - n) (drop n text) ≡ drop n text
rest_of n text = grind (arith, common_steps)

pub first_line : (text : List ℕ) (end : ℕ) (line : List ℕ) → end ≡ position_or_len is_feed text
    → end < length text → line ≡ strip_carriage_return (take end text)
    → lines_in text ≡ line ∷ lines_in (take (length text - (end + 1)) (drop (end + 1) text))
unfolding lines_in
first_line text end line at lt is =
    let p : ℕ = position_or_len is_feed text in
    let split = slice_split_first is_feed text 0 (omega arith) in
    let some : 0 < length (slice_split is_feed (after_first is_feed text)) =
    omega (arith, length-slice_split is_feed (after_first is_feed text)) in
    let first : lines text
    ≡ strip_carriage_return (take (position_or_len is_feed text) text)
    ∷ lines (drop (position_or_len is_feed text + 1) text) =
    ap lines_of_parts split ∙ lines_more _ _ some in
    rw (rest_of, is, at) first

pub last_line : (text : List ℕ) (end : ℕ) → end ≡ position_or_len is_feed text → end ≡ length text
    → 0 < length text
    → lines_in text ≡ text ∷ lines_in []
unfolding lines_in
last_line text end at all some =
    let split : slice_split is_feed text ≡ text ∷ [] =
    slice_split_none is_feed text (λ k d lt. fails_before_first is_feed text k d (omega arith)) in
    ap lines_of_parts split ∙ grind (arith, common_steps)

pub no_line : (text : List ℕ) → length text ≡ 0 → lines_in text ≡ []
unfolding lines_in
no_line [] none = refl
no_line (x ∷ xs) none = absurd (omega arith)

-- the text behind the first line: what follows its line feed, or nothing
pub rest_is : (text : List ℕ) (end : ℕ) → end ≡ position_or_len is_feed text
    → take (length text - (end + 1)) (drop (end + 1) text) ≡ after_line text
unfolding after_line
rest_is text end at = rest_of (end + 1) text ∙ ap (λ n. drop (n + 1) text) at

pub no_rest : (text : List ℕ) (end : ℕ) → end ≡ position_or_len is_feed text → end ≡ length text
    → [] ≡ after_line text
unfolding after_line
no_rest text end at all = grind (arith, common_steps)
