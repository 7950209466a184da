-- Bytes that are cut at their zero bytes.
use Rattle.std.proofs.Common.{◌≡◌, ◌≢◌, ℕ, ◌+◌, ◌-◌, ◌<◌, ◌≤◌, Bool, false, not, ◌&&◌, ◌==◌, nat_lt, if◌then◌else◌, List, [], ◌∷◌, ◌++◌, length, get_or, take, drop, flat_map, count_by, replicate, cond, unwrap_or, Option, Some, None, All, inl, inr, refl, sym, ap, ◌∙◌, subst, arith}
use Rattle.std.specs.List.{sum_by, slice_split, position_or_len, before_first, after_first}
use Rattle.std.proofs.lemmas.List.{drop_more, get_or_past, length-drop, length-take, get_or-take, length_push, nil_from_length}
use Rattle.std.proofs.lemmas.List.Elements.{All-get_or, All-from_get_or, All-push}
use Rattle.std.proofs.lemmas.List.Splits.{slice_split_first, length-slice_split}
use Rattle.std.proofs.lemmas.List.Sums.{fold_more, fails_before_first, prefix_len-le-length, sum_by-append}
use Rattle.std.proofs.lemmas.Bool.{cases_Bool, cases_lt, cond-true, cond-false, cond_both, eqb-false, ltb-false, eq-eqb, ne_eqb}
use Rattle.cdtext_packs.specs.Packs.{pack_text}
use Rattle.cdtext_packs.specs.Texts.{IsString}
use Rattle.cdtext_packs.specs.Reading.{kind_packs, kind_bytes, kind_texts, ends_in, is_zero, is_short, strings_in, meant, resolved}
use Rattle.cdtext_packs.specs.declared.kinds.TextKind.{TextKind}

abbrev pieces : List ℕ → List (List ℕ)
pieces bytes = slice_split is_zero bytes

-- `rest` is left of the bytes after n strings
pub record IsCut (bytes rest : List ℕ) (strings : List (List ℕ)) (n : ℕ) : Type 0 where
  pub done : strings ≡ resolved (strings_in n bytes)
  pub left : slice_split is_zero rest ≡ drop n (slice_split is_zero bytes)
  pub count : length strings ≡ n
  pub each : All IsString strings
  pub size : length rest ≤ 67108864

pub cut_none : (bytes : List ℕ) → length bytes ≤ 67108864 → IsCut bytes bytes [] 0
unfolding resolved
cut_none bytes size =
    record { done = refl; left = refl; count = refl; each = λ k d less. absurd (omega arith); size = size }

-- the first place that passes, or the length of the list
pub place_from : (p : ℕ → Bool) (xs : List ℕ) (r : Option ℕ) (result : ℕ)
    → r ≡ cond (nat_lt (position_or_len p xs) (length xs)) (Some (position_or_len p xs)) None
    → result ≡ unwrap_or r (length xs)
    → result ≡ position_or_len p xs
place_from p xs r result is gives =
    gives
    ∙ ap (λ (o : Option ℕ). unwrap_or o (length xs)) is
    ∙ or_len (position_or_len p xs) (length xs) (prefix_len-le-length (λ x. not (p x)) xs)
  where
    or_len : (n size : ℕ) → n ≤ size → unwrap_or (cond (nat_lt n size) (Some n) None) size ≡ n
    or_len n size le = grind arith

position_below : (p : ℕ → Bool) (xs : List ℕ) → 1 ≤ count_by p xs → position_or_len p xs < length xs
position_below p [] some = absurd (omega arith)
position_below p (x ∷ xs) some = elim (cases_Bool (p x)) [
  | inl passes ↦
      let here : position_or_len p (x ∷ xs) ≡ 0 =
      ap (λ (b : Bool). if not b then 1 + position_or_len p xs else 0) passes in
      omega arith
  | inr fails ↦
      let here : position_or_len p (x ∷ xs) ≡ 1 + position_or_len p xs =
      ap (λ (b : Bool). if not b then 1 + position_or_len p xs else 0) fails in
      let f : ℕ → ℕ = λ y. if p y then 1 else 0 in
      let parts : count_by p (x ∷ xs) ≡ sum_by f (x ∷ []) + count_by p xs = sum_by-append f (x ∷ []) xs in
      let one : sum_by f (x ∷ []) ≡ 0 = ap (λ (b : Bool). 0 + (if b then 1 else 0)) fails in
      let below = position_below p xs (omega arith) in
      omega arith
]

pub cut_here : (bytes rest : List ℕ) (strings : List (List ℕ)) (n : ℕ) → IsCut bytes rest strings n
    → n < ends_in bytes
    → position_or_len is_zero rest < length rest
cut_here bytes rest strings n cut some =
    let one = ap length cut.left ∙ length-drop n (pieces bytes) in
    let all = length-slice_split is_zero bytes in
    let here = length-slice_split is_zero rest in
    position_below is_zero rest (omega arith)

empty_string : IsString []
empty_string = record { size = omega arith; nonzero = λ k d less. absurd (omega arith) }

pub meant-IsString : (before : List (List ℕ)) (s : List ℕ) → All IsString before → IsString s
    → IsString (meant before s)
meant-IsString before s each this =
    cond_both (length s == 1 && get_or s 0 0 == 9 && not (length before == 0))
    (get_or before (length before - 1) []) s IsString
    (λ _. elim (cases_lt (length before - 1) (length before)) [
      | inl inside ↦ All-get_or IsString before (length before - 1) [] inside each
      | inr past ↦ subst IsString (sym (get_or_past before (length before - 1) [] past)) empty_string
    ])
    (λ _. this)

first_string : (rest : List ℕ) → length rest ≤ 67108864 → IsString (before_first is_zero rest)
first_string rest size =
    let at = position_or_len is_zero rest in
    let len = length-take at rest in
    record {
      size = omega arith;
      nonzero = All-from_get_or (λ byte. byte ≢ 0) (take at rest) 0 (λ i inside.
          let below : i < at = omega arith in
          λ e. eqb-false (get_or rest i 0) 0 (fails_before_first is_zero rest i 0 below)
          (sym (get_or-take at rest i 0 below) ∙ e));
    }

pub cut_more : (bytes rest after : List ℕ) (strings more : List (List ℕ)) (string : List ℕ) (n : ℕ)
    → IsCut bytes rest strings n → n < ends_in bytes
    → string ≡ meant strings (before_first is_zero rest) → more ≡ strings ++ string ∷ []
    → after ≡ after_first is_zero rest
    → IsCut bytes after more (n + 1)
unfolding resolved
cut_more bytes rest after strings more string n cut some is grown next =
    let here = cut_here bytes rest strings n cut some in
    let all = length-slice_split is_zero bytes in
    let inside : n < length (pieces bytes) = omega arith in
    let same : before_first is_zero rest ∷ pieces (after_first is_zero rest)
    ≡ get_or (pieces bytes) n [] ∷ drop (n + 1) (pieces bytes)
    = sym (slice_split_first is_zero rest 0 here) ∙ cut.left ∙ drop_more (pieces bytes) n [] inside in
    let head : before_first is_zero rest ≡ get_or (pieces bytes) n [] =
    ap (λ (xs : List (List ℕ)). get_or xs 0 []) same in
    let tail : pieces (after_first is_zero rest) ≡ drop (n + 1) (pieces bytes) =
    ap (λ (xs : List (List ℕ)). drop 1 xs) same in
    let step : List (List ℕ) → List ℕ → List (List ℕ) = λ before s. before ++ meant before s ∷ [] in
    let size = cut.size in
    let counted = cut.count in
    let len = ap length grown in
    let left = length-drop (position_or_len is_zero rest + 1) rest in
    let whole = ap length next in
    record {
      done = grown ∙ ap (λ (s : List ℕ). strings ++ s ∷ []) (is ∙ ap (meant strings) head)
          ∙ ap (λ (xs : List (List ℕ)). step xs (get_or (pieces bytes) n [])) cut.done
          ∙ sym (fold_more step [] (pieces bytes) n [] inside);
      left = ap pieces next ∙ tail;
      count = len ∙ pushed strings string n counted;
      each =
          subst (All IsString) (sym grown) (All-push IsString strings string cut.each (subst IsString (sym is)
          (meant-IsString strings (before_first is_zero rest) cut.each (first_string rest size))));
      size = omega arith;
    }
  where
    pushed : (xs : List (List ℕ)) (x : List ℕ) (n : ℕ) → length xs ≡ n → length (xs ++ x ∷ []) ≡ n + 1
    pushed xs x n e = length_push xs x ∙ ap (λ (k : ℕ). k + 1) e

-- if no kind is short, a kind with bytes has as many strings as it needs
pub enough_ends : (kept : List (Option (List ℕ))) (count : ℕ) (kind : TextKind)
    → is_short kept count kind ≡ false → (length (kind_bytes kept kind) ≡ 0 → ⊥)
    → count ≤ ends_in (kind_bytes kept kind)
unfolding is_short
enough_ends kept count kind long some =
    let packs = kind_packs kept kind in
    let any : length packs == 0 ≡ false =
    ne_eqb (length packs) 0 (λ none.
    some (ap (λ (xs : List (List ℕ)). length (flat_map pack_text xs)) (nil_from_length packs none))) in
    let test : (not false && nat_lt (ends_in (kind_bytes kept kind)) count) ≡ false =
    sym (ap (λ (b : Bool). not b && nat_lt (ends_in (kind_bytes kept kind)) count) any) ∙ long in
    ltb-false (ends_in (kind_bytes kept kind)) count test

pub texts_none : (kept : List (Option (List ℕ))) (count : ℕ) (kind : TextKind)
    → length (kind_bytes kept kind) ≡ 0
    → kind_texts kept count kind ≡ replicate count []
unfolding kind_texts
texts_none kept count kind none =
    cond-true (length (kind_bytes kept kind) == 0) (replicate count [])
    (resolved (strings_in count (kind_bytes kept kind))) (eq-eqb (length (kind_bytes kept kind)) 0 none)

pub texts_some : (kept : List (Option (List ℕ))) (count : ℕ) (kind : TextKind)
    → (length (kind_bytes kept kind) ≡ 0 → ⊥)
    → kind_texts kept count kind ≡ resolved (strings_in count (kind_bytes kept kind))
unfolding kind_texts
texts_some kept count kind some =
    cond-false (length (kind_bytes kept kind) == 0) (replicate count [])
    (resolved (strings_in count (kind_bytes kept kind))) (ne_eqb (length (kind_bytes kept kind)) 0 some)
