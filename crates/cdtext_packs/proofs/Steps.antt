-- The steps of reading, if each answer is known.
use Rattle.std.proofs.Common.{◌≡◌, ℕ, zero, suc, ◌+◌, ◌-◌, ◌<◌, ◌≤◌, Bool, true, false, ◌||◌, nat_lt, if◌then◌else◌, List, [], ◌∷◌, length, get_or, slice_index, take, drop, find, Option, Some, None, Result, Ok, Err, IfErr, inl, inr, ◌⊎◌, is_none, unwrap_or, refl, sym, ap, ◌∙◌, arith}
use Rattle.std.specs.Option.{option_map}
use Rattle.std.proofs.lemmas.List.{get_or-take, get_or-drop}
use Rattle.std.proofs.lemmas.Bool.{cases_Bool, cond-true, cond-false, lt-ltb, le-ltb, or_left, or_right, or_from, true≢false}
use Rattle.std.proofs.lemmas.Option.{none-some}
use Rattle.cdtext_packs.specs.Packs.{pack_text, pack_number}
use Rattle.cdtext_packs.specs.Texts.{Texts, no_texts, kinds}
use Rattle.cdtext_packs.specs.Reading.{kind_packs, is_short, last_number, all_texts, read_kinds, first_missing, first_short, read_numbers, read_sized, read_sizes, size_pack, keeps_nothing, read_texts}
use Rattle.cdtext_packs.specs.declared.kinds.TextKind.{TextKind}
use Rattle.cdtext_packs.specs.declared.kinds.TextKind.TheVariants.{Title, Performer, Songwriter, Composer, Arranger, Message, Code}
use Rattle.cdtext_packs.specs.declared.kinds.TextFault.{TextFault}
use Rattle.cdtext_packs.specs.declared.kinds.TextFault.TheVariants.{Missing, Malformed}

find_none_at : (p : TextKind → Bool) (xs : List TextKind) (k : ℕ) (d : TextKind) → find p xs ≡ None
    → k < length xs
    → p (get_or xs k d) ≡ false
find_none_at p [] k d none inside = absurd (omega arith)
find_none_at p (x ∷ xs) zero d none inside = elim (cases_Bool (p x)) [
  | inl here ↦ absurd (none-some x (sym none ∙ cond-true (p x) (Some x) (find p xs) here))
  | inr here ↦ here
]
find_none_at p (x ∷ xs) (suc k) d none inside = elim (cases_Bool (p x)) [
  | inl here ↦ absurd (none-some x (sym none ∙ cond-true (p x) (Some x) (find p xs) here))
  | inr here ↦ find_none_at p xs k d (sym (cond-false (p x) (Some x) (find p xs) here) ∙ none) (omega arith)
]

-- if no kind is short, this kind is not
pub none_short : (kept : List (Option (List ℕ))) (count : ℕ) (kind : TextKind) → first_short kept count ≡ None
    → is_short kept count kind ≡ false
none_short kept count kind none = elim kind as (λ kind. is_short kept count kind ≡ false) [
  | Title ↦ at 0 (omega arith)
  | Performer ↦ at 1 (omega arith)
  | Songwriter ↦ at 2 (omega arith)
  | Composer ↦ at 3 (omega arith)
  | Arranger ↦ at 4 (omega arith)
  | Message ↦ at 5 (omega arith)
  | Code ↦ at 6 (omega arith)
]
  where
    at : (k : ℕ) → k < 7 → is_short kept count (get_or kinds k Title) ≡ false
    at k below = find_none_at (is_short kept count) kinds k Title none below

text_at : (pack : List ℕ) (i : ℕ) → i < 12 → slice_index (pack_text pack) i ≡ slice_index pack (4 + i)
text_at pack i below = get_or-take 12 (drop 4 pack) i 0 below ∙ get_or-drop 4 pack i 0

-- a byte of the text of a pack is a byte of the pack
pub size_at : (pack text : List ℕ) (i : ℕ) → text ≡ pack_text pack → i < 12
    → get_or text i 0 ≡ get_or pack (4 + i) 0
size_at pack text i is below = ap (λ (bytes : List ℕ). get_or bytes i 0) is ∙ text_at pack i below

after_sizes : (kept : List (Option (List ℕ))) (size0 : List ℕ) (first last count : ℕ) → Result Texts TextFault
after_sizes kept size0 first last count =
    if nat_lt first 1 || nat_lt 99 first then Err (Malformed (pack_number size0) 5)
    else (if nat_lt last first || nat_lt 99 last then Err (Malformed (pack_number size0) 6)
    else read_numbers kept count first last (first_missing kept count))

sized : (kept : List (Option (List ℕ))) (size0 size1 : List ℕ)
    → read_sized kept size0 size1
    ≡ after_sizes kept size0 (get_or size0 5 0) (get_or size0 6 0) (get_or size1 12 0 + 1)
unfolding after_sizes
sized kept size0 size1 =
    ap (λ (first : ℕ).
    after_sizes kept size0 first (slice_index (pack_text size0) 2) (slice_index (pack_text size1) 8 + 1))
    (text_at size0 1 (omega arith))
    ∙ ap (λ (last : ℕ). after_sizes kept size0 (get_or size0 5 0) last (slice_index (pack_text size1) 8 + 1))
    (text_at size0 2 (omega arith))
    ∙ ap (λ (n : ℕ). after_sizes kept size0 (get_or size0 5 0) (get_or size0 6 0) (n + 1))
    (text_at size1 8 (omega arith))

outside : (low high n : ℕ) → (n < low) ⊎ (high < n) → (nat_lt n low || nat_lt high n) ≡ true
outside low high n (inl less) = or_left (nat_lt n low) (nat_lt high n) (lt-ltb n low less)
outside low high n (inr more) = or_right (nat_lt n low) (nat_lt high n) (lt-ltb high n more)

within : (low high n : ℕ) → low ≤ n → n ≤ high → (nat_lt n low || nat_lt high n) ≡ false
within low high n least most =
    or_from (nat_lt n low) (nat_lt high n) (le-ltb n low least) (le-ltb high n most)

pub sizes_pass : (kept : List (Option (List ℕ))) (size0 size1 : List ℕ) → 1 ≤ get_or size0 5 0
    → get_or size0 5 0 ≤ get_or size0 6 0 → get_or size0 6 0 ≤ 99
    → read_sized kept size0 size1
    ≡ read_numbers kept (get_or size1 12 0 + 1) (get_or size0 5 0) (get_or size0 6 0)
    (first_missing kept (get_or size1 12 0 + 1))
unfolding after_sizes
sizes_pass kept size0 size1 least order most =
    sized kept size0 size1
    ∙ cond-false (nat_lt (get_or size0 5 0) 1 || nat_lt 99 (get_or size0 5 0)) _ _
    (within 1 99 (get_or size0 5 0) least (omega arith))
    ∙ cond-false (nat_lt (get_or size0 6 0) (get_or size0 5 0) || nat_lt 99 (get_or size0 6 0)) _ _
    (within (get_or size0 5 0) 99 (get_or size0 6 0) order most)

-- the same, with the values that were read from the size packs
pub all_pass : (kept : List (Option (List ℕ))) (size0 size1 : List ℕ) (first last n : ℕ)
    → first ≡ get_or size0 5 0 → last ≡ get_or size0 6 0 → n ≡ get_or size1 12 0
    → 1 ≤ first → first ≤ last → last ≤ 99
    → read_sized kept size0 size1 ≡ read_numbers kept (n + 1) first last (first_missing kept (n + 1))
all_pass kept size0 size1 first last n a b d least order most =
    sizes_pass kept size0 size1 (omega arith) (omega arith) (omega arith)
    ∙ ap
    (λ (k : ℕ). read_numbers kept (k + 1) (get_or size0 5 0) (get_or size0 6 0) (first_missing kept (k + 1)))
    (sym d)
    ∙ ap (λ (k : ℕ). read_numbers kept (n + 1) k (get_or size0 6 0) (first_missing kept (n + 1))) (sym a)
    ∙ ap (λ (k : ℕ). read_numbers kept (n + 1) first k (first_missing kept (n + 1))) (sym b)

pub one_missing : (kept : List (Option (List ℕ))) (count first last : ℕ) (seq : ℕ)
    → first_missing kept count ≡ Some seq
    → read_numbers kept count first last (first_missing kept count) ≡ Err (Missing seq)
one_missing kept count first last seq is = ap (read_numbers kept count first last) is

pub none_missing : (kept : List (Option (List ℕ))) (count first last : ℕ) → first_missing kept count ≡ None
    → read_numbers kept count first last (first_missing kept count)
    ≡ read_kinds (take count kept) first last (first_short (take count kept) (last - first + 2))
none_missing kept count first last is = ap (read_numbers kept count first last) is

pub one_short : (used : List (Option (List ℕ))) (first last seq : ℕ) (short : Option TextKind)
    → option_map (λ kind. last_number (kind_packs used kind)) short ≡ Some seq
    → read_kinds used first last short ≡ Err (Malformed seq 15)
one_short used first last seq None is = absurd (none-some seq is)
one_short used first last seq (Some kind) is =
    ap (λ (n : ℕ). Err (Malformed n 15)) (ap (λ (o : Option ℕ). unwrap_or o 0) is)

pub no_short : (used : List (Option (List ℕ))) (short : Option TextKind)
    → option_map (λ kind. last_number (kind_packs used kind)) short ≡ None
    → short ≡ None
no_short used None is = refl
no_short used (Some kind) is = absurd (none-some (last_number (kind_packs used kind)) (sym is))

pub all_read : (used : List (Option (List ℕ))) (first last : ℕ) (short : Option TextKind) → short ≡ None
    → read_kinds used first last short ≡ Ok (all_texts used first last)
all_read used first last short is = ap (read_kinds used first last) is

pub nothing_read : (kept : List (Option (List ℕ))) → keeps_nothing kept ≡ true → read_texts kept ≡ Ok no_texts
nothing_read kept none =
    cond-true (keeps_nothing kept) (Ok no_texts)
    (read_sizes kept (size_pack kept 0) (size_pack kept 1) (size_pack kept 2)) none

some_read : (kept : List (Option (List ℕ))) → keeps_nothing kept ≡ false
    → read_texts kept ≡ read_sizes kept (size_pack kept 0) (size_pack kept 1) (size_pack kept 2)
some_read kept some =
    cond-false (keeps_nothing kept) (Ok no_texts)
    (read_sizes kept (size_pack kept 0) (size_pack kept 1) (size_pack kept 2)) some

pub sizes_read : (kept : List (Option (List ℕ))) (size0 size1 : List ℕ) (third : Option (List ℕ))
    → keeps_nothing kept ≡ false → size_pack kept 0 ≡ Some size0 → size_pack kept 1 ≡ Some size1
    → is_none third ≡ false → size_pack kept 2 ≡ third
    → read_texts kept ≡ read_sized kept size0 size1
sizes_read kept size0 size1 third some first second last is =
    some_read kept some
    ∙ ap (λ (s : Option (List ℕ)). read_sizes kept s (size_pack kept 1) (size_pack kept 2)) first
    ∙ ap (λ (s : Option (List ℕ)). read_sizes kept (Some size0) s (size_pack kept 2)) second
    ∙ ap (λ (s : Option (List ℕ)). read_sizes kept (Some size0) (Some size1) s) is ∙ there third last
  where
    there : (third : Option (List ℕ)) → is_none third ≡ false
        → read_sizes kept (Some size0) (Some size1) third ≡ read_sized kept size0 size1
    there None e = absurd (true≢false e)
    there (Some size2) e = refl

-- If the packs have texts, they are not refused; if not, the answer is the reason

pub given_texts : (read answer : Result Texts TextFault) (texts : Texts) → read ≡ Ok texts
    → IfErr read (λ fault. answer ≡ Err fault)
given_texts (Ok t) answer texts is = tt
given_texts (Err fault) answer texts is = absurd (cc)

pub given_reason : (read answer : Result Texts TextFault) (reason : TextFault) → read ≡ Err reason
    → answer ≡ Err reason
    → IfErr read (λ fault. answer ≡ Err fault)
given_reason (Ok t) answer reason is same = tt
given_reason (Err fault) answer reason is same = same ∙ sym is
