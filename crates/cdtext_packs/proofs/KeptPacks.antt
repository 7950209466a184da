-- The kept packs, for the loops over them.
use Rattle.std.proofs.Common.{◌≡◌, ℕ, zero, suc, ◌+◌, ◌-◌, ◌*◌, ◌<◌, ◌≤◌, Bool, true, false, cond, not, ◌&&◌, ◌==◌, nat_lt, if◌then◌else◌, List, [], ◌∷◌, ◌++◌, length, get_or, take, drop, find, filter, flat_map, Option, Some, None, is_none, refl, sym, ap, ◌∙◌, arith}
use Rattle.std.specs.List.{range_with_len, list_all}
use Rattle.std.proofs.lemmas.List.{get_or_default, take_more, drop_more, drop_all, append-nil, length-append, get_or_at}
use Rattle.std.proofs.lemmas.List.Elements.{filter-append, filter_map-append}
use Rattle.std.proofs.lemmas.Grind.{flat_map-append}
use Rattle.std.proofs.lemmas.List.Sums.{sum_by-append}
use Rattle.std.proofs.lemmas.Bool.{cond-true, cond-false, eq-eqb, ne_eqb, and_right, lt-ltb, le-ltb}
use Rattle.bit_lists.specs.Counting.{below}
use Rattle.cdtext_packs.specs.Packs.{pack_number, pack_type, pack_text}
use Rattle.cdtext_packs.specs.Writing.{type_of}
use Rattle.cdtext_packs.specs.Reading.{in_order, keeps_nothing, is_size_pack, size_pack, kind_packs, kind_bytes, ends_in, is_zero, last_number, is_short}
use Rattle.cdtext_packs.specs.declared.kinds.TextKind.{TextKind}

-- the slot at a place, as a loop reads it
pub slot_is : (kept : List (Option (List ℕ))) (i : ℕ) (item slot : Option (List ℕ)) → i < length kept
    → item ≡ get_or kept i item → item ≡ slot
    → get_or kept i None ≡ slot
slot_is kept i item slot inside at is = get_or_default kept i None item inside ∙ sym at ∙ is

-- Searches from the front

rest_at : (kept : List (Option (List ℕ))) (i : ℕ) (slot : Option (List ℕ)) → i < length kept
    → get_or kept i None ≡ slot
    → drop i kept ≡ slot ∷ drop (i + 1) kept
rest_at kept i slot inside is =
    drop_more kept i None inside ∙ ap (λ (x : Option (List ℕ)). x ∷ drop (i + 1) kept) is

pub size_pack_skips : (kept : List (Option (List ℕ))) (d i : ℕ) → i < length kept → get_or kept i None ≡ None
    → size_pack (drop i kept) d ≡ size_pack (drop (i + 1) kept) d
unfolding size_pack
size_pack_skips kept d i inside is =
    ap (λ (k : List (Option (List ℕ))). find (is_size_pack d) (in_order k)) (rest_at kept i None inside is)

pub size_pack_passes : (kept : List (Option (List ℕ))) (d i : ℕ) (pack : List ℕ) → i < length kept
    → get_or kept i None ≡ Some pack → is_size_pack d pack ≡ false
    → size_pack (drop i kept) d ≡ size_pack (drop (i + 1) kept) d
unfolding size_pack
size_pack_passes kept d i pack inside is other =
    ap (λ (k : List (Option (List ℕ))). find (is_size_pack d) (in_order k))
    (rest_at kept i (Some pack) inside is)
    ∙ cond-false (is_size_pack d pack) (Some pack) (find (is_size_pack d) (in_order (drop (i + 1) kept)))
    other

pub size_pack_found : (kept : List (Option (List ℕ))) (d i : ℕ) (pack : List ℕ) → i < length kept
    → get_or kept i None ≡ Some pack → is_size_pack d pack ≡ true
    → size_pack (drop i kept) d ≡ Some pack
unfolding size_pack
size_pack_found kept d i pack inside is here =
    ap (λ (k : List (Option (List ℕ))). find (is_size_pack d) (in_order k))
    (rest_at kept i (Some pack) inside is)
    ∙ cond-true (is_size_pack d pack) (Some pack) (find (is_size_pack d) (in_order (drop (i + 1) kept))) here

pub none_kept : (kept : List (Option (List ℕ))) → list_all is_none kept ≡ keeps_nothing kept
none_kept [] = refl
none_kept (None ∷ kept) = none_kept kept
none_kept (Some pack ∷ kept) = sym (ne_eqb (length (in_order (Some pack ∷ kept))) 0 (λ e. omega arith))

-- the first number that passes
pub find_range : (p : ℕ → Bool) (a n i : ℕ) → i < n → ((k : ℕ) → k < i → p (a + k) ≡ false) → p (a + i) ≡ true
    → find p (range_with_len a n) ≡ Some (a + i)
find_range p a zero i inside before here = absurd (omega arith)
find_range p a (suc n) zero inside before here =
    let first : p a ≡ true = ap p (omega arith) ∙ here in
    cond-true (p a) (Some a) (find p (range_with_len (a + 1) n)) first ∙ ap Some (omega arith)
find_range p a (suc n) (suc i) inside before here =
    let first : p a ≡ false = ap p (omega arith) ∙ before 0 (omega arith) in
    cond-false (p a) (Some a) (find p (range_with_len (a + 1) n)) first
    ∙ find_range p (a + 1) n i (omega arith) (λ k less. ap p (omega arith) ∙ before (k + 1) (omega arith))
    (ap p (omega arith) ∙ here)
    ∙ ap Some (omega arith)

pub find_range_none : (p : ℕ → Bool) (a n : ℕ) → ((k : ℕ) → k < n → p (a + k) ≡ false)
    → find p (range_with_len a n) ≡ None
find_range_none p a zero none = refl
find_range_none p a (suc n) none =
    let first : p a ≡ false = ap p (omega arith) ∙ none 0 (omega arith) in
    cond-false (p a) (Some a) (find p (range_with_len (a + 1) n)) first
    ∙ find_range_none p (a + 1) n (λ k less. ap p (omega arith) ∙ none (k + 1) (omega arith))

pub find_below : (p : ℕ → Bool) (n i : ℕ) → i < n → ((k : ℕ) → k < i → p k ≡ false) → p i ≡ true
    → find p (below n) ≡ Some i
find_below p n i inside before here =
    find_range p 0 n i inside (λ k less. ap p (omega arith) ∙ before k less) (ap p (omega arith) ∙ here)
    ∙ ap Some (omega arith)

pub find_below_none : (p : ℕ → Bool) (n : ℕ) → ((k : ℕ) → k < n → p k ≡ false) → find p (below n) ≡ None
find_below_none p n none = find_range_none p 0 n (λ k less. ap p (omega arith) ∙ none k less)

pub size_pack_ends : (kept : List (Option (List ℕ))) (d i : ℕ) → length kept ≤ i
    → size_pack (drop i kept) d ≡ None
unfolding size_pack
size_pack_ends kept d i past =
    ap (λ (k : List (Option (List ℕ))). find (is_size_pack d) (in_order k)) (drop_all i kept past)

-- The packs of a kind, with one more slot

of_kind : TextKind → List ℕ → Bool
of_kind kind pack = pack_type pack == type_of kind

more_slots : (kept : List (Option (List ℕ))) (i : ℕ) (slot : Option (List ℕ)) (kind : TextKind)
    → i < length kept → get_or kept i None ≡ slot
    → kind_packs (take (i + 1) kept) kind ≡ kind_packs (take i kept) kind ++ kind_packs (slot ∷ []) kind
unfolding kind_packs
more_slots kept i slot kind inside is =
    ap (λ (k : List (Option (List ℕ))). kind_packs k kind)
    (take_more kept i None inside ∙ ap (λ (x : Option (List ℕ)). take i kept ++ x ∷ []) is)
    ∙ ap (λ (packs : List (List ℕ)). filter (λ pack. pack_type pack == type_of kind) packs)
    (filter_map-append (λ pack. pack) (take i kept) (slot ∷ []))
    ∙ filter-append (λ pack. pack_type pack == type_of kind) (in_order (take i kept)) (in_order (slot ∷ []))

pub packs_skip : (kept : List (Option (List ℕ))) (i : ℕ) (kind : TextKind) → i < length kept
    → get_or kept i None ≡ None
    → kind_packs (take (i + 1) kept) kind ≡ kind_packs (take i kept) kind
unfolding kind_packs
packs_skip kept i kind inside is =
    more_slots kept i None kind inside is ∙ append-nil (kind_packs (take i kept) kind)

pub packs_pass : (kept : List (Option (List ℕ))) (i : ℕ) (pack : List ℕ) (kind : TextKind) → i < length kept
    → get_or kept i None ≡ Some pack
    → (pack_type pack ≡ type_of kind → ⊥)
    → kind_packs (take (i + 1) kept) kind ≡ kind_packs (take i kept) kind
unfolding kind_packs
packs_pass kept i pack kind inside is other =
    more_slots kept i (Some pack) kind inside is
    ∙ ap (λ (packs : List (List ℕ)). kind_packs (take i kept) kind ++ packs) (cond-false
    (pack_type pack == type_of kind) (pack ∷ []) [] (ne_eqb (pack_type pack) (type_of kind) other))
    ∙ append-nil (kind_packs (take i kept) kind)

pub packs_more : (kept : List (Option (List ℕ))) (i : ℕ) (pack : List ℕ) (kind : TextKind) → i < length kept
    → get_or kept i None ≡ Some pack
    → pack_type pack ≡ type_of kind
    → kind_packs (take (i + 1) kept) kind ≡ kind_packs (take i kept) kind ++ pack ∷ []
unfolding kind_packs
packs_more kept i pack kind inside is same =
    more_slots kept i (Some pack) kind inside is
    ∙ ap (λ (packs : List (List ℕ)). kind_packs (take i kept) kind ++ packs)
    (cond-true (pack_type pack == type_of kind) (pack ∷ []) [] (eq-eqb (pack_type pack) (type_of kind) same))

pub bytes_more : (kept : List (Option (List ℕ))) (i : ℕ) (pack : List ℕ) (kind : TextKind) → i < length kept
    → get_or kept i None ≡ Some pack
    → pack_type pack ≡ type_of kind
    → kind_bytes (take (i + 1) kept) kind ≡ kind_bytes (take i kept) kind ++ pack_text pack
bytes_more kept i pack kind inside is same =
    ap (flat_map pack_text) (packs_more kept i pack kind inside is same)
    ∙ flat_map-append pack_text (kind_packs (take i kept) kind) (pack ∷ [])
    ∙ ap (λ (bytes : List ℕ). kind_bytes (take i kept) kind ++ bytes) (append-nil (pack_text pack))

-- The packs that a loop has read

ends-append : (xs ys : List ℕ) → ends_in (xs ++ ys) ≡ ends_in xs + ends_in ys
ends-append xs ys = sum_by-append (λ (x : ℕ). cond (is_zero x) 1 0) xs ys

abbrev pub last_of : List (List ℕ) → Option ℕ
last_of packs = if length packs == 0 then None else Some (last_number packs)

last_of_more : (packs : List (List ℕ)) (pack : List ℕ)
    → last_of (packs ++ pack ∷ []) ≡ Some (pack_number pack)
last_of_more packs pack =
    let size = length-append packs (pack ∷ []) in
    let place : length (packs ++ pack ∷ []) - 1 ≡ length packs = omega arith in
    let some : length (packs ++ pack ∷ []) ≡ 0 → ⊥ = λ e. omega arith in
    cond-false (length (packs ++ pack ∷ []) == 0) None (Some (last_number (packs ++ pack ∷ [])))
    (ne_eqb (length (packs ++ pack ∷ [])) 0 some)
    ∙ ap (λ (x : List ℕ). Some (pack_number x))
    (get_or_at packs pack [] [] (length (packs ++ pack ∷ []) - 1) (sym place))

pub record SeenPacks (kept : List (Option (List ℕ))) (kind : TextKind) (ends limit : ℕ) (last : Option ℕ)
    : Type 0 where
  pub ends_is : ends ≡ ends_in (kind_bytes kept kind)
  pub few : ends ≤ 12 * limit
  pub last_is : last ≡ last_of (kind_packs kept kind)

pub seen_none : (kind : TextKind) → SeenPacks [] kind 0 0 None
unfolding kind_packs
seen_none kind = record { ends_is = refl; few = omega arith; last_is = refl }

pub seen_same : (kept more : List (Option (List ℕ))) (kind : TextKind) (ends limit : ℕ) (last : Option ℕ)
    → kind_packs more kind ≡ kind_packs kept kind
    → SeenPacks kept kind ends limit last → SeenPacks more kind ends (limit + 1) last
seen_same kept more kind ends limit last same seen = record {
  ends_is = seen.ends_is ∙ ap (λ (packs : List (List ℕ)). ends_in (flat_map pack_text packs)) (sym same);
  few = let few = seen.few in omega arith;
  last_is = seen.last_is ∙ ap last_of (sym same);
}

pub seen_more : (kept : List (Option (List ℕ))) (i : ℕ) (pack : List ℕ) (kind : TextKind) (ends here : ℕ)
    (last : Option ℕ) → i < length kept → get_or kept i None ≡ Some pack
    → pack_type pack ≡ type_of kind → here ≡ ends_in (pack_text pack) → here ≤ 12
    → SeenPacks (take i kept) kind ends i last
    → SeenPacks (take (i + 1) kept) kind (ends + here) (i + 1) (Some (pack_number pack))
seen_more kept i pack kind ends here last inside is same counted below seen =
    let more = packs_more kept i pack kind inside is same in
    let bytes =
    ap ends_in (bytes_more kept i pack kind inside is same)
    ∙ ends-append (kind_bytes (take i kept) kind) (pack_text pack) in
    let known = seen.ends_is in
    let few = seen.few in
    record {
      ends_is = omega arith;
      few = omega arith;
      last_is = sym (ap last_of more ∙ last_of_more (kind_packs (take i kept) kind) pack);
    }

pub short_is : (kept : List (Option (List ℕ))) (count ends limit : ℕ) (kind : TextKind) (last : Option ℕ)
    → SeenPacks kept kind ends limit last → ends < count
    → last ≡ (if is_short kept count kind then Some (last_number (kind_packs kept kind)) else None)
unfolding is_short
short_is kept count ends limit kind last seen few =
    let packs = kind_packs kept kind in
    let known = seen.ends_is in
    let less : nat_lt (ends_in (kind_bytes kept kind)) count ≡ true =
    lt-ltb (ends_in (kind_bytes kept kind)) count (omega arith) in
    seen.last_is
    ∙ sym (ap (λ (b : Bool). if not (length packs == 0) && b then Some (last_number packs) else None) less
    ∙ both (length packs == 0) (Some (last_number packs)))
  where
    both : (b : Bool) (x : Option ℕ) → (if not b && true then x else None) ≡ (if b then None else x)
    both true x = refl
    both false x = refl

pub long_is : (kept : List (Option (List ℕ))) (count ends limit : ℕ) (kind : TextKind) (last : Option ℕ)
    → SeenPacks kept kind ends limit last → count ≤ ends
    → None ≡ (if is_short kept count kind then Some (last_number (kind_packs kept kind)) else None)
unfolding is_short
long_is kept count ends limit kind last seen many =
    let packs = kind_packs kept kind in
    let known = seen.ends_is in
    let less : nat_lt (ends_in (kind_bytes kept kind)) count ≡ false =
    le-ltb (ends_in (kind_bytes kept kind)) count (omega arith) in
    sym (ap (λ (b : Bool). if b then Some (last_number packs) else None)
    (and_right (not (length packs == 0)) (nat_lt (ends_in (kind_bytes kept kind)) count) less))

abbrev pub first_short_in : List (Option (List ℕ)) → ℕ → List TextKind → Option TextKind
first_short_in kept count some = find (is_short kept count) some
