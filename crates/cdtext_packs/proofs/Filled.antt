-- The number of packs of some texts.
use Rattle.std.proofs.Common.{◌≡◌, ℕ, ◌+◌, ◌<◌, ◌≤◌, Bool, true, if◌then◌else◌, List, [], ◌∷◌, ◌++◌, length, get_or, flat_map, take, inl, inr, Result, Ok, Err, MatchResult, refl, sym, ap, ◌∙◌, subst, arith}
use Rattle.std.specs.List.{list_all}
use Rattle.std.specs.Result.{IsErrAnd}
use Rattle.std.proofs.lemmas.Bool.{cases_Bool, and_from, and_parts}
use Rattle.std.proofs.lemmas.List.{length-append}
use Rattle.cdtext_packs.specs.Texts.{Texts, kinds, strings_of, are_empty, has_no_text}
use Rattle.cdtext_packs.specs.Writing.{pack_count, kind_contents, size_contents, contents, IsPackStop}
use Rattle.cdtext_packs.specs.declared.kinds.TextKind.{TextKind}
use Rattle.cdtext_packs.specs.declared.kinds.PackStop.{PackStop}
use Rattle.cdtext_packs.specs.declared.kinds.PackStop.TheVariants.{NoMemory}
use Rattle.cdtext_packs.proofs.Cutting.{joined_some}
use Rattle.cdtext_packs.proofs.Numbered.{flat_map-kinds_more, length-kind_contents, pack_count-empty, pack_count-full}

empty_from_none : (strings : List (List ℕ)) → pack_count strings ≡ 0 → are_empty strings ≡ true
empty_from_none strings none = elim (cases_Bool (are_empty strings)) [
  | inl empty ↦ empty
  | inr full ↦
      let some = joined_some strings full in
      let count = pack_count-full strings full in
      absurd (omega arith)
]

abbrev have_no_text : Texts → List TextKind → Bool
have_no_text texts ks = list_all (λ kind. are_empty (strings_of kind texts)) ks

no_text_from_none : (texts : Texts) (ks : List TextKind) → length (flat_map (kind_contents texts) ks) ≡ 0
    → have_no_text texts ks ≡ true
no_text_from_none texts [] none = refl
no_text_from_none texts (k ∷ ks) none =
    let whole = length-append (kind_contents texts k) (flat_map (kind_contents texts) ks) in
    let count = length-kind_contents texts k in
    and_from _ _ (empty_from_none (strings_of k texts) (omega arith))
    (no_text_from_none texts ks (omega arith))

none_from_no_text : (texts : Texts) (ks : List TextKind) → have_no_text texts ks ≡ true
    → length (flat_map (kind_contents texts) ks) ≡ 0
none_from_no_text texts [] empty = refl
none_from_no_text texts (k ∷ ks) empty =
    let parts = and_parts (are_empty (strings_of k texts)) (have_no_text texts ks) empty in
    let whole = length-append (kind_contents texts k) (flat_map (kind_contents texts) ks) in
    let count = length-kind_contents texts k ∙ pack_count-empty (strings_of k texts) parts.0 in
    let rest = none_from_no_text texts ks parts.1 in
    omega arith

-- if the packs of the first seven kinds are counted, all kinds are counted
pub all_counted : (texts : Texts) (count i : ℕ) → i ≡ 7
    → count ≡ length (flat_map (kind_contents texts) (take i kinds))
    → count ≡ length (flat_map (kind_contents texts) kinds)
all_counted texts count i end is =
    is ∙ ap (λ (k : ℕ). length (flat_map (kind_contents texts) (take k kinds))) end

-- texts have no packs if no kind fills one
pub none_counted : (texts : Texts) (count : ℕ) → count ≡ length (flat_map (kind_contents texts) kinds)
    → count ≡ 0 → length (contents texts) ≡ 0
none_counted texts count is none =
    ap (λ (b : Bool). length (if b then [] else flat_map (kind_contents texts) kinds ++ size_contents texts))
    (no_text_from_none texts kinds (sym is ∙ none))

-- otherwise they have three packs more, the size packs
pub some_counted : (texts : Texts) (count : ℕ) → count ≡ length (flat_map (kind_contents texts) kinds)
    → 0 < count → length (contents texts) ≡ count + 3
some_counted texts count is some = elim (cases_Bool (has_no_text texts)) [
  | inl empty ↦ let none = none_from_no_text texts kinds empty in absurd (omega arith)
  | inr full ↦
      let all =
      ap (λ (b : Bool). length (if b then []
      else flat_map (kind_contents texts) kinds ++ size_contents texts)) full in
      let whole = length-append (flat_map (kind_contents texts) kinds) (size_contents texts) in
      omega arith
]

-- one more kind is counted
pub count_more : (texts : Texts) (count more i : ℕ) (d : TextKind) → i < 7
    → count ≡ length (flat_map (kind_contents texts) (take i kinds))
    → more ≡ length (kind_contents texts (get_or kinds i d))
    → count + more ≡ length (flat_map (kind_contents texts) (take (i + 1) kinds))
count_more texts count more i d below is next =
    ap (λ (n : ℕ). n + more) is
    ∙ ap (λ (n : ℕ). length (flat_map (kind_contents texts) (take i kinds)) + n) next
    ∙ sym (ap length (flat_map-kinds_more (kind_contents texts) i d below)
    ∙ length-append (flat_map (kind_contents texts) (take i kinds)) (kind_contents texts (get_or kinds i d)))

-- memory ran out, and the packs are few enough
pub no_memory : {T : Type 0} (texts : Texts) (P : T → Type 0) (r : Result T PackStop)
    → IsErrAnd r (λ stop. stop ≡ NoMemory) → length (contents texts) ≤ 256
    → MatchResult r P (IsPackStop texts)
no_memory texts P (Ok x) stops few = absurd stops
no_memory texts P (Err stop) stops few = subst (IsPackStop texts) (sym stops) few
