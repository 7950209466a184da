-- The kept packs, after packs were offered.
use Rattle.std.proofs.Common.{◌≡◌, ℕ, ◌<◌, Bool, true, false, not, ◌&&◌, ◌==◌, if◌then◌else◌, List, [], ◌∷◌, ◌++◌, length, get_or, set, find, replicate, Option, Some, None, is_some, inl, inr, sym, ap, ◌∙◌, arith}
use Rattle.std.proofs.lemmas.Bool.{cases_Bool, cases_eq, cond-true, cond-false, and_from, and_left, and_right, eq-eqb, ne_eqb, not_from_true, not_from_false, true≢false}
use Rattle.std.proofs.lemmas.List.{ext_get_or, length-set, get_or-set_same, get_or-set_other, get_or-replicate, length-replicate}
use Rattle.std.proofs.lemmas.List.FromFn.{get_or-map-range_with_len, length-map-range_with_len}
use Rattle.cdtext_packs.specs.Packs.{pack_number, check_matches, is_first_block, is_good}
use Rattle.cdtext_packs.specs.Kept.{nothing_kept, with_number, offer_of, kept_by, kept_among}
use Rattle.cdtext_packs.specs.declared.kinds.Offer.{Offer}
use Rattle.cdtext_packs.specs.declared.kinds.Offer.TheVariants.{Kept, Again, BadCrc, OtherBlock}

pub kept_at : (packs : List (List ℕ)) (n : ℕ) → n < 256
    → with_number (kept_among packs) n ≡ find (λ pack. is_good pack && pack_number pack == n) packs
kept_at packs n below_end =
    get_or-map-range_with_len (λ (k : ℕ). find (λ pack. is_good pack && pack_number pack == k) packs) 0 256 n
    n None below_end (omega arith)

length-kept : (packs : List (List ℕ)) → length (kept_among packs) ≡ 256
length-kept packs =
    length-map-range_with_len (λ (k : ℕ). find (λ pack. is_good pack && pack_number pack == k) packs) 0 256

pub kept_none : kept_among [] ≡ nothing_kept
unfolding nothing_kept
kept_none =
    ext_get_or None (kept_among []) (replicate 256 None)
    (length-kept [] ∙ sym (length-replicate {A = Option (List ℕ)} 256 None))
    (λ n inside. let size = length-kept [] in
    kept_at [] n (omega arith) ∙ sym (get_or-replicate 256 n None None (omega arith)))

find-push_no : (p : List ℕ → Bool) (packs : List (List ℕ)) (pack : List ℕ) → p pack ≡ false
    → find p (packs ++ pack ∷ []) ≡ find p packs
find-push_no p [] pack no_fit = cond-false (p pack) (Some pack) None no_fit
find-push_no p (x ∷ packs) pack no_fit =
    ap (λ (o : Option (List ℕ)). if p x then Some x else o) (find-push_no p packs pack no_fit)

find-push_some : (p : List ℕ → Bool) (packs : List (List ℕ)) (pack : List ℕ) → is_some (find p packs) ≡ true
    → find p (packs ++ pack ∷ []) ≡ find p packs
find-push_some p [] pack some = absurd (true≢false (sym some))
find-push_some p (x ∷ packs) pack some = elim (cases_Bool (p x)) [
  | inl here ↦
      cond-true (p x) (Some x) (find p (packs ++ pack ∷ [])) here
      ∙ sym (cond-true (p x) (Some x) (find p packs) here)
  | inr past ↦
      let rest : is_some (find p packs) ≡ true =
      ap is_some (sym (cond-false (p x) (Some x) (find p packs) past)) ∙ some in
      ap (λ (o : Option (List ℕ)). if p x then Some x else o) (find-push_some p packs pack rest)
]

find-push_none : (p : List ℕ → Bool) (packs : List (List ℕ)) (pack : List ℕ) → is_some (find p packs) ≡ false
    → p pack ≡ true
    → find p (packs ++ pack ∷ []) ≡ Some pack
find-push_none p [] pack none fit = cond-true (p pack) (Some pack) None fit
find-push_none p (x ∷ packs) pack none fit = elim (cases_Bool (p x)) [
  | inl here ↦ absurd (true≢false (sym (ap is_some (cond-true (p x) (Some x) (find p packs) here)) ∙ none))
  | inr past ↦
      let rest : is_some (find p packs) ≡ false =
      ap is_some (sym (cond-false (p x) (Some x) (find p packs) past)) ∙ none in
      cond-false (p x) (Some x) (find p (packs ++ pack ∷ [])) past ∙ find-push_none p packs pack rest fit
]

-- a pack that changes no search by number does not change what is kept
same_kept : (packs : List (List ℕ)) (pack : List ℕ) → ((n : ℕ) → n < 256 → find
    (λ p. is_good p && pack_number p == n) (packs ++ pack ∷ [])
    ≡ find (λ p. is_good p && pack_number p == n) packs)
    → kept_among packs ≡ kept_among (packs ++ pack ∷ [])
same_kept packs pack same =
    let size = length-kept packs in
    ext_get_or None (kept_among packs) (kept_among (packs ++ pack ∷ []))
    (length-kept packs ∙ sym (length-kept (packs ++ pack ∷ [])))
    (λ n inside. let below_end : n < 256 = omega arith in
    kept_at packs n below_end ∙ sym (same n below_end) ∙ sym (kept_at (packs ++ pack ∷ []) n below_end))

not_good : (packs : List (List ℕ)) (pack : List ℕ) → is_good pack ≡ false
    → kept_among packs ≡ kept_among (packs ++ pack ∷ [])
not_good packs pack bad =
    same_kept packs pack (λ n below_end. find-push_no (λ p. is_good p && pack_number p == n) packs pack
    (and_left (is_good pack) (pack_number pack == n) bad))

again : (packs : List (List ℕ)) (pack : List ℕ)
    → is_some (with_number (kept_among packs) (pack_number pack)) ≡ true
    → kept_among packs ≡ kept_among (packs ++ pack ∷ [])
again packs pack held = same_kept packs pack (λ n below_end. elim (cases_eq (pack_number pack) n) [
  | inl same ↦ find-push_some (λ p. is_good p && pack_number p == n) packs pack
      (ap is_some (sym (kept_at packs n below_end))
      ∙ ap (λ (k : ℕ). is_some (with_number (kept_among packs) k)) (sym same)
      ∙ held)
  | inr other ↦
      find-push_no (λ p. is_good p && pack_number p == n) packs pack
      (and_right (is_good pack) (pack_number pack == n) (ne_eqb (pack_number pack) n other))
])

new_one : (packs : List (List ℕ)) (pack : List ℕ) → is_good pack ≡ true
    → is_some (with_number (kept_among packs) (pack_number pack)) ≡ false
    → set (kept_among packs) (pack_number pack) (Some pack) ≡ kept_among (packs ++ pack ∷ [])
new_one packs pack good free =
    let kept = kept_among packs in
    let at = pack_number pack in
    let size = length-kept packs in
    let set_size = length-set (kept_among packs) (pack_number pack) (Some pack) in
    ext_get_or None (set (kept_among packs) (pack_number pack) (Some pack)) (kept_among (packs ++ pack ∷ []))
    (set_size ∙ size ∙ sym (length-kept (packs ++ pack ∷ [])))
    (λ n inside. let below_end : n < 256 = omega arith in elim (cases_eq n (pack_number pack)) [
      | inl same ↦
          let here : n < length (kept_among packs) = omega arith in
          ap (λ (k : ℕ). get_or (set (kept_among packs) k (Some pack)) n None) (sym same)
          ∙ get_or-set_same (kept_among packs) n (Some pack) None here
          ∙ sym (find-push_none (λ p. is_good p && pack_number p == n) packs pack
          (ap is_some (sym (kept_at packs n below_end))
          ∙ ap (λ (k : ℕ). is_some (with_number (kept_among packs) k)) same
          ∙ free)
          (and_from (is_good pack) (pack_number pack == n) good (eq-eqb (pack_number pack) n (sym same))))
          ∙ sym (kept_at (packs ++ pack ∷ []) n below_end)
      | inr other ↦
          get_or-set_other (kept_among packs) (pack_number pack) n (Some pack) None other
          ∙ kept_at packs n below_end
          ∙ sym (find-push_no (λ p. is_good p && pack_number p == n) packs pack (and_right (is_good pack)
          (pack_number pack == n) (ne_eqb (pack_number pack) n (λ e. other (sym e)))))
          ∙ sym (kept_at (packs ++ pack ∷ []) n below_end)
    ])

-- the answers of an offer
pub bad_offer : (kept : List (Option (List ℕ))) (pack : List ℕ) → check_matches pack ≡ false
    → offer_of kept pack ≡ BadCrc
bad_offer kept pack bad =
    cond-true (not (check_matches pack)) BadCrc (if not (is_first_block pack)
    then OtherBlock
    else (if is_some (with_number kept (pack_number pack)) then Again else Kept))
    (not_from_false (check_matches pack) bad)

checked_offer : (kept : List (Option (List ℕ))) (pack : List ℕ) → check_matches pack ≡ true
    → offer_of kept pack
    ≡ (if not (is_first_block pack)
    then OtherBlock
    else (if is_some (with_number kept (pack_number pack)) then Again else Kept))
checked_offer kept pack good =
    cond-false (not (check_matches pack)) BadCrc (if not (is_first_block pack)
    then OtherBlock
    else (if is_some (with_number kept (pack_number pack)) then Again else Kept))
    (not_from_true (check_matches pack) good)

pub other_offer : (kept : List (Option (List ℕ))) (pack : List ℕ) → check_matches pack ≡ true
    → is_first_block pack ≡ false
    → offer_of kept pack ≡ OtherBlock
other_offer kept pack good other = checked_offer kept pack good
    ∙ cond-true (not (is_first_block pack)) OtherBlock
    (if is_some (with_number kept (pack_number pack)) then Again else Kept)
    (not_from_false (is_first_block pack) other)

good_offer : (kept : List (Option (List ℕ))) (pack : List ℕ) → check_matches pack ≡ true
    → is_first_block pack ≡ true
    → offer_of kept pack ≡ (if is_some (with_number kept (pack_number pack)) then Again else Kept)
good_offer kept pack good first = checked_offer kept pack good
    ∙ cond-false (not (is_first_block pack)) OtherBlock
    (if is_some (with_number kept (pack_number pack)) then Again else Kept)
    (not_from_true (is_first_block pack) first)

pub again_offer : (kept : List (Option (List ℕ))) (pack : List ℕ) → check_matches pack ≡ true
    → is_first_block pack ≡ true → is_some (with_number kept (pack_number pack)) ≡ true
    → offer_of kept pack ≡ Again
again_offer kept pack good first held =
    good_offer kept pack good first
    ∙ cond-true (is_some (with_number kept (pack_number pack))) Again Kept held

pub kept_offer : (kept : List (Option (List ℕ))) (pack : List ℕ) → check_matches pack ≡ true
    → is_first_block pack ≡ true → is_some (with_number kept (pack_number pack)) ≡ false
    → offer_of kept pack ≡ Kept
kept_offer kept pack good first free =
    good_offer kept pack good first
    ∙ cond-false (is_some (with_number kept (pack_number pack))) Again Kept free

pub kept_more : (packs : List (List ℕ)) (pack : List ℕ)
    → kept_by (offer_of (kept_among packs) pack) (kept_among packs) pack ≡ kept_among (packs ++ pack ∷ [])
kept_more packs pack = elim (cases_Bool (check_matches pack)) [
  | inr bad ↦
      ap (λ (offer : Offer). kept_by offer (kept_among packs) pack) (bad_offer (kept_among packs) pack bad)
      ∙ not_good packs pack (and_left (check_matches pack) (is_first_block pack) bad)
  | inl good ↦ elim (cases_Bool (is_first_block pack)) [
    | inr other ↦
        ap (λ (offer : Offer). kept_by offer (kept_among packs) pack)
        (other_offer (kept_among packs) pack good other)
        ∙ not_good packs pack (and_right (check_matches pack) (is_first_block pack) other)
    | inl first ↦ elim (cases_Bool (is_some (with_number (kept_among packs) (pack_number pack)))) [
      | inl held ↦
          ap (λ (offer : Offer). kept_by offer (kept_among packs) pack)
          (again_offer (kept_among packs) pack good first held)
          ∙ again packs pack held
      | inr free ↦
          ap (λ (offer : Offer). kept_by offer (kept_among packs) pack)
          (kept_offer (kept_among packs) pack good first free)
          ∙ new_one packs pack (and_from (check_matches pack) (is_first_block pack) good first) free
    ]
  ]
]
