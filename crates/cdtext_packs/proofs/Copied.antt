-- The kept packs, after copies of packs were offered.
use Rattle.std.proofs.Common.{◌≡◌, ℕ, zero, suc, ◌-◌, ◌<◌, ◌≤◌, Bool, true, false, ◌&&◌, ◌==◌, List, [], ◌∷◌, ◌++◌, length, get_or, replicate, map, find, All, Option, Some, None, inl, inr, refl, sym, ap, ◌∙◌, subst, arith}
use Rattle.std.proofs.lemmas.List.{ext_get_or, length-append, length-map, length-replicate, get_or_append_left, get_or-append_right, get_or-replicate}
use Rattle.std.proofs.lemmas.List.FromFn.{length-map-range_with_len}
use Rattle.std.proofs.lemmas.List.Elements.{All-get_or}
use Rattle.std.proofs.lemmas.Bool.{cases_Bool, cases_lt, cond-true, cond-false, and_parts, and_from, eq-eqb, eqb-true, both_ways}
use Rattle.cdtext_packs.specs.Packs.{pack_number, check_matches, is_first_block, is_good, sealed}
use Rattle.cdtext_packs.specs.Kept.{kept_among}
use Rattle.cdtext_packs.specs.Texts.{Texts}
use Rattle.cdtext_packs.specs.Writing.{Content, contents, content_bytes, packs_of}
use Rattle.cdtext_packs.proofs.Numbered.{length-numbered}
use Rattle.cdtext_packs.proofs.Offers.{kept_at}
use Rattle.cdtext_packs.specs.Copies.{AreCopies}
use Rattle.cdtext_packs.proofs.Seals.{IsContent, numbered_at, seal_good, seal_number}

found_one : (p : List ℕ → Bool) (xs : List (List ℕ)) (x : List ℕ)
    → ((i : ℕ) → i < length xs → p (get_or xs i []) ≡ true → get_or xs i [] ≡ x)
    → (i : ℕ) → i < length xs → p (get_or xs i []) ≡ true → find p xs ≡ Some x
found_one p [] x only i inside fits = absurd (omega arith)
found_one p (y ∷ ys) x only zero inside fits =
    cond-true (p y) (Some y) (find p ys) fits ∙ ap Some (only 0 inside fits)
found_one p (y ∷ ys) x only (suc i) inside fits = elim (cases_Bool (p y)) [
  | inl here ↦ cond-true (p y) (Some y) (find p ys) here ∙ ap Some (only 0 (omega arith) here)
  | inr past ↦ cond-false (p y) (Some y) (find p ys) past
      ∙ found_one p ys x (λ k less passes. only (suc k) (omega arith) passes) i (omega arith) fits
]

found_none : (p : List ℕ → Bool) (xs : List (List ℕ)) → ((i : ℕ) → i < length xs → p (get_or xs i []) ≡ false)
    → find p xs ≡ None
found_none p [] fails = refl
found_none p (y ∷ ys) fails =
    cond-false (p y) (Some y) (find p ys) (fails 0 (omega arith))
    ∙ found_none p ys (λ k less. fails (suc k) (omega arith))

-- the packs at their numbers, and nothing at the numbers after them
unfoldable pub placed : List (List ℕ) → List (Option (List ℕ))
placed packs = map (λ (pack : List ℕ). Some pack) packs ++ replicate (256 - length packs) None

pub placed_at : (packs : List (List ℕ)) (n : ℕ) → n < length packs
    → get_or (placed packs) n None ≡ Some (get_or packs n [])
unfolding placed
placed_at packs n inside =
    let size = length-map packs (λ (pack : List ℕ). Some pack) in
    get_or_append_left (map (λ (pack : List ℕ). Some pack) packs) (replicate (256 - length packs) None) None n
    (omega arith)
    ∙ mapped packs n inside
  where
    mapped : (xs : List (List ℕ)) (k : ℕ) → k < length xs
        → get_or (map (λ (pack : List ℕ). Some pack) xs) k None ≡ Some (get_or xs k [])
    mapped [] k less = absurd (omega arith)
    mapped (x ∷ xs) zero less = refl
    mapped (x ∷ xs) (suc k) less = mapped xs k (omega arith)

placed_past : (packs : List (List ℕ)) (n : ℕ) → length packs ≤ n → n < 256
    → get_or (placed packs) n None ≡ None
unfolding placed
placed_past packs n past below_end =
    let size = length-map packs (λ (pack : List ℕ). Some pack) in
    get_or-append_right (map (λ (pack : List ℕ). Some pack) packs) (replicate (256 - length packs) None)
    (length packs) n None size past
    ∙ get_or-replicate (256 - length packs) (n - length packs) None None (omega arith)

length-placed : (packs : List (List ℕ)) → length packs ≤ 256 → length (placed packs) ≡ 256
unfolding placed
length-placed packs few =
    let one =
    length-append (map (λ (pack : List ℕ). Some pack) packs) (replicate (256 - length packs) None) in
    let two = length-map packs (λ (pack : List ℕ). Some pack) in
    let three = length-replicate {A = Option (List ℕ)} (256 - length packs) None in
    omega arith

none_content : Content
none_content = record { type = 0; track = 0; position = 0; text = [] }

module _ (texts : Texts) (offered : List (List ℕ)) (are : AreCopies texts offered)
    (each_content : All IsContent (contents texts)) where
  pack_is : (n : ℕ) → n < length (packs_of texts)
      → get_or (packs_of texts) n [] ≡ sealed (content_bytes n (get_or (contents texts) n none_content))
  pack_is n inside =
      let size = length-numbered 0 (contents texts) in
      numbered_at 0 (contents texts) n none_content (omega arith)
      ∙ ap (λ (k : ℕ). sealed (content_bytes k (get_or (contents texts) n none_content))) (omega arith)

  content_is : (n : ℕ) → n < length (packs_of texts) → IsContent (get_or (contents texts) n none_content)
  content_is n inside =
      let size = length-numbered 0 (contents texts) in
      All-get_or IsContent (contents texts) n none_content (omega arith) each_content

  pack_number_is : (n : ℕ) → n < length (packs_of texts) → pack_number (get_or (packs_of texts) n []) ≡ n
  pack_number_is n inside =
      ap pack_number (pack_is n inside) ∙ seal_number n (get_or (contents texts) n none_content)

  pack_good : (n : ℕ) → n < length (packs_of texts) → is_good (get_or (packs_of texts) n []) ≡ true
  pack_good n inside =
      ap is_good (pack_is n inside)
      ∙ seal_good n (get_or (contents texts) n none_content) (content_is n inside)

  -- a good pack among the offered packs is the authored pack with its number
  only_one : (i : ℕ) → i < length offered → is_good (get_or offered i []) ≡ true
      → (pack_number (get_or offered i []) < length (packs_of texts))
      × (get_or offered i [] ≡ get_or (packs_of texts) (pack_number (get_or offered i [])) [])
  only_one i inside good = elim (are.each i inside) [
    | inl bad ↦
        absurd (both_ways (check_matches (get_or offered i [])) bad
        (and_parts (check_matches (get_or offered i [])) (is_first_block (get_or offered i [])) good).0)
    | inr stands ↦
        let m = stands.0 in
        let is = stands.2 in
        let number : pack_number (get_or offered i []) ≡ m =
        ap pack_number is ∙ pack_number_is m stands.1 in (
          subst (λ (k : ℕ). k < length (packs_of texts)) (sym number) stands.1,
          is ∙ ap (λ (k : ℕ). get_or (packs_of texts) k []) (sym number),
        )
  ]

  kept_here : (n : ℕ) → n < length (packs_of texts)
      → find (λ pack. is_good pack && pack_number pack == n) offered ≡ Some (get_or (packs_of texts) n [])
  kept_here n inside =
      let stands = are.all n inside in
      found_one (λ pack. is_good pack && pack_number pack == n) offered (get_or (packs_of texts) n [])
      (λ i less fits.
      let parts = and_parts (is_good (get_or offered i [])) (pack_number (get_or offered i []) == n) fits in
      let same : pack_number (get_or offered i []) ≡ n =
      eqb-true (pack_number (get_or offered i [])) n parts.1 in
      (only_one i less parts.0).1 ∙ ap (λ (k : ℕ). get_or (packs_of texts) k []) same)
      stands.0 stands.1
      (ap (λ (p : List ℕ). is_good p && pack_number p == n) (sym stands.2)
      ∙ and_from (is_good (get_or (packs_of texts) n [])) (pack_number (get_or (packs_of texts) n []) == n)
      (pack_good n inside) (eq-eqb (pack_number (get_or (packs_of texts) n [])) n (pack_number_is n inside)))

  kept_past : (n : ℕ) → length (packs_of texts) ≤ n
      → find (λ pack. is_good pack && pack_number pack == n) offered ≡ None
  kept_past n past =
      found_none (λ pack. is_good pack && pack_number pack == n) offered
      (λ i less. elim (cases_Bool (is_good (get_or offered i []) && pack_number (get_or offered i []) == n)) [
        | inr fails ↦ fails
        | inl fits ↦
            let parts =
            and_parts (is_good (get_or offered i [])) (pack_number (get_or offered i []) == n) fits in
            let same : pack_number (get_or offered i []) ≡ n =
            eqb-true (pack_number (get_or offered i [])) n parts.1 in
            let within = (only_one i less parts.0).0 in
            absurd (omega arith)
      ])

  pub copies_kept : length (packs_of texts) ≤ 256 → kept_among offered ≡ placed (packs_of texts)
  copies_kept few =
      let kept_size =
      length-map-range_with_len (λ (k : ℕ). find (λ pack. is_good pack && pack_number pack == k) offered) 0
      256 in
      let size = length-placed (packs_of texts) few in
      ext_get_or None (kept_among offered) (placed (packs_of texts)) (kept_size ∙ sym size)
      (λ n inside. let below_end : n < 256 = omega arith in elim (cases_lt n (length (packs_of texts))) [
        | inl here ↦ kept_at offered n below_end ∙ kept_here n here ∙ sym (placed_at (packs_of texts) n here)
        | inr past ↦
            kept_at offered n below_end
            ∙ kept_past n past
            ∙ sym (placed_past (packs_of texts) n past below_end)
      ])
