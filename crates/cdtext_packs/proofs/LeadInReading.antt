-- Runs over the blocks of a lead-in.
use Rattle.std.proofs.Common.{◌≡◌, ◌≢◌, ℕ, zero, suc, ◌+◌, ◌-◌, ◌*◌, ◌<◌, Bool, true, false, not, ◌==◌, cond, List, [], ◌∷◌, ◌++◌, length, take, count_by, is_some, inl, inr, refl, sym, ap, ◌∙◌, subst, arith}
use Rattle.std.specs.declared.option.Option.{Option}
use Rattle.std.proofs.lemmas.Bool.{cases_Bool, cond-true, cond-false, and_from, and_left, and_right, eq-eqb, ne_eqb, not_from_true, not_from_false}
use Rattle.std.proofs.lemmas.List.{length-append, append_assoc, append-nil}
use Rattle.std.proofs.lemmas.List.Sums.{sum_by-append, count_by-le-length}
use Rattle.cdg_io.specs.Run.{run_state}
use Rattle.cdtext_packs.specs.Packs.{check_matches, is_first_block, is_good, is_of_other_block, pack_number}
use Rattle.cdtext_packs.specs.Kept.{with_number, offer_of, kept_by, kept_among}
use Rattle.cdtext_packs.specs.LeadIn.{pack_at, lead_in_packs}
use Rattle.cdtext_packs.specs.declared.kinds.Offer.{Offer}
use Rattle.cdtext_packs.specs.declared.kinds.Offer.TheVariants.{Kept, Again, BadCrc, OtherBlock}
use Rattle.cdtext_packs.proofs.Offers.{bad_offer, other_offer, again_offer, kept_offer, kept_none, kept_more}
use Rattle.cdtext_packs.specs.declared.lead_in_texts.LeadInTexts.{LeadInTexts}
use Rattle.bit_lists.specs.Counting.{counted}
use Rattle.cdtext_packs.specs.TextSteps.{fresh_texts, answered, offered, text_next, HasRead}

count-push : (p : List ℕ → Bool) (packs : List (List ℕ)) (pack : List ℕ)
    → count_by p (packs ++ pack ∷ []) ≡ count_by p packs + (0 + cond (p pack) 1 0)
count-push p packs pack = sum_by-append (λ (x : List ℕ). cond (p x) 1 0) packs (pack ∷ [])

count_in : (p : List ℕ → Bool) (packs : List (List ℕ)) (pack : List ℕ) (n : ℕ) → n ≡ count_by p packs
    → length packs < 2000000 → p pack ≡ true
    → counted n ≡ count_by p (packs ++ pack ∷ [])
count_in p packs pack n is few yes_ =
    let one : cond {A = ℕ} (p pack) 1 0 ≡ 1 = cond-true (p pack) 1 0 yes_ in
    let all = count-push p packs pack in
    let le = count_by-le-length p packs in
    omega arith

count_out : (p : List ℕ → Bool) (packs : List (List ℕ)) (pack : List ℕ) (n : ℕ) → n ≡ count_by p packs
    → p pack ≡ false
    → n ≡ count_by p (packs ++ pack ∷ [])
count_out p packs pack n is no_ =
    let none : cond {A = ℕ} (p pack) 1 0 ≡ 0 = cond-false (p pack) 1 0 no_ in
    let all = count-push p packs pack in
    omega arith

step : (packs : List (List ℕ)) (s : LeadInTexts) (pack : List ℕ) (offer : Offer)
    → offer_of s.reader pack ≡ offer
    → offered s pack ≡ answered offer s pack
unfolding offered
step packs s pack offer is = ap (λ (o : Offer). answered o s pack) is

next_kept : (packs : List (List ℕ)) (s : LeadInTexts) (pack : List ℕ) (offer : Offer)
    → s.reader ≡ kept_among packs → offer_of s.reader pack ≡ offer
    → kept_by offer s.reader pack ≡ kept_among (packs ++ pack ∷ [])
next_kept packs s pack offer kept is =
    ap (λ (o : Offer). kept_by o s.reader pack) (sym is)
    ∙ ap (λ (r : List (Option (List ℕ))). kept_by (offer_of r pack) r pack) kept
    ∙ kept_more packs pack

pub read_more : (packs : List (List ℕ)) (s : LeadInTexts) (pack : List ℕ) → HasRead packs s
    → length packs < 2000000
    → HasRead (packs ++ pack ∷ []) (offered s pack)
read_more packs s pack read few = elim (cases_Bool (check_matches pack)) [
  | inr bad ↦
      let is = bad_offer s.reader pack bad in
      subst (HasRead (packs ++ pack ∷ [])) (sym (step packs s pack BadCrc is)) (record {
        kept = next_kept packs s pack BadCrc read.kept is;
        good =
            count_out is_good packs pack s.good read.good
            (and_left (check_matches pack) (is_first_block pack) bad);
        bad =
            count_in (λ p. not (check_matches p)) packs pack s.bad read.bad few
            (not_from_false (check_matches pack) bad);
        other =
            count_out is_of_other_block packs pack s.other read.other
            (and_left (check_matches pack) (not (is_first_block pack)) bad);
      })
  | inl good ↦ elim (cases_Bool (is_first_block pack)) [
    | inr other ↦
        let is = other_offer s.reader pack good other in
        subst (HasRead (packs ++ pack ∷ [])) (sym (step packs s pack OtherBlock is)) (record {
          kept = next_kept packs s pack OtherBlock read.kept is;
          good =
              count_out is_good packs pack s.good read.good
              (and_right (check_matches pack) (is_first_block pack) other);
          bad =
              count_out (λ p. not (check_matches p)) packs pack s.bad read.bad
              (not_from_true (check_matches pack) good);
          other =
              count_in is_of_other_block packs pack s.other read.other few (and_from (check_matches pack)
              (not (is_first_block pack)) good (not_from_false (is_first_block pack) other));
        })
    | inl first ↦ elim (cases_Bool (is_some (with_number s.reader (pack_number pack)))) [
      | inl held ↦
          let is = again_offer s.reader pack good first held in
          subst (HasRead (packs ++ pack ∷ [])) (sym (step packs s pack Again is)) (record {
            kept = next_kept packs s pack Again read.kept is;
            good =
                count_in is_good packs pack s.good read.good few
                (and_from (check_matches pack) (is_first_block pack) good first);
            bad =
                count_out (λ p. not (check_matches p)) packs pack s.bad read.bad
                (not_from_true (check_matches pack) good);
            other =
                count_out is_of_other_block packs pack s.other read.other (and_right (check_matches pack)
                (not (is_first_block pack)) (not_from_true (is_first_block pack) first));
          })
      | inr free ↦
          let is = kept_offer s.reader pack good first free in
          subst (HasRead (packs ++ pack ∷ [])) (sym (step packs s pack Kept is)) (record {
            kept = next_kept packs s pack Kept read.kept is;
            good =
                count_in is_good packs pack s.good read.good few
                (and_from (check_matches pack) (is_first_block pack) good first);
            bad =
                count_out (λ p. not (check_matches p)) packs pack s.bad read.bad
                (not_from_true (check_matches pack) good);
            other =
                count_out is_of_other_block packs pack s.other read.other (and_right (check_matches pack)
                (not (is_first_block pack)) (not_from_true (is_first_block pack) first));
          })
    ]
  ]
]

left-answered : (offer : Offer) (s : LeadInTexts) (pack : List ℕ) → (answered offer s pack).left ≡ s.left
left-answered Kept s pack = refl
left-answered Again s pack = refl
left-answered BadCrc s pack = refl
left-answered OtherBlock s pack = refl

left-offered : (s : LeadInTexts) (pack : List ℕ) → (offered s pack).left ≡ s.left
unfolding offered
left-offered s pack = left-answered (offer_of s.reader pack) s pack

-- behind the lead-in nothing changes
idle_step : (s : LeadInTexts) (block : List ℕ) → s.left ≡ 0 → text_next s block ≡ s
unfolding text_next
idle_step s block none =
    cond-true (s.left == 0) s (offered (offered
    (offered (offered (record s { left = s.left - 1 }) (pack_at block 0)) (pack_at block 1))
    (pack_at block 2)) (pack_at block 3)) (eq-eqb s.left 0 none)

idle : (s : LeadInTexts) (blocks : List (List ℕ)) → s.left ≡ 0 → run_state text_next s blocks ≡ s
idle s [] none = refl
idle s (block ∷ blocks) none =
    ap (λ (t : LeadInTexts). run_state text_next t blocks) (idle_step s block none) ∙ idle s blocks none

lead_in_step : (s : LeadInTexts) (block : List ℕ) (m : ℕ) → s.left ≡ suc m
    → text_next s block
    ≡ offered (offered (offered (offered (record s { left = m }) (pack_at block 0)) (pack_at block 1))
    (pack_at block 2)) (pack_at block 3)
unfolding text_next
lead_in_step s block m more =
    let four : LeadInTexts → LeadInTexts =
    λ t. offered (offered (offered (offered t (pack_at block 0)) (pack_at block 1)) (pack_at block 2))
    (pack_at block 3) in
    let less : s.left - 1 ≡ m = omega arith in
    let some : s.left ≢ 0 = λ e. (omega arith) in
    cond-false (s.left == 0) s (four (record s { left = s.left - 1 })) (ne_eqb s.left 0 some)
    ∙ ap (λ (n : ℕ). four (record s { left = n })) less

four_more : (packs : List (List ℕ)) (s : LeadInTexts) (a b c d : List ℕ) → HasRead packs s
    → length packs + 4 < 2000000
    → HasRead (packs ++ a ∷ b ∷ c ∷ d ∷ []) (offered (offered (offered (offered s a) b) c) d)
four_more packs s a b c d read few =
    let la = length-append packs (a ∷ []) in
    let lb = length-append (packs ++ a ∷ []) (b ∷ []) in
    let lc = length-append ((packs ++ a ∷ []) ++ b ∷ []) (c ∷ []) in
    let one = read_more packs s a read (omega arith) in
    let two = read_more (packs ++ a ∷ []) (offered s a) b one (omega arith) in
    let three = read_more ((packs ++ a ∷ []) ++ b ∷ []) (offered (offered s a) b) c two (omega arith) in
    let four =
    read_more (((packs ++ a ∷ []) ++ b ∷ []) ++ c ∷ []) (offered (offered (offered s a) b) c) d three
    (omega arith) in
    let same : (((packs ++ a ∷ []) ++ b ∷ []) ++ c ∷ []) ++ d ∷ [] ≡ packs ++ a ∷ b ∷ c ∷ d ∷ [] =
    simp append_assoc in
    subst (λ (ps : List (List ℕ)). HasRead ps (offered (offered (offered (offered s a) b) c) d)) same four

pub run_reads : (blocks packs : List (List ℕ)) (n : ℕ) (s : LeadInTexts) → s.left ≡ n
    → length packs + 4 * n < 2000000 → HasRead packs s
    → HasRead (packs ++ lead_in_packs (take n blocks)) (run_state text_next s blocks)
run_reads blocks packs zero s left few read =
    subst (λ (t : LeadInTexts). HasRead (packs ++ []) t) (sym (idle s blocks left))
    (subst (λ (ps : List (List ℕ)). HasRead ps s) (sym (append-nil packs)) read)
run_reads [] packs (suc m) s left few read =
    subst (λ (ps : List (List ℕ)). HasRead ps s) (sym (append-nil packs)) read
run_reads (block ∷ blocks) packs (suc m) s left few read =
    let a = pack_at block 0 in
    let b = pack_at block 1 in
    let c = pack_at block 2 in
    let d = pack_at block 3 in
    let s' : LeadInTexts = record s { left = m } in
    let here : HasRead packs s' =
    record { kept = read.kept; good = read.good; bad = read.bad; other = read.other } in
    let four = four_more packs s' a b c d here (omega arith) in
    let size = length-append packs (a ∷ b ∷ c ∷ d ∷ []) in
    let end : (offered (offered (offered (offered s' a) b) c) d).left ≡ m =
    left-offered (offered (offered (offered s' a) b) c) d
    ∙ left-offered (offered (offered s' a) b) c
    ∙ left-offered (offered s' a) b
    ∙ left-offered s' a in
    let rest =
    run_reads blocks (packs ++ a ∷ b ∷ c ∷ d ∷ []) m (offered (offered (offered (offered s' a) b) c) d) end
    (omega arith) four in
    subst (λ (t : LeadInTexts).
    HasRead (packs ++ lead_in_packs (take (suc m) (block ∷ blocks))) (run_state text_next t blocks))
    (sym (lead_in_step s block m left))
    (subst (λ (ps : List (List ℕ)).
    HasRead ps (run_state text_next (offered (offered (offered (offered s' a) b) c) d) blocks))
    (append_assoc packs (a ∷ b ∷ c ∷ d ∷ []) (lead_in_packs (take m blocks))) rest)

pub begun_read : (lead_in : ℕ) → HasRead [] (fresh_texts lead_in)
begun_read lead_in = record { kept = sym kept_none; good = refl; bad = refl; other = refl }
