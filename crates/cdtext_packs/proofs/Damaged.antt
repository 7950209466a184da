-- Packs in which a few bits changed.
use Rattle.std.proofs.Common.{◌≡◌, ◌≢◌, ℕ, ◌+◌, ◌-◌, ◌*◌, ◌/◌, ◌^◌, ◌<◌, ◌≤◌, Bool, true, List, [], ◌∷◌, ◌++◌, length, take, drop, get_or, Option, inl, inr, sym, ap, ap₂, ◌∙◌, subst, arith}
use Rattle.std.proofs.lemmas.List.{append-nil, take-append-drop, length-take, take_at, drop_at, drop_more, drop_all}
use Rattle.std.proofs.lemmas.List.Elements.{All-get_or}
use Rattle.std.proofs.lemmas.Bool.{cases_Bool, eqb-true}
use Rattle.bit_lists.specs.Bits.{bits_of, bits_of_bytes}
use Rattle.bit_lists.specs.Check.{check_bits, check_of, IsChecked}
use Rattle.bit_lists.proofs.BitsLemmas.{bits_of-split, bits_of-above, bits_of_bytes-append, length-bits_of_bytes}
use Rattle.bit_lists.proofs.Checks.{bits_of-check_of}
use Rattle.bit_lists.proofs.Bursts.{bursts_fail_the_check}
use Rattle.cdtext_packs.specs.Packs.{check_matches}
use Rattle.cdtext_packs.specs.Kept.{offer_of}
use Rattle.cdtext_packs.specs.declared.kinds.Offer.TheVariants.{BadCrc}
use Rattle.cdtext_packs.proofs.Offers.{bad_offer}
use Rattle.cdtext_packs.specs.Copies.{IsPack}

two_bytes : (high low : ℕ) → low < 256 → bits_of_bytes (high ∷ low ∷ []) ≡ bits_of 16 (256 * high + low)
unfolding bits_of_bytes
two_bytes high low small =
    let n = 256 * high + low in
    let top : (256 * high + low) / 2 ^ 8 ≡ high = omega arith in
    let whole : 256 * high + low ≡ high * 2 ^ 8 + low = omega arith in
    let rest : bits_of 8 (256 * high + low) ≡ bits_of 8 low =
    ap (bits_of 8) whole ∙ bits_of-above 8 8 high low (omega arith) in
    ap₂ (λ (p q : List Bool). p ++ q) (ap (bits_of 8) (sym top)) (append-nil (bits_of 8 low) ∙ sym rest)
    ∙ sym (bits_of-split 8 8 16 (256 * high + low) (omega arith))

last_two : (pack : List ℕ) → length pack ≡ 18 → drop 16 pack ≡ get_or pack 16 0 ∷ get_or pack 17 0 ∷ []
last_two pack size =
    drop_more pack 16 0 (omega arith)
    ∙ ap (λ (xs : List ℕ). get_or pack 16 0 ∷ xs) (drop_more pack 17 0 (omega arith)
    ∙ ap (λ (xs : List ℕ). get_or pack 17 0 ∷ xs) (drop_all 18 pack (omega arith)))

-- the bits of a pack with a right check end in their check
checked : (pack : List ℕ) → IsPack pack → check_matches pack ≡ true → IsChecked (bits_of_bytes pack)
unfolding check_matches
checked pack is matches =
    let size = is.size in
    let same : check_of (take 16 pack) ≡ 256 * get_or pack 16 0 + get_or pack 17 0 =
    eqb-true (check_of (take 16 pack)) (256 * get_or pack 16 0 + get_or pack 17 0) matches in
    let low : get_or pack 17 0 < 256 = All-get_or (λ byte. byte < 256) pack 17 0 (omega arith) is.bytes in
    let front = length-bits_of_bytes (take 16 pack) in
    let taken = length-take 16 pack in
    let parts : bits_of_bytes pack ≡ bits_of_bytes (take 16 pack) ++ bits_of_bytes (drop 16 pack) =
    ap bits_of_bytes (sym (take-append-drop 16 pack)) ∙ bits_of_bytes-append (take 16 pack) (drop 16 pack) in
    let check : bits_of_bytes (drop 16 pack) ≡ check_bits (bits_of_bytes (take 16 pack)) =
    ap bits_of_bytes (last_two pack size)
    ∙ two_bytes (get_or pack 16 0) (get_or pack 17 0) low
    ∙ ap (bits_of 16) (sym same)
    ∙ bits_of-check_of (take 16 pack) in
    let all = length-bits_of_bytes pack in
    let at : length (bits_of_bytes pack) - 16 ≡ 128 = omega arith in
    let dropped : drop 128 (bits_of_bytes pack) ≡ bits_of_bytes (drop 16 pack) =
    ap (λ (xs : List Bool). drop 128 xs) parts
    ∙ drop_at (bits_of_bytes (take 16 pack)) (bits_of_bytes (drop 16 pack)) 128 (omega arith) in
    let kept : take 128 (bits_of_bytes pack) ≡ bits_of_bytes (take 16 pack) =
    ap (λ (xs : List Bool). take 128 xs) parts
    ∙ take_at (bits_of_bytes (take 16 pack)) (bits_of_bytes (drop 16 pack)) 128 (omega arith) in
    record {
      size = omega arith;
      check =
          subst (λ (k : ℕ). drop k (bits_of_bytes pack) ≡ check_bits (take k (bits_of_bytes pack))) (sym at)
          (dropped ∙ check ∙ ap check_bits (sym kept));
    }

pub noticed : (kept : List (Option (List ℕ))) (pack changed : List ℕ) (before one other after : List Bool)
    → IsPack pack → IsPack changed → check_matches pack ≡ true
    → bits_of_bytes pack ≡ before ++ one ++ after → bits_of_bytes changed ≡ before ++ other ++ after
    → length one ≤ 16 → length other ≡ length one → one ≢ other → offer_of kept changed ≡ BadCrc
noticed kept pack changed before one other after is was matches spelled spelled' small same differ =
    elim (cases_Bool (check_matches changed)) [
      | inl still ↦
          absurd (differ (bursts_fail_the_check before one other after small same
          (subst IsChecked spelled (checked pack is matches))
          (subst IsChecked spelled' (checked changed was still))))
      | inr broken ↦ bad_offer kept changed broken
    ]
