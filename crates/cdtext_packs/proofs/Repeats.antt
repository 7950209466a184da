-- Packs that are offered again.
use Rattle.std.proofs.Common.{◌≡◌, ℕ, zero, suc, true, List, get_or, replicate, refl, sym, ap, ◌∙◌, Some, None}
use Rattle.std.specs.Prelude.{Bool, not, is_some, if◌then◌else◌}
use Rattle.std.specs.declared.option.Option.{Option}
use Rattle.std.proofs.lemmas.Bool.{and_parts}
use Rattle.std.proofs.lemmas.Option.{none-some}
use Rattle.cdtext_packs.specs.Kept.{AreGood, with_number, offer_of}
use Rattle.cdtext_packs.specs.Packs.{pack_number, check_matches, is_first_block}
use Rattle.cdtext_packs.specs.declared.kinds.Offer.{Offer}
use Rattle.cdtext_packs.specs.declared.kinds.Offer.TheVariants.{Kept, Again, BadCrc, OtherBlock}

abbrev answer : Bool → Bool → Bool → Offer
answer matches first kept =
    if not matches then BadCrc else (if not first then OtherBlock else (if kept then Again else Kept))

-- offering a kept pack again has the answer `Again`
pub offered_again : (kept : List (Option (List ℕ))) (pack : List ℕ) → AreGood kept
    → with_number kept (pack_number pack) ≡ Some pack → offer_of kept pack ≡ Again
offered_again kept pack good is =
    let parts = and_parts (check_matches pack) (is_first_block pack) (good (pack_number pack) pack is) in
    let there : is_some (with_number kept (pack_number pack)) ≡ true =
    ap (λ (o : Option (List ℕ)). is_some o) is in
    ap (λ b. answer b (is_first_block pack) (is_some (with_number kept (pack_number pack)))) parts.0
    ∙ ap (λ b. answer true b (is_some (with_number kept (pack_number pack)))) parts.1
    ∙ ap (λ b. answer true true b) there

-- a list without kept packs has none at any number
none_at : (count n : ℕ) → get_or (replicate {A = Option (List ℕ)} count None) n None ≡ None
none_at zero n = refl
none_at (suc count) zero = refl
none_at (suc count) (suc n) = none_at count n

pub nothing_is_good : (count : ℕ) → AreGood (replicate count None)
nothing_is_good count n pack is = absurd (none-some pack (sym (none_at count n) ∙ is))
