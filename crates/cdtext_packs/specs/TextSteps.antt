-- The steps of the stage that reads the text packs of the lead-in.
use Rattle.bit_lists.specs.Counting.{counted}
use Rattle.std.specs.Prelude.{◌≡◌, ℕ, ◌-◌, not, List, count_by, ◌==◌, if◌then◌else◌}
use Rattle.cdtext_packs.specs.Packs.{check_matches, is_good, is_of_other_block}
use Rattle.cdtext_packs.specs.Kept.{nothing_kept, offer_of, kept_by, kept_among}
use Rattle.cdtext_packs.specs.LeadIn.{pack_at}
use Rattle.cdtext_packs.specs.declared.kinds.Offer.{Offer}
use Rattle.cdtext_packs.specs.declared.kinds.Offer.TheVariants.{Kept, Again, BadCrc, OtherBlock}
use Rattle.cdtext_packs.specs.declared.lead_in_texts.LeadInTexts.{LeadInTexts}

-- the state before the first block
abbrev pub fresh_texts : ℕ → LeadInTexts
fresh_texts lead_in = record { left = lead_in; reader = nothing_kept; good = 0; bad = 0; other = 0 }

-- the state after an offer with this result
abbrev pub answered : Offer → LeadInTexts → List ℕ → LeadInTexts
answered Kept s pack = record s { reader = kept_by Kept s.reader pack; good = counted s.good }
answered Again s pack = record s { good = counted s.good }
answered BadCrc s pack = record s { bad = counted s.bad }
answered OtherBlock s pack = record s { other = counted s.other }

-- the state after a pack was offered
unfoldable pub offered : LeadInTexts → List ℕ → LeadInTexts
offered s pack = answered (offer_of s.reader pack) s pack

-- the state after a block: if it is a block of the lead-in, its four packs are offered
unfoldable pub text_next : LeadInTexts → List ℕ → LeadInTexts
text_next s block =
    if s.left == 0 then s
    else offered (offered (offered (offered (record s { left = s.left - 1 }) (pack_at block 0))
    (pack_at block 1)) (pack_at block 2)) (pack_at block 3)

-- The packs were offered one after another to a reader without packs, and were counted.
pub record HasRead (packs : List (List ℕ)) (s : LeadInTexts) : Type 0 where
  pub kept : s.reader ≡ kept_among packs
  pub good : s.good ≡ count_by is_good packs
  pub bad : s.bad ≡ count_by (λ pack. not (check_matches pack)) packs
  pub other : s.other ≡ count_by is_of_other_block packs
