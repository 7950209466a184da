-- The packs that a reader keeps: place n of 256 has the kept pack with the number n.
use Rattle.std.specs.Prelude.{◌≡◌, ℕ, true, not, ◌&&◌, List, map, find, replicate, set, slice_index_or, Option, Some, None, is_some, ◌==◌, if◌then◌else◌}
use Rattle.bit_lists.specs.Counting.{below}
use Rattle.cdtext_packs.specs.Packs.{most_text_packs, pack_number, check_matches, is_first_block, is_good}
use Rattle.cdtext_packs.specs.declared.kinds.Offer.{Offer}
use Rattle.cdtext_packs.specs.declared.kinds.Offer.TheVariants.{Kept, Again, BadCrc, OtherBlock}

-- no pack is kept
unfoldable pub nothing_kept : List (Option (List ℕ))
nothing_kept = replicate most_text_packs None

-- the kept pack with the number n, if any
abbrev pub with_number : List (Option (List ℕ)) → ℕ → Option (List ℕ)
with_number kept n = slice_index_or kept n None

-- Each kept pack is good.
abbrev pub AreGood : List (Option (List ℕ)) → Type 0
AreGood kept = (n : ℕ) (pack : List ℕ) → with_number kept n ≡ Some pack → is_good pack ≡ true

-- the result of offering a pack to a reader that keeps these packs
abbrev pub offer_of : List (Option (List ℕ)) → List ℕ → Offer
offer_of kept pack =
    if not (check_matches pack) then BadCrc
    else (if not (is_first_block pack) then OtherBlock
    else (if is_some (with_number kept (pack_number pack)) then Again
    else Kept))

-- the kept packs after an offer with this result: a pack that is kept is at the place of its number
abbrev pub kept_by : Offer → List (Option (List ℕ)) → List ℕ → List (Option (List ℕ))
kept_by Kept kept pack = set kept (pack_number pack) (Some pack)
kept_by Again kept pack = kept
kept_by BadCrc kept pack = kept
kept_by OtherBlock kept pack = kept

-- the packs that are kept from a list of offered packs: for each number, the first good pack with this number
abbrev pub kept_among : List (List ℕ) → List (Option (List ℕ))
kept_among packs =
    map (λ n. find (λ pack. is_good pack && pack_number pack == n) packs) (below most_text_packs)
