-- The codewords on which pairs of readings agree, pair by pair.
use Rattle.std.proofs.Common.{◌≡◌, ◌≢◌, ◌⊎◌, ℕ, ◌+◌, ◌<◌, List, length, refl, sym, ◌∙◌, inl, inr, subst₂, arith}
use Rattle.std.proofs.lemmas.Bool.{cases_eq}
use Rattle.rw_mend.specs.Choice.{IsAgreedAlone, IsPairAgreed}
use Rattle.rw_mend.specs.Agreements.{ArePairAgreements, DiffersSomewhere, IsAloneBefore, IsEarlier}
use Rattle.rw_mend.specs.declared.agreements.Agreements.{Agreements}
use Rattle.rw_mend.specs.declared.agreements.Agreements.TheVariants.{Nothing, Alone, Several}
use Rattle.rw_mend.specs.declared.candidates.Candidate.{Candidate}

moved : (candidates : List Candidate) (i j one other : ℕ) (codeword : List ℕ) → i ≡ one → j ≡ other
    → IsPairAgreed candidates i j codeword
    → IsPairAgreed candidates one other codeword
moved candidates i j one other codeword is is' agreed =
    subst₂ (λ (a b : ℕ). IsPairAgreed candidates a b codeword) is is' agreed

-- a pair before the next pair is before this one, or equal to it
earlier : (one other i j : ℕ) → IsEarlier (one + 1) other i j
    → IsEarlier one other i j ⊎ ((i ≡ one) × (j ≡ other))
earlier one other i j (inl lt) = inl (inl lt)
earlier one other i j (inr (same, lt)) =
    elim (cases_eq i one) [
      | inl is ↦ inr (is, same)
      | inr differs ↦ inl (inr (same, omega (arith, differs)))
    ]

-- the pair does not agree on a codeword
pub none_more : (candidates : List Candidate) (one other : ℕ) (found : Agreements)
    → ((codeword : List ℕ) → ¬ IsPairAgreed candidates one other codeword)
    → ArePairAgreements candidates one other found → ArePairAgreements candidates (one + 1) other found
none_more candidates one other Nothing none are =
    λ i j codeword before agreed.
    elim (earlier one other i j before) [
      | inl sooner ↦ are i j codeword sooner agreed
      | inr same ↦ none codeword (moved candidates i j one other codeword same.0 same.1 agreed)
    ]
none_more candidates one other (Alone pack) none are = record {
  first = are.first;
  second = are.second;
  is = are.is;
  alone =
      λ i j another before agreed.
      elim (earlier one other i j before) [
        | inl sooner ↦ are.alone i j another sooner agreed
        | inr same ↦ absurd (none another (moved candidates i j one other another same.0 same.1 agreed))
      ];
}
none_more candidates one other Several none are = are

-- the pair is the first that agrees on a codeword
pub first_more : (candidates : List Candidate) (one other : ℕ) (pack : List ℕ)
    → IsPairAgreed candidates one other pack
    → ((another : List ℕ) → IsPairAgreed candidates one other another → another ≡ pack)
    → ArePairAgreements candidates one other Nothing → IsAloneBefore candidates (one + 1) other pack
first_more candidates one other pack is only none = record {
  first = one;
  second = other;
  is = is;
  alone =
      λ i j another before agreed.
      elim (earlier one other i j before) [
        | inl sooner ↦ absurd (none i j another sooner agreed)
        | inr same ↦ only another (moved candidates i j one other another same.0 same.1 agreed)
      ];
}

-- the pair agrees on the same codeword
pub same_more : (candidates : List Candidate) (one other : ℕ) (pack own : List ℕ)
    → ((another : List ℕ) → IsPairAgreed candidates one other another → another ≡ pack) → own ≡ pack
    → IsAloneBefore candidates one other own → IsAloneBefore candidates (one + 1) other own
same_more candidates one other pack own only same_pack are = record {
  first = are.first;
  second = are.second;
  is = are.is;
  alone =
      λ i j another before agreed.
      elim (earlier one other i j before) [
        | inl sooner ↦ are.alone i j another sooner agreed
        | inr same ↦
            only another (moved candidates i j one other another same.0 same.1 agreed) ∙ sym same_pack
      ];
}

-- the pair agrees on another codeword
pub other_more : (candidates : List Candidate) (one other : ℕ) (pack own : List ℕ)
    → IsPairAgreed candidates one other pack
    → own ≢ pack → IsAloneBefore candidates one other own → DiffersSomewhere candidates
other_more candidates one other pack own is differ are = record {
  i = are.first;
  j = are.second;
  one = own;
  one_is = are.is;
  k = one;
  l = other;
  other = pack;
  other_is = is;
  differ = differ;
}

-- all pairs with this first reading have been compared
later : (j i k : ℕ) → i < k → IsEarlier 0 (j + 1) i k → IsEarlier j j i k
later j i k lt (inl less) =
    elim (cases_eq k j) [
      | inl same ↦ inr (same, omega (arith, same, lt))
      | inr differs ↦ inl (omega (arith, differs, less))
    ]
later j i k lt (inr (same, none)) = absurd (omega (arith, none))

pub row_done : (candidates : List Candidate) (j : ℕ) (found : Agreements)
    → ArePairAgreements candidates j j found
    → ArePairAgreements candidates 0 (j + 1) found
row_done candidates j Nothing are =
    λ i k codeword before agreed. are i k codeword (later j i k agreed.before before) agreed
row_done candidates j (Alone pack) are = record {
  first = are.first;
  second = are.second;
  is = are.is;
  alone = λ i k another before agreed. are.alone i k another (later j i k agreed.before before) agreed;
}
row_done candidates j Several are = are

pub nothing_before : (candidates : List Candidate) → ArePairAgreements candidates 0 0 Nothing
nothing_before candidates i j codeword (inl lt) agreed = omega (arith, lt)
nothing_before candidates i j codeword (inr (same, lt)) agreed = omega (arith, lt)

-- all pairs have been compared
pub alone_is : (candidates : List Candidate) (pack : List ℕ)
    → ArePairAgreements candidates 0 (length candidates) (Alone pack)
    → IsAgreedAlone candidates pack
alone_is candidates pack are = record {
  one = are.first;
  other = are.second;
  agreed = are.is;
  alone = λ i j another agreed. are.alone i j another (inl agreed.within) agreed;
}

pub not_alone : (candidates : List Candidate) (found : Agreements)
    → ArePairAgreements candidates 0 (length candidates) found
    → ((pack : List ℕ) → found ≢ Alone pack) → (codeword : List ℕ) → ¬ IsAgreedAlone candidates codeword
not_alone candidates Nothing are other codeword is =
    are is.one is.other codeword (inl is.agreed.within) is.agreed
not_alone candidates (Alone pack) are other codeword is = other pack refl
not_alone candidates Several are other codeword is =
    are.differ (is.alone are.i are.j are.one are.one_is ∙ sym (is.alone are.k are.l are.other are.other_is))
