-- Two readings in the other order: a word of the first reading becomes one of the second, and the other way round.
use Rattle.std.proofs.Common.{◌≡◌, ◌⊎◌, ◌==◌, ℕ, zero, suc, ◌+◌, ◌-◌, ◌/◌, ◌<◌, Bool, true, false, List, [], ◌∷◌, length, get_or, map, refl, sym, ap, ap₂, ◌∙◌, subst, subst₂, inl, inr, arith, Some, None}
use Rattle.std.specs.Prelude.{IsPermutation, count_by, if◌then◌else◌, is_none}
use Rattle.std.specs.declared.option.Option.{Option}
use Rattle.std.proofs.lemmas.Bool.{false≢true}
use Rattle.std.proofs.lemmas.List.{ext_get_or, get_or-map, length-map}
use Rattle.std.proofs.lemmas.List.Sorted.{IsPermutation-swap}
use Rattle.std.proofs.lemmas.List.Sums.{sum_by-cons}
use Rattle.rw_interleave.specs.Interleave.{whole_packs}
use Rattle.rw_interleave.proofs.Recovery.{differences-same}
use Rattle.rw_mend.specs.Choice.{IsMending, is_of, candidate_of_reading, votes}
use Rattle.rw_mend.specs.Drops.{AreCandidates}
use Rattle.rw_mend.specs.Laws.{AreExchanged}
use Rattle.rw_mend.specs.Streams.{AreMended, IsMendedInto, is_mended_by, is_way, mended_text, way_by, way_of, ways_of}
use Rattle.rw_mend.specs.Words.{program_of}
use Rattle.rw_mend.specs.declared.choice.Mended.{Mended}
use Rattle.rw_mend.specs.declared.choice.WordSource.{WordSource}
use Rattle.rw_mend.specs.declared.choice.WordSource.TheVariants.{Reading, Agreed}
use Rattle.rw_mend.specs.declared.streams.MendCounts.{MendCounts}
use Rattle.rw_mend.specs.declared.candidates.Candidate.{Candidate}
use Rattle.rw_mend.specs.declared.candidates.Candidate.TheVariants.{Near}
use Rattle.rw_mend.specs.declared.ways.Way.{Way}
use Rattle.rw_mend.specs.declared.ways.Way.TheVariants.{Both, First, Second, Together}
use Rattle.rw_mend.proofs.Clean.{pack_of}
use Rattle.rw_mend.proofs.Converted.{ways_at}
use Rattle.rw_mend.proofs.Damaged.{written}
use Rattle.rw_mend.proofs.Reordered.{AreCodewords, AreSameCandidates, IsSameWord, count_mapped, reordered_text, said_codewords, same_word, says, says_same, candidates_are, votes_same}
use Rattle.rw_mend.proofs.Running.{ways_length}

-- ---- The source of a word.

abbrev turned_way : Way → Way
turned_way Both = Both
turned_way First = Second
turned_way Second = First
turned_way Together = Together

abbrev turned : Option Way → Option Way
turned (Some way) = Some (turned_way way)
turned None = None

way_turned : (way own : Way) → is_way (turned_way way) (turned_way own) ≡ is_way way own
way_turned Both Both = refl
way_turned Both First = refl
way_turned Both Second = refl
way_turned Both Together = refl
way_turned First Both = refl
way_turned First First = refl
way_turned First Second = refl
way_turned First Together = refl
way_turned Second Both = refl
way_turned Second First = refl
way_turned Second Second = refl
way_turned Second Together = refl
way_turned Together Both = refl
way_turned Together First = refl
way_turned Together Second = refl
way_turned Together Together = refl

mended_turned : (way : Way) (own : Option Way)
    → is_mended_by (turned_way way) (turned own) ≡ is_mended_by way own
mended_turned way (Some own) = way_turned way own
mended_turned way None = refl

none_turned : (own : Option Way) → is_none (turned own) ≡ is_none own
none_turned (Some own) = refl
none_turned None = refl

-- ---- A word of two readings.

abbrev IsOther : ℕ → ℕ → Type 0
IsOther r k = ((r ≡ 0) × (k ≡ 1)) ⊎ ((r ≡ 1) × (k ≡ 0))

abbrev way_if : Bool → ℕ → Way
way_if two r = if two then Both else (if r == 0 then First else Second)

if_turned : (two : Bool) (r k : ℕ) → (two ≡ false → IsOther r k) → way_if two k ≡ turned_way (way_if two r)
if_turned true r k other = refl
if_turned false r k other =
    elim (other refl) [
      | inl (first, second) ↦
          subst₂ (λ (x y : ℕ). way_if false y ≡ turned_way (way_if false x)) (sym first) (sym second) refl
      | inr (second, first) ↦
          subst₂ (λ (x y : ℕ). way_if false y ≡ turned_way (way_if false x)) (sym second) (sym first) refl
    ]

two_votes : (pack : List ℕ) (d e : ℕ) → votes (Near pack d ∷ Near pack e ∷ []) pack ≡ 2
two_votes pack d e =
    let own : (n : ℕ) → (if is_of pack (Near pack n) then 1 else 0) ≡ 1 =
    λ (n : ℕ). ap (λ m. if m == 0 then 1 else 0) (differences-same pack) in
    let f : Candidate → ℕ = λ (candidate : Candidate). if is_of pack candidate then 1 else 0 in
    sum_by-cons f (Near pack d) (Near pack e ∷ [])
    ∙ ap₂ (λ a b. a + b) (own d) (sum_by-cons f (Near pack e) [] ∙ ap (λ a. a + 0) (own e))

both_votes : (a b : Candidate) (pack : List ℕ) (d : ℕ) → a ≡ Near pack d → b ≡ Near pack d
    → votes (a ∷ b ∷ []) pack ≡ 2
both_votes a b pack d one other =
    subst₂ (λ (x y : Candidate). votes (x ∷ y ∷ []) pack ≡ 2) (sym one) (sym other) (two_votes pack d d)

two_is : (n : ℕ) → n ≡ 2 → (n == 2) ≡ true
two_is n is = ap (λ m. m == 2) is

other_of : (a b : Candidate) (r k : ℕ) (pack : List ℕ) (d : ℕ) → r < 2 → k < 2
    → candidate_of_reading (a ∷ b ∷ []) r ≡ Near pack d → candidate_of_reading (b ∷ a ∷ []) k ≡ Near pack d
    → (votes (a ∷ b ∷ []) pack == 2) ≡ false → IsOther r k
other_of a b zero zero pack d lt lt' one other not =
    absurd (false≢true (sym not ∙ two_is (votes (a ∷ b ∷ []) pack) (both_votes a b pack d one other)))
other_of a b zero (suc zero) pack d lt lt' one other not = inl (refl, refl)
other_of a b (suc zero) zero pack d lt lt' one other not = inr (refl, refl)
other_of a b (suc zero) (suc zero) pack d lt lt' one other not =
    absurd (false≢true (sym not ∙ two_is (votes (a ∷ b ∷ []) pack) (both_votes a b pack d other one)))
other_of a b zero (suc (suc k)) pack d lt lt' one other not = absurd (omega (arith, lt'))
other_of a b (suc zero) (suc (suc k)) pack d lt lt' one other not = absurd (omega (arith, lt'))
other_of a b (suc (suc r)) k pack d lt lt' one other not = absurd (omega (arith, lt))

exchange : {X : Type 0} (a b : X) → IsPermutation (a ∷ b ∷ []) (b ∷ a ∷ [])
exchange a b = IsPermutation-swap (a ∷ b ∷ []) (b ∷ a ∷ []) 0 1 (omega arith) (omega arith) refl

source_turned : (a b : Candidate) (source source' : WordSource) (pack pack' : List ℕ) → pack ≡ pack'
    → IsMending (a ∷ b ∷ []) (Some (record { pack = pack; source = source }))
    → AreSameCandidates (a ∷ b ∷ []) (b ∷ a ∷ []) source source'
    → way_by source' (b ∷ a ∷ []) pack' ≡ turned_way (way_by source (a ∷ b ∷ []) pack)
source_turned a b (Reading r) (Reading k) pack pack' equal by same =
    let vs : List Candidate = a ∷ b ∷ [] in
    let ws : List Candidate = b ∷ a ∷ [] in
    let own : same.pack ≡ pack =
    pack_of (candidate_of_reading vs r) same.pack pack same.distance same.one by.1 in
    let count : votes ws pack' ≡ votes vs pack =
    sym (votes_same vs ws pack (exchange a b) ∙ ap (votes ws) equal) in
    ap (λ (n : ℕ). way_if (n == 2) k) count
    ∙ if_turned (votes vs pack == 2) r k (λ not.
    other_of a b r k pack same.distance same.within same.within'
    (same.one ∙ ap (λ p. Near p same.distance) own) (same.other ∙ ap (λ p. Near p same.distance) own) not)
source_turned a b (Reading r) Agreed pack pack' equal by same = absurd same
source_turned a b Agreed (Reading k) pack pack' equal by same = absurd same
source_turned a b Agreed Agreed pack pack' equal by same = refl

word_turned : (a b : Candidate) (found found' : Option Mended) → IsMending (a ∷ b ∷ []) found
    → IsSameWord (a ∷ b ∷ []) (b ∷ a ∷ []) found found'
    → way_of (b ∷ a ∷ []) found' ≡ turned (way_of (a ∷ b ∷ []) found)
word_turned a b None None is same = refl
word_turned a b None (Some mended) is same = absurd same
word_turned a b (Some mended) None is same = absurd same
word_turned a b (Some one) (Some other) is same =
    ap Some (source_turned a b one.source other.source one.pack other.pack same.0 is same.1)

-- ---- All words of two readings.

said_turned : (words : ℕ) (p q : List ℕ) (n : ℕ) (vs ws : List Candidate) (found found' : Option Mended)
    → AreCandidates words (p ∷ q ∷ []) n vs → AreCandidates words (q ∷ p ∷ []) n ws → IsMending vs found
    → IsMending ws found' → way_of ws found' ≡ turned (way_of vs found)
said_turned words p q n vs ws found found' are are' is is' =
    let programs : List (List ℕ) = p ∷ q ∷ [] in
    let others : List (List ℕ) = q ∷ p ∷ [] in
    let a : Candidate = says words programs n p in
    let b : Candidate = says words programs n q in
    let moved : IsPermutation programs others = exchange p q in
    let one : vs ≡ a ∷ b ∷ [] = candidates_are words programs n vs are in
    let other : ws ≡ b ∷ a ∷ [] =
    candidates_are words others n ws are'
    ∙ ap₂ (λ (x y : Candidate). x ∷ y ∷ []) (says_same words programs others n moved q)
    (says_same words programs others n moved p) in
    let mending : IsMending (a ∷ b ∷ []) found = subst (λ l. IsMending l found) one is in
    let mending' : IsMending (b ∷ a ∷ []) found' = subst (λ l. IsMending l found') other is' in
    let codewords : AreCodewords (a ∷ b ∷ []) =
    subst AreCodewords one (said_codewords words programs n vs are) in
    let codewords' : AreCodewords (b ∷ a ∷ []) =
    subst AreCodewords other (said_codewords words others n ws are') in
    subst₂ (λ (v w : List Candidate). way_of w found' ≡ turned (way_of v found)) (sym one) (sym other)
    (word_turned a b found found' mending
    (same_word (a ∷ b ∷ []) (b ∷ a ∷ []) found found' (exchange a b) codewords codewords' mending mending'))

-- if corresponding elements pass two tests alike, the counts are equal
count_placed : {X : Type 0} (p q : X → Bool) (xs ys : List X) (d : X) → length xs ≡ length ys
    → ((n : ℕ) → n < length ys → p (get_or xs n d) ≡ q (get_or ys n d)) → count_by p xs ≡ count_by q ys
count_placed p q xs ys d size each =
    count_mapped p xs
    ∙ ap (λ bs. count_by (λ (b : Bool). b) bs)
    (ext_get_or false (map p xs) (map q ys) (length-map xs p ∙ size ∙ sym (length-map ys q)) (λ n lt.
    let within : n < length ys = omega (arith, lt, length-map xs p, size) in
    get_or-map p xs n d false (omega (arith, within, size))
    ∙ each n within
    ∙ sym (get_or-map q ys n d false within)))
    ∙ sym (count_mapped q ys)

pub exchanged_two : (lead_in : ℕ) (first second old new old' new' : List ℕ) (counts counts' : MendCounts)
    → length second ≡ length first → IsMendedInto lead_in first second old new counts
    → IsMendedInto lead_in second first old' new' counts' → AreExchanged counts counts'
exchanged_two lead_in first second old new old' new' counts counts' same done done' =
    let words : ℕ = whole_packs (length first / 96 - lead_in) in
    let p : List ℕ = program_of lead_in first in
    let q : List ℕ = program_of lead_in second in
    let mended' : AreMended words (q ∷ p ∷ []) done'.said done'.found =
    subst (λ n. AreMended (whole_packs (n / 96 - lead_in)) (q ∷ p ∷ []) done'.said done'.found) same
    done'.mended in
    let xs : List (Option Way) = ways_of done.said done.found in
    let ys : List (Option Way) = ways_of done'.said done'.found in
    let size : length xs ≡ words =
    ways_length done.said done.found (done.mended.said_count ∙ sym done.mended.count) ∙ done.mended.count in
    let size' : length ys ≡ words =
    ways_length done'.said done'.found (mended'.said_count ∙ sym mended'.count) ∙ mended'.count in
    let each : (n : ℕ) → n < length xs → get_or ys n None ≡ turned (get_or xs n None) =
    λ (n : ℕ) (lt : n < length xs).
    let within : n < words = omega (arith, lt, size) in
    (ways_at done'.said done'.found n (omega (arith, within, mended'.said_count))
    (omega (arith, within, mended'.count))).1
    ∙ said_turned words p q n (get_or done.said n []) (get_or done'.said n []) (get_or done.found n None)
    (get_or done'.found n None) (done.mended.candidates n within) (mended'.candidates n within)
    (done.mended.each n within) (mended'.each n within)
    ∙ ap turned (sym (ways_at done.said done.found n (omega (arith, within, done.mended.said_count))
    (omega (arith, within, done.mended.count))).1) in
    let by_way : (way : Way) → count_by (is_mended_by (turned_way way)) ys ≡ count_by (is_mended_by way) xs =
    λ (way : Way).
    count_placed (is_mended_by (turned_way way)) (is_mended_by way) ys xs None (size' ∙ sym size) (λ n lt.
    ap (is_mended_by (turned_way way)) (each n lt) ∙ mended_turned way (get_or xs n None)) in
    record {
      both = done'.counts_are.both ∙ by_way Both ∙ sym done.counts_are.both;
      of_first = done'.counts_are.of_first ∙ by_way Second ∙ sym done.counts_are.of_second;
      of_second = done'.counts_are.of_second ∙ by_way First ∙ sym done.counts_are.of_first;
      agreed = done'.counts_are.agreed ∙ by_way Together ∙ sym done.counts_are.agreed;
      none = done'.counts_are.none
          ∙ count_placed is_none is_none ys xs None (size' ∙ sym size)
          (λ n lt. ap is_none (each n lt) ∙ none_turned (get_or xs n None))
          ∙ sym done.counts_are.none;
    }

-- the output of the calls is the same
pub same_two : (lead_in : ℕ) (first second old new new' : List ℕ) (counts counts' : MendCounts)
    → length second ≡ length first → IsMendedInto lead_in first second old new counts
    → IsMendedInto lead_in second first old new' counts' → new' ≡ new
same_two lead_in first second old new new' counts counts' same done done' =
    let words : ℕ = whole_packs (length first / 96 - lead_in) in
    let p : List ℕ = program_of lead_in first in
    let q : List ℕ = program_of lead_in second in
    let mended' : AreMended words (q ∷ p ∷ []) done'.said done'.found =
    subst (λ n. AreMended (whole_packs (n / 96 - lead_in)) (q ∷ p ∷ []) done'.said done'.found) same
    done'.mended in
    let text : mended_text done'.found ≡ mended_text done.found =
    sym (reordered_text words (p ∷ q ∷ []) (q ∷ p ∷ []) done.said done'.said done.found done'.found
    (exchange p q) done.mended mended') in
    written (mended_text done'.found) (mended_text done.found) new' old text done'.text ∙ sym done.text
