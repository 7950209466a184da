-- The reports on the words of readings, word by word.
use Rattle.std.proofs.Common.{◌≡◌, ◌≢◌, ◌==◌, ℕ, ◌+◌, ◌<◌, ◌≤◌, Bool, true, false, List, [], ◌∷◌, ◌++◌, length, map, get_or, take, drop, replicate, sym, ap, ap₂, ◌∙◌, inl, inr, arith, length-append}
use Rattle.std.specs.Prelude.{IfSome, Some, None}
use Rattle.std.proofs.lemmas.List.Sums.{count_by-le-length}
use Rattle.std.specs.declared.option.Option.{Option}
use Rattle.std.proofs.Math.ListN.{length-set, set}
use Rattle.std.proofs.lemmas.Bool.{cases_eq}
use Rattle.std.proofs.lemmas.Bool.Decides.{eqb_tells}
use Rattle.std.proofs.lemmas.List.{append_assoc, get_or-replicate, get_or-set_other, get_or-set_same, length-map, map-append, take-append-le, take_all}
use Rattle.std.proofs.lemmas.Slice.{drop-append-drop}
use Rattle.rw_mend.specs.Steps.{CountsWords}
use Rattle.rw_mend.specs.Choice.{IsMendedBy, IsMending}
use Rattle.rw_mend.specs.Tallies.{AreTallies, HasSource, source_byte}
use Rattle.rw_mend.specs.declared.choice.WordSource.{WordSource}
use Rattle.rw_mend.specs.declared.choice.WordSource.TheVariants.{Reading, Agreed}
use Rattle.rw_mend.specs.declared.choice.Mended.{Mended}
use Rattle.rw_mend.specs.declared.tallies.Tallies.{Tallies}
use Rattle.rw_mend.specs.declared.candidates.Candidate.{Candidate}
use Rattle.rw_mend.proofs.Counting.{count_no, count_yes}

test_yes : (a b : ℕ) → a ≡ b → (a == b) ≡ true
test_yes a b same =
    elim (eqb_tells a b) [ inl is ↦ is.0 | inr other ↦ absurd (other.1 same) ]

test_no : (a b : ℕ) → a ≢ b → (a == b) ≡ false
test_no a b differ =
    elim (eqb_tells a b) [ inl is ↦ absurd (differ is.1) | inr other ↦ other.0 ]

pub tally_reading : (all : List (Option Mended)) (f : Option Mended) (old new : Tallies) (r : ℕ) → r < 254
    → source_byte f ≡ r → new.of_reading ≡ set old.of_reading r (get_or old.of_reading r 0 + 1)
    → new.agreed ≡ old.agreed → new.none ≡ old.none → new.reserved ≡ old.reserved → AreTallies all old
    → AreTallies (all ++ f ∷ []) new
tally_reading all f old new r within is reading agreed none reserved was = record {
  of_reading =
      λ k lt.
      let test : Option Mended → Bool = λ (g : Option Mended). source_byte g == k in
      elim (cases_eq k r) [
        | inl same ↦
            ap (λ l. get_or l k 0) reading
            ∙ ap (λ j. get_or (set old.of_reading r (get_or old.of_reading r 0 + 1)) j 0) same
            ∙ get_or-set_same old.of_reading r (get_or old.of_reading r 0 + 1) 0
            (omega (arith, within, was.kept))
            ∙ ap (λ j. get_or old.of_reading j 0 + 1) (sym same)
            ∙ ap (λ n. n + 1) (was.of_reading k lt)
            ∙ sym (count_yes test all f (test_yes (source_byte f) k (is ∙ sym same)))
        | inr differs ↦
            ap (λ l. get_or l k 0) reading
            ∙ get_or-set_other old.of_reading r k (get_or old.of_reading r 0 + 1) 0 differs
            ∙ was.of_reading k lt
            ∙ sym (count_no test all f (test_no (source_byte f) k (λ e. differs (sym e ∙ is))))
      ];
  agreed =
      agreed ∙ was.agreed
      ∙ sym (count_no (λ (g : Option Mended). source_byte g == 254) all f
      (test_no (source_byte f) 254 (λ e. omega (arith, e, is, within))));
  none =
      none ∙ was.none
      ∙ sym (count_no (λ (g : Option Mended). source_byte g == 255) all f
      (test_no (source_byte f) 255 (λ e. omega (arith, e, is, within))));
  reserved = reserved ∙ was.reserved;
  kept = ap length reading ∙ length-set old.of_reading r (get_or old.of_reading r 0 + 1) ∙ was.kept;
}

joined : (text : List ℕ) (byte : ℕ) (rest : List ℕ) → text ++ byte ∷ rest ≡ text ++ byte ∷ [] ++ rest
joined text byte rest = sym (append_assoc text (byte ∷ []) rest)

pub reported_more : (before : List ℕ) (words n : ℕ) (sources new : List ℕ) (old more : Tallies)
    (candidates : List Candidate) (f : Option Mended) → n < words
    → length new ≡ length sources
    → (n < length sources → new ≡ take n sources ++ source_byte f ∷ drop (n + 1) sources)
    → ((all : List (Option Mended)) → AreTallies all old → AreTallies (all ++ f ∷ []) more)
    → (said : List (List Candidate)) (found : List (Option Mended)) → length said ≡ n → length found ≡ n
    → CountsWords before words sources old said found
    → CountsWords before words new more (said ++ candidates ∷ []) (found ++ f ∷ [])
reported_more before words n sources new old more candidates f lt same put counted said found said_size size
    was = record {
      tallies_are = counted found was.tallies_are;
      size = same ∙ was.size;
      put =
          λ room.
          let text : List ℕ = map source_byte found in
          let text_size : length text ≡ n = length-map found source_byte ∙ size in
          let is : sources ≡ text ++ drop n before =
          was.put room ∙ ap (λ m. text ++ drop m before) size in
          let front : take n sources ≡ text =
          ap (take n) is ∙ take-append-le n text (drop n before) (omega (arith, text_size))
          ∙ take_all n text (omega (arith, text_size)) in
          let back : drop (n + 1) sources ≡ drop (n + 1) before =
          ap (drop (n + 1)) is ∙ drop-append-drop n before text (n + 1) (omega arith) text_size in
          put (omega (arith, lt, room, was.size))
          ∙ ap₂ (λ (a b : List ℕ). a ++ source_byte f ∷ b) front back
          ∙ joined text (source_byte f) (drop (n + 1) before)
          ∙ ap₂ (λ (a b : List ℕ). a ++ b) (sym (map-append source_byte found (f ∷ [])))
          (ap (λ m. drop m before) (sym (length-append found (f ∷ []) ∙ omega (arith, size))));
    }

-- no tally is higher than the number of words
pub tally_few : (before : List ℕ) (words n : ℕ) (sources : List ℕ) (tallies : Tallies)
    (said : List (List Candidate))
    (found : List (Option Mended)) → length found ≡ n → CountsWords before words sources tallies said found
    → (tallies.agreed ≤ n) × (tallies.none ≤ n) × ((r : ℕ) → r < 254 → get_or tallies.of_reading r 0 ≤ n)
tally_few before words n sources tallies said found size reported =
    let are = reported.tallies_are in (
      omega (arith, size, are.agreed, count_by-le-length (λ (g : Option Mended). source_byte g == 254) found),
      omega (arith, size, are.none, count_by-le-length (λ (g : Option Mended). source_byte g == 255) found),
      λ r lt.
          omega (
            arith,
            size,
            are.of_reading r lt,
            count_by-le-length (λ (g : Option Mended). source_byte g == r) found,
          ),
    )

pub no_tallies : (counts : Tallies) → counts.agreed ≡ 0 → counts.none ≡ 0 → counts.reserved ≡ 0
    → counts.of_reading ≡ replicate 254 0 → AreTallies [] counts
no_tallies counts agreed none reserved reading = record {
  of_reading = λ r lt. ap (λ l. get_or l r 0) reading ∙ get_or-replicate 254 r 0 0 lt;
  agreed = agreed;
  none = none;
  reserved = reserved;
  kept = ap length reading;
}

-- the tallies do not depend on the counts of dropped packs
pub with_dropped : (found : List (Option Mended)) (old new : Tallies) → new.agreed ≡ old.agreed
    → new.none ≡ old.none → new.reserved ≡ old.reserved → new.of_reading ≡ old.of_reading
    → AreTallies found old → AreTallies found new
with_dropped found old new agreed none reserved reading are = record {
  of_reading = λ r lt. ap (λ l. get_or l r 0) reading ∙ are.of_reading r lt;
  agreed = agreed ∙ are.agreed;
  none = none ∙ are.none;
  reserved = reserved ∙ are.reserved;
  kept = ap length reading ∙ are.kept;
}

source_of : (candidates : List Candidate) (source : WordSource) (codeword : List ℕ) → length candidates ≤ 254
    → IsMendedBy source candidates codeword → HasSource source
source_of candidates (Reading r) codeword few is = omega (arith, is.0.within, few)
source_of candidates Agreed codeword few is = tt

-- the source of a mended word can be counted
pub has_source : (candidates : List Candidate) (found : Option Mended) → length candidates ≤ 254
    → IsMending candidates found
    → IfSome found (λ mended. HasSource mended.source)
has_source candidates None few is = tt
has_source candidates (Some mended) few is = source_of candidates mended.source mended.pack few is
