-- A mended word is a codeword, and its source is the number of a reading.
use Rattle.std.proofs.Common.{◌≡◌, ◌≢◌, ℕ, zero, suc, ◌+◌, ◌*◌, ◌<◌, ◌≤◌, List, [], ◌∷◌, ◌++◌, length, get_or, Some, None, refl, sym, ap, ◌∙◌, subst, inl, inr, arith}
use Rattle.std.specs.declared.option.Option.{Option}
use Rattle.std.proofs.lemmas.List.{get_or_append_left, get_or-append-add}
use Rattle.rw_code.specs.Codeword.{IsCodeword}
use Rattle.rw_mend.specs.Choice.{AreAgreed, IsMendedBy, IsMending, IsOf, candidate_of_reading}
use Rattle.rw_mend.specs.Drops.{AreCandidates, IsSaid}
use Rattle.rw_mend.specs.Streams.{AreMended, mended_bytes, mended_text}
use Rattle.rw_mend.specs.Tallies.{source_byte}
use Rattle.rw_mend.specs.declared.choice.Mended.{Mended}
use Rattle.rw_mend.specs.declared.choice.WordSource.{WordSource}
use Rattle.rw_mend.specs.declared.choice.WordSource.TheVariants.{Reading, Agreed}
use Rattle.rw_mend.specs.declared.candidates.Candidate.{Candidate}
use Rattle.rw_mend.specs.declared.candidates.Candidate.TheVariants.{Silent, Lost, Near}
use Rattle.rw_mend.proofs.Givens.{given_codeword}

-- a candidate that is a codeword is a `Near`
near_of : (candidate : Candidate) (codeword : List ℕ) → IsOf codeword candidate
    → (distance : ℕ) × (candidate ≡ Near codeword distance)
near_of Silent codeword is = absurd is
near_of (Lost word) codeword is = absurd is
near_of (Near pack distance) codeword is = (distance, ap (λ p. Near p distance) is)

said_codeword : (words : ℕ) (programs : List (List ℕ)) (n r : ℕ) (candidate : Candidate) (codeword : List ℕ)
    → IsSaid words programs n r candidate → IsOf codeword candidate → IsCodeword codeword
said_codeword words programs n r candidate codeword (inl (dropped, silent)) is =
    let near = near_of candidate codeword is in
    absurd (subst (IsOf codeword) silent is)
said_codeword words programs n r candidate codeword (inr (kept, given)) is =
    let near = near_of candidate codeword is in
    given_codeword programs r n codeword near.0 (sym given ∙ near.1)

agreed_codeword : (one other : Candidate) (codeword : List ℕ) → AreAgreed one other codeword
    → IsCodeword codeword
agreed_codeword Silent other codeword is = absurd is
agreed_codeword (Near pack distance) other codeword is = absurd is
agreed_codeword (Lost first) Silent codeword is = absurd is
agreed_codeword (Lost first) (Near pack distance) codeword is = absurd is
agreed_codeword (Lost first) (Lost second) codeword is = is.is_codeword

by_codeword : (words : ℕ) (programs : List (List ℕ)) (n : ℕ) (candidates : List Candidate)
    (source : WordSource)
    (codeword : List ℕ) → AreCandidates words programs n candidates → IsMendedBy source candidates codeword
    → IsCodeword codeword
by_codeword words programs n candidates (Reading r) codeword are by =
    said_codeword words programs n r (candidate_of_reading candidates r) codeword
    (are.each r (omega (arith, by.0.within, are.count))) by.1
by_codeword words programs n candidates Agreed codeword are by =
    agreed_codeword (candidate_of_reading candidates by.1.one) (candidate_of_reading candidates by.1.other)
    codeword
    by.1.agreed.agreed

-- the codeword of a word that is mended
pub own_codeword : (words : ℕ) (programs : List (List ℕ)) (said : List (List Candidate))
    (found : List (Option Mended)) (n : ℕ) (own : Mended) → AreMended words programs said found → n < words
    → get_or found n None ≡ Some own → IsCodeword own.pack
own_codeword words programs said found n own are within is =
    by_codeword words programs n (get_or said n []) own.source own.pack (are.candidates n within)
    (subst (IsMending (get_or said n [])) is (are.each n within))

source_of : (source : WordSource) (candidates : List Candidate) (codeword : List ℕ) (mended : Mended)
    → mended.source ≡ source → length candidates ≤ 254
    → IsMendedBy source candidates codeword → source_byte (Some mended) ≢ 255
source_of (Reading r) candidates codeword mended is few by same =
    let number : r ≡ 255 =
    sym (ap (λ s. source_byte (Some (record { pack = mended.pack; source = s }))) is) ∙ same in
    omega (arith, number, by.0.within, few)
source_of Agreed candidates codeword mended is few by same =
    let number : 254 ≡ 255 =
    sym (ap (λ s. source_byte (Some (record { pack = mended.pack; source = s }))) is) ∙ same in
    omega (arith, number)

-- and its source is the number of a reading
pub own_source : (words : ℕ) (programs : List (List ℕ)) (said : List (List Candidate))
    (found : List (Option Mended)) (n : ℕ) (own : Mended) → AreMended words programs said found → n < words
    → length programs ≤ 254 → get_or found n None ≡ Some own → source_byte (get_or found n None) ≢ 255
own_source words programs said found n own are within few is same =
    source_of own.source (get_or said n []) own.pack own refl
    (omega (arith, (are.candidates n within).count, few))
    (subst (IsMending (get_or said n [])) is (are.each n within)) (ap source_byte (sym is) ∙ same)

-- ---- The text of words.

bytes_long : (words : ℕ) (programs : List (List ℕ)) (n : ℕ) (candidates : List Candidate)
    (found : Option Mended)
    → AreCandidates words programs n candidates → IsMending candidates found
    → length (mended_bytes found) ≡ 24
bytes_long words programs n candidates None are is = refl
bytes_long words programs n candidates (Some own) are is =
    (by_codeword words programs n candidates own.source own.pack are is).is_word.size

pub own_long : (words : ℕ) (programs : List (List ℕ)) (said : List (List Candidate))
    (found : List (Option Mended)) (n : ℕ) → AreMended words programs said found → n < words
    → length (mended_bytes (get_or found n None)) ≡ 24
own_long words programs said found n are within =
    bytes_long words programs n (get_or said n []) (get_or found n None) (are.candidates n within)
    (are.each n within)

pub text_at : (found : List (Option Mended)) (n i : ℕ)
    → ((k : ℕ) → k < length found → length (mended_bytes (get_or found k None)) ≡ 24)
    → n < length found → i < 24
    → get_or (mended_text found) (24 * n + i) 0 ≡ get_or (mended_bytes (get_or found n None)) i 0
text_at [] n i long within lt = absurd (omega arith)
text_at (f ∷ found) zero i long within lt =
    let here : 24 * 0 + i ≡ i = omega arith in
    ap (λ k. get_or (mended_bytes f ++ mended_text found) k 0) here
    ∙ get_or_append_left (mended_bytes f) (mended_text found) 0 i (omega (arith, long 0 (omega arith)))
text_at (f ∷ found) (suc n) i long within lt =
    let size : length (mended_bytes f) ≡ 24 = long 0 (omega arith) in
    let there : 24 * suc n + i ≡ length (mended_bytes f) + (24 * n + i) = omega (arith, size) in
    ap (λ k. get_or (mended_bytes f ++ mended_text found) k 0) there
    ∙ get_or-append-add (mended_bytes f) (mended_text found) (24 * n + i) 0
    ∙ text_at found n i (λ k small. long (suc k) (omega (arith, small))) (omega (arith, within)) lt
