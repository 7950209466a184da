-- Words that are corrected to the idle pack.
use Rattle.std.proofs.Common.{◌≡◌, ℕ, zero, suc, ◌+◌, ◌*◌, ◌<◌, List, [], ◌∷◌, ◌++◌, drop, length, get_or, map, take, refl, sym, ap, ap₂, ◌∙◌, Some, None, arith}
use Rattle.std.specs.Prelude.{replicate}
use Rattle.std.specs.declared.option.Option.{Option}
use Rattle.std.proofs.lemmas.List.{replicate-append-replicate}
use Rattle.rw_code.specs.Codeword.{IsCodeword, IsWord, IsNear}
use Rattle.rw_code.specs.Finding.{finding}
use Rattle.rw_code.specs.Packs.{idle_pack}
use Rattle.rw_interleave.specs.Texts.{cdg_bytes}
use Rattle.stream_stages.specs.Steps.{bad_next, bad_after}
use Rattle.stream_stages.proofs.Recovers.{found_some, bad_some, take_one_more}

-- n idle packs
abbrev pub idles : ℕ → List (Option (List ℕ))
idles n = replicate n (Some idle_pack)

idles_more : (n : ℕ) → idles n ++ Some idle_pack ∷ [] ≡ idles (n + 1)
idles_more n = replicate-append-replicate n 1 (Some idle_pack)

found_more : (words : List (List ℕ)) (word : List ℕ)
    → map finding (words ++ word ∷ []) ≡ map finding words ++ finding word ∷ []
found_more [] word = refl
found_more (w ∷ words) word = ap (λ (l : List (Option (List ℕ))). finding w ∷ l) (found_more words word)

-- one more word
pub idle_more : (words : List (List ℕ)) (i : ℕ) (word : List ℕ) → i < length words
    → word ≡ get_or words i word → IsCodeword idle_pack → IsWord word → IsNear word idle_pack
    → map finding (take i words) ≡ idles i → map finding (take (i + 1) words) ≡ idles (i + 1)
idle_more words i word lt is codeword is_word near before =
    ap (map finding) (take_one_more words i word lt is) ∙ found_more (take i words) word
    ∙ ap₂ (λ (l : List (Option (List ℕ))) (o : Option (List ℕ)). l ++ o ∷ []) before
    (sym (found_some word idle_pack is_word (record { is_codeword = codeword; is_near = near })))
    ∙ idles_more i

zeros_of : (n : ℕ) → cdg_bytes (idles n) ≡ replicate (24 * n) 0
zeros_of zero = refl
zeros_of (suc n) =
    let more : 24 + 24 * n ≡ 24 * suc n = omega arith in
    ap (λ (l : List ℕ). replicate 24 0 ++ l) (zeros_of n)
    ∙ replicate-append-replicate 24 (24 * n) 0
    ∙ ap (λ m. replicate m 0) more

-- the packs of these words are zeros
pub text_near : (words : List (List ℕ)) (n : ℕ) → n ≡ length words → map finding words ≡ idles (length words)
    → replicate (24 * n) 0 ≡ cdg_bytes (map finding words)
text_near words n count found =
    ap (λ k. replicate (24 * k) 0) count ∙ sym (zeros_of (length words)) ∙ ap cdg_bytes (sym found)

-- and none of these words is bad
pub bad_near : (bad : ℕ) (words : List (List ℕ)) → map finding words ≡ idles (length words)
    → bad ≡ bad_after bad words
unfolding bad_after
bad_near bad [] found = refl
bad_near bad (word ∷ words) found =
    let here : Some idle_pack ≡ finding word =
    sym (ap (λ (l : List (Option (List ℕ))). get_or l 0 None) found) in
    let rest : map finding words ≡ idles (length words) =
    ap (λ (l : List (Option (List ℕ))). drop 1 l) found in
    let same = bad_some bad word idle_pack here in
    same ∙ bad_near (bad_next bad word) words rest
