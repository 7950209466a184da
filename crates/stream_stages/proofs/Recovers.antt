-- The codewords that are recovered from one or more words.
use Rattle.std.proofs.Common.{◌≡◌, ℕ, ◌+◌, ◌-◌, ◌^◌, ◌<◌, min, List, [], ◌∷◌, ◌++◌, length, get_or, map, replicate, take, refl, sym, ap, ◌∙◌, Some, None, cond}
use Rattle.std.specs.Prelude.{is_none}
use Rattle.std.specs.declared.option.Option.{Option}
use Rattle.std.proofs.lemmas.List.{take_more, append-nil, append_assoc}
use Rattle.rw_code.specs.Codeword.{IsCodeword, IsWord, Reads}
use Rattle.rw_code.specs.Finding.{finding}
use Rattle.rw_code.proofs.Errors.{itself}
use Rattle.rw_code.proofs.Finding.{only_finding}
use Rattle.rw_interleave.specs.Texts.{entry_bytes, cdg_bytes}
use Rattle.stream_stages.specs.Steps.{bad_next, bad_after}

-- a corrected word is a finding
pub found_some : (word codeword : List ℕ) → IsWord word → Reads word codeword → Some codeword ≡ finding word
found_some word codeword is reads = only_finding word is (Some codeword) reads

-- the finding of a codeword is itself
pub found_itself : (word : List ℕ) → IsCodeword word → Some word ≡ finding word
found_itself word is_codeword = found_some word word is_codeword.is_word (itself word word is_codeword refl).0

pub found_none : (word : List ℕ) → IsWord word → ((w : List ℕ) → ¬ Reads word w) → None ≡ finding word
found_none word is none = only_finding word is None none

pub bad_some : (bad : ℕ) (word codeword : List ℕ) → Some codeword ≡ finding word → bad ≡ bad_next bad word
unfolding bad_next
bad_some bad word codeword found =
    ap (λ (o : Option (List ℕ)). cond (is_none o) (min (bad + 1) (2 ^ 32 - 1)) bad) found

pub bad_none : (bad : ℕ) (word : List ℕ) → None ≡ finding word
    → min (bad + 1) (2 ^ 32 - 1) ≡ bad_next bad word
unfolding bad_next
bad_none bad word found =
    ap (λ (o : Option (List ℕ)). cond (is_none o) (min (bad + 1) (2 ^ 32 - 1)) bad) found

-- one more word
pub bad_more : (bad : ℕ) (words : List (List ℕ)) (word : List ℕ)
    → bad_after bad (words ++ word ∷ []) ≡ bad_next (bad_after bad words) word
unfolding bad_after
bad_more bad [] word = refl
bad_more bad (w ∷ words) word = bad_more (bad_next bad w) words word

pub text_more : (words : List (List ℕ)) (word : List ℕ)
    → cdg_bytes (map finding (words ++ word ∷ []))
    ≡ cdg_bytes (map finding words) ++ entry_bytes (finding word)
text_more [] word = append-nil (entry_bytes (finding word))
text_more (w ∷ words) word =
    ap (λ l. entry_bytes (finding w) ++ l) (text_more words word)
    ∙ sym (append_assoc (entry_bytes (finding w)) _ _)

pub take_one_more : (words : List (List ℕ)) (i : ℕ) (word : List ℕ) → i < length words
    → word ≡ get_or words i word
    → take (i + 1) words ≡ take i words ++ word ∷ []
take_one_more words i word lt is = take_more words i word lt ∙ ap (λ w. take i words ++ w ∷ []) (sym is)

-- a step over a list of words
pub text_step : (words : List (List ℕ)) (i : ℕ) (word : List ℕ) (old new entry : List ℕ) → i < length words
    → word ≡ get_or words i word → old ≡ cdg_bytes (map finding (take i words))
    → entry ≡ entry_bytes (finding word) → new ≡ old ++ entry
    → new ≡ cdg_bytes (map finding (take (i + 1) words))
text_step words i word old new entry lt is done here step =
    step
    ∙ ap (λ l. l ++ entry) done
    ∙ ap (λ l. cdg_bytes (map finding (take i words)) ++ l) here
    ∙ sym (text_more (take i words) word)
    ∙ ap (λ l. cdg_bytes (map finding l)) (sym (take_one_more words i word lt is))

pub bad_step : (words : List (List ℕ)) (i : ℕ) (word : List ℕ) (start old new : ℕ) → i < length words
    → word ≡ get_or words i word → old ≡ bad_after start (take i words) → new ≡ bad_next old word
    → new ≡ bad_after start (take (i + 1) words)
bad_step words i word start old new lt is done step =
    step
    ∙ ap (λ b. bad_next b word) done
    ∙ sym (bad_more start (take i words) word)
    ∙ ap (bad_after start) (sym (take_one_more words i word lt is))

pub bad_none_yet : (start : ℕ) → start ≡ bad_after start []
unfolding bad_after
bad_none_yet start = refl

-- ---- A block of idle words.

bad_same : (bad : ℕ) → IsCodeword (replicate 24 0) → bad ≡ bad_next bad (replicate 24 0)
bad_same bad is = bad_some bad _ _ (found_itself (replicate 24 0) is)

pub bad_idle : (bad : ℕ) → IsCodeword (replicate 24 0) → bad ≡ bad_after bad (replicate 4 (replicate 24 0))
unfolding bad_after
bad_idle bad is = bad_same bad is ∙ bad_same _ is ∙ bad_same _ is ∙ bad_same _ is

pub text_idle : IsCodeword (replicate 24 0)
    → replicate 96 0 ≡ cdg_bytes (map finding (replicate 4 (replicate 24 0)))
text_idle is = ap (λ (o : Option (List ℕ)). cdg_bytes (o ∷ o ∷ o ∷ o ∷ [])) (found_itself (replicate 24 0) is)
