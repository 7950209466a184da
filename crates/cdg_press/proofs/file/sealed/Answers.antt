use Rattle.std.proofs.Common.{◌≡◌, ℕ, zero, suc, ◌<◌, List, [], ◌∷◌, get_or, ◌∙◌, arith}
use Rattle.cdg_press.proofs.Messages.{same_message}
use Rattle.cdg_press.proofs.file.sealed.Goals as goal

-- the first two symbols
two_of : (word : List ℕ) (first second : ℕ) → first ≡ get_or word 0 0 → second ≡ get_or word 1 0 → (k : ℕ)
    → k < 2
    → get_or (first ∷ second ∷ []) k 0 ≡ get_or word k 0
two_of word first second one two zero lt = one
two_of word first second one two (suc zero) lt = two
two_of word first second one two (suc (suc k)) lt = absurd (omega (arith, lt))

pub returns : goal.returns
returns c = record {
  size = c.words_have_24_symbols.ensures.size;
  codeword = c.seal.ensures.codeword;
  message =
      same_message c.seal.result c.args.word.now c.seal.ensures.codeword.is_word.size
      c.words_have_24_symbols.ensures.size
      (λ k lt. c.seal.ensures.symbols.at_head k lt
      ∙ two_of c.args.word.now c.get.result c.get-2.result c.get.ensures c.get-2.ensures k lt)
      (λ k lt. c.seal.ensures.symbols.at_body k lt ∙ c.loop-i.invariant k (omega (arith, lt)));
}
