-- Words whose parity is corrected.
use Rattle.std.specs.Prelude.{◌≡◌, ℕ, List, length}
use Rattle.rw_code.specs.Codeword.{IsCodeword}
use Rattle.cdg_instructions.specs.Instruction.{message_of}

-- The word is the codeword with these 24 symbols, except that its parity symbols, at 2, 3 and 20 to 23, may differ.
pub record IsMadeGood (symbols word : List ℕ) : Type 0 where
  pub size : length symbols ≡ 24
  pub codeword : IsCodeword word
  pub message : message_of word ≡ message_of symbols
