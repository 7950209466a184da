-- Corrected packs.
use Rattle.std.specs.Prelude.{◌≡◌, ◌<◌, ℕ, ℤ, List, [], drop, length, pos, negsuc, slice_index_or}
use Rattle.rw_code.specs.Codeword.{differences, Reads}
use Rattle.ribjasper_web.specs.declared.reading.WebPack.{WebPack}

-- The symbols are the codeword near a word, with the number of wrong symbols; or the word itself and -1 if no codeword is
-- near.
abbrev pub IsTakenAs : List ℕ → List ℕ → ℤ → Type 0
IsTakenAs word symbols (pos wrong) = Reads word symbols × (wrong ≡ differences word symbols)
IsTakenAs word symbols (negsuc k) = ((codeword : List ℕ) → ¬ Reads word codeword) × (k ≡ 0)
    × (symbols ≡ word)

-- the default of a list of packs
abbrev pub absent_pack : WebPack
absent_pack = record { symbols = []; wrong = pos 0 }

-- The packs are these words in this order, each corrected as in `IsTakenAs`. The packs after them are unchanged.
pub record AreTakenAs (words : List (List ℕ)) (old new : List WebPack) : Type 0 where
  pub reported : (i : ℕ) → i < length words
      → IsTakenAs (slice_index_or words i []) (slice_index_or new i absent_pack).symbols
      (slice_index_or new i absent_pack).wrong
  pub rest : drop (length words) new ≡ drop (length words) old
