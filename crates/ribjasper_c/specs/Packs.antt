-- Corrected packs.
use Rattle.std.specs.Prelude.{◌≡◌, ℕ, ◌<◌, List, [], drop, length, pos, slice_index_or}
use Rattle.ribjasper_c.specs.Answers.{IsCorrected}
use Rattle.ribjasper_c.specs.declared.taking.ReadPack.{ReadPack}

-- the default of a list of packs
abbrev pub no_pack : ReadPack
no_pack = record { symbols = []; wrong = pos 0 }

-- The packs are these words in this order: each has the codeword near a word and the number of wrong symbols, or the word
-- itself and -1. The packs after them are unchanged.
pub record AreReadAs (words : List (List ℕ)) (old new : List ReadPack) : Type 0 where
  pub reported : (i : ℕ) → i < length words
      → IsCorrected (slice_index_or words i []) (slice_index_or words i [])
      (slice_index_or new i no_pack).symbols (slice_index_or new i no_pack).wrong
  pub rest : drop (length words) new ≡ drop (length words) old
