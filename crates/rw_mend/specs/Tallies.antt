-- The counts of mended words, and the source of each codeword.
use Rattle.std.specs.Prelude.{⊤, ◌≡◌, ◌==◌, ℕ, ◌<◌, List, length, count_by, slice_index_or, Option, Some, None}
use Rattle.rw_mend.specs.declared.choice.Mended.{Mended}
use Rattle.rw_mend.specs.declared.choice.WordSource.{WordSource}
use Rattle.rw_mend.specs.declared.choice.WordSource.TheVariants.{Reading, Agreed}
use Rattle.rw_mend.specs.declared.tallies.Tallies.{Tallies}

-- the byte for a word without a codeword
abbrev pub no_source : ℕ
no_source = 255

-- the byte that names the source of a codeword: the number of a reading, or 254 if two readings agree
abbrev pub source_number : WordSource → ℕ
source_number (Reading r) = r
source_number Agreed = 254

abbrev pub source_byte : Option Mended → ℕ
source_byte (Some mended) = source_number mended.source
source_byte None = no_source

-- The source can be counted.
abbrev pub HasSource : WordSource → Type 0
HasSource (Reading r) = r < 254
HasSource Agreed = ⊤

-- The tallies count the words whose codeword is from each reading, those on which two readings agree, and those without
-- one.
pub record AreTallies (found : List (Option Mended)) (tallies : Tallies) : Type 0 where
  pub of_reading : (r : ℕ) → r < 254
      → slice_index_or tallies.of_reading r 0 ≡ count_by (λ f. source_byte f == r) found
  pub agreed : tallies.agreed ≡ count_by (λ f. source_byte f == 254) found
  pub none : tallies.none ≡ count_by (λ f. source_byte f == no_source) found
  pub reserved : tallies.reserved ≡ 0
  pub kept : length tallies.of_reading ≡ 254
