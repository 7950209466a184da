-- Two readings of one stream that have enough for each of its packs.
use Rattle.std.specs.Prelude.{◌≡◌, ℕ, ◌+◌, ◌*◌, ◌<◌, ◌≤◌, ⊤, List, length, Option, Result, Ok, Err}
use Rattle.std.specs.Io.KnownBytes.{Appends}
use Rattle.raw_subcode.specs.Channels.{program_symbols}
use Rattle.raw_subcode.specs.declared.form.Form.TheVariants.{Raw}
use Rattle.rw_code.specs.Codeword.{differences}
use Rattle.rw_interleave.specs.Interleave.{Carries, word_of, whole_packs}
use Rattle.rw_interleave.specs.Stream.{IsDamaged}
use Rattle.rw_merge.specs.Agreement.{equally_wrong}
use Rattle.raw_subcode.specs.Sizes.{block_bytes, most_units}
use Rattle.rw_merge.specs.declared.merge.Merged.{Merged}
use Rattle.rw_merge.specs.declared.merge.MergeStop.{MergeStop}
use Rattle.rw_merge.specs.declared.merge.MergeStop.TheVariants.{FirstFault, SecondFault, WriteFault}

-- These are the bytes of two readings with the same number of blocks: `lead_in` blocks of the lead-in and `blocks` of the
-- program.
pub record AreReadings (lead_in blocks : ℕ) (first second : List ℕ) : Type 0 where
  pub few : lead_in + blocks ≤ most_units
  pub first_size : length first ≡ (lead_in + blocks) * block_bytes
  pub second_size : length second ≡ (lead_in + blocks) * block_bytes

-- These are two readings of program symbols that carry the packs. In each word, twice the number of symbols in which both
-- are equal and wrong, plus the number of symbols in which they differ, is at most four.
pub record IsReadTwice (lead_in blocks : ℕ) (packs : List (List ℕ)) (first second : List ℕ) : Type 0 where
  pub readings : AreReadings lead_in blocks first second
  pub symbols : List ℕ
  pub carries : Carries blocks symbols packs
  pub enough : (n : ℕ) → n < whole_packs blocks →
      2 * equally_wrong (word_of (program_symbols Raw first lead_in) n)
      (word_of (program_symbols Raw second lead_in) n) (word_of symbols n)
      + differences (word_of (program_symbols Raw first lead_in) n)
      (word_of (program_symbols Raw second lead_in) n) ≤ 4

-- These are two readings of program symbols that carry the packs. Each is damaged in at most two symbols of each word, at
-- any places.
pub record IsDamagedTwice (lead_in blocks : ℕ) (packs : List (List ℕ)) (first second : List ℕ) : Type 0 where
  pub readings : AreReadings lead_in blocks first second
  pub symbols : List ℕ
  pub carries : Carries blocks symbols packs
  pub first_damage : IsDamaged symbols Raw (program_symbols Raw first lead_in)
  pub second_damage : IsDamaged symbols Raw (program_symbols Raw second lead_in)

-- If no read and no write failed, `blocks` blocks were merged, none of their words is bad, and this text was written.
abbrev pub MergeRestores : Result Merged MergeStop → ℕ → Option (List ℕ) → Option (List ℕ) → List ℕ → Type 0
MergeRestores (Ok merged) blocks held held' text = (merged.blocks ≡ blocks) × (merged.bad ≡ 0)
    × Appends held held' text
MergeRestores (Err FirstFault) blocks held held' text = ⊤
MergeRestores (Err SecondFault) blocks held held' text = ⊤
MergeRestores (Err WriteFault) blocks held held' text = ⊤
MergeRestores (Err stop) blocks held held' text = ⊥
