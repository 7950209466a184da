-- The inputs, the output and the result of a merge of two readings of a stream.
use Rattle.std.specs.Prelude.{◌≡◌, ◌≢◌, ◌⊎◌, ℕ, ◌+◌, ◌-◌, ◌*◌, ◌/◌, ◌%◌, ◌<◌, ◌≤◌, ⊤, min, List, length, take, slice_index_or, Option, None, Result, Ok, Err, IfOk, IfSome}
use Rattle.std.specs.Io.KnownBytes.{Appends, Consumes, IsAtEnd}
use Rattle.cdg_io.specs.Causes.{Count, RoseOnce}
use Rattle.cdg_io.specs.Change.{Bytes, Change, change}
use Rattle.cdg_io.specs.Counts.{Counts, counts}
use Rattle.cdg_io.specs.Moves.{AppendsBetween}
use Rattle.cdg_io.specs.Pump.{RoseBy}
use Rattle.cdg_io.specs.declared.ends.Source.{Ghosts as Source}
use Rattle.raw_subcode.specs.Channels.{program_symbols}
use Rattle.raw_subcode.specs.Sizes.{block_bytes, most_units}
use Rattle.raw_subcode.specs.declared.form.Form.TheVariants.{Raw}
use Rattle.rw_interleave.specs.Interleave.{word_of, whole_packs}
use Rattle.rw_interleave.specs.Stream.{bad_count}
use Rattle.rw_interleave.specs.Texts.{cdg_bytes}
use Rattle.rw_merge.specs.Agreement.{IsAgreement}
use Rattle.rw_merge.specs.declared.merge.Merged.{Merged}
use Rattle.rw_merge.specs.declared.merge.MergeStop.{MergeStop}
use Rattle.rw_merge.specs.declared.merge.MergeStop.TheVariants.{FirstFault, SecondFault, WriteFault, TooLong, Torn, SecondTorn, Unequal}

-- These are the agreed codewords, if any, for the words of two readings with `blocks` program blocks.
pub record IsMerged (blocks : ℕ) (first second : List ℕ) (found : List (Option (List ℕ))) : Type 0 where
  pub count : length found ≡ whole_packs blocks
  pub each : (n : ℕ) → n < whole_packs blocks
      → IsAgreement (word_of first n) (word_of second n) (slice_index_or found n None)

-- The text has the agreed packs of two readings with the same number of blocks; `bad` words have no agreed codeword.
pub record IsMergedText (lead_in : ℕ) (first second text : List ℕ) (bad : ℕ) : Type 0 where
  pub found : List (Option (List ℕ))
  pub merged : IsMerged (length first / block_bytes - lead_in) (program_symbols Raw first lead_in)
      (program_symbols Raw second lead_in) found
  pub text_is : text ≡ cdg_bytes found
  pub bad_is : bad ≡ bad_count found

-- The text is that of the first n blocks of each reading.
abbrev pub GivesMergedText : ℕ → ℕ → List ℕ → List ℕ → List ℕ → Type 0
GivesMergedText n lead_in first second text = (bad : ℕ)
    × IsMergedText lead_in (take (n * block_bytes) first) (take (n * block_bytes) second) text bad

-- This is the result for two inputs of these lengths if no read and no write fails. The first block that is not whole in
-- both decides, in this order: a part of a block in the first input, a part in the second input, a block in only one input.
abbrev pub IsAnswer : ℕ → Result Merged MergeStop → ℕ → ℕ → Type 0
IsAnswer lead_in (Ok merged) first second = (first ≤ most_units * block_bytes) × (second ≡ first)
    × (first % block_bytes ≡ 0)
    × (merged.blocks ≡ first / block_bytes - lead_in)
IsAnswer lead_in (Err TooLong) first second = (most_units ≤ first / block_bytes)
    × (most_units ≤ second / block_bytes)
    × ((most_units * block_bytes < first) ⊎ (most_units * block_bytes < second))
IsAnswer lead_in (Err (Torn block)) first second = (block < most_units) × (block ≤ second / block_bytes)
    × (first / block_bytes ≡ block) × (first % block_bytes ≢ 0)
IsAnswer lead_in (Err (SecondTorn block)) first second = (block < most_units) × (block ≤ first / block_bytes)
    × (first / block_bytes ≡ block → first % block_bytes ≡ 0)
    × (second / block_bytes ≡ block) × (second % block_bytes ≢ 0)
IsAnswer lead_in (Err (Unequal blocks)) first second = (blocks < most_units)
    × (blocks ≡ min (first / block_bytes) (second / block_bytes))
    × (first / block_bytes ≢ second / block_bytes)
    × (first / block_bytes ≡ blocks → first % block_bytes ≡ 0)
    × (second / block_bytes ≡ blocks → second % block_bytes ≡ 0)
IsAnswer lead_in (Err FirstFault) first second = ⊤
IsAnswer lead_in (Err SecondFault) first second = ⊤
IsAnswer lead_in (Err WriteFault) first second = ⊤

-- This is the result for two whole inputs if both reveal their bytes.
abbrev pub IsAnswerTo : ℕ → Result Merged MergeStop → Bytes → Bytes → Type 0
IsAnswerTo lead_in result first second =
    IfSome first (λ xs. IfSome second (λ ys. IsAnswer lead_in result (length xs) (length ys)))

-- These numbers of bytes of two inputs were consumed in turn. Suppose that one input had no further whole block, or that a
-- read of it failed. If it was the first input, the second input was read for the same number of whole blocks. If it was
-- the second input, whole blocks of the first were consumed, and of the second less than a block more than of the first. A
-- failed read came before any byte after the last allowed block.
abbrev pub TakesInTurn : Result Merged MergeStop → ℕ → ℕ → Type 0
TakesInTurn (Err FirstFault) first second = (second ≡ first / block_bytes * block_bytes)
    × (first ≤ most_units * block_bytes)
TakesInTurn (Err (Torn block)) first second = second ≡ first / block_bytes * block_bytes
TakesInTurn (Err SecondFault) first second = (first % block_bytes ≡ 0) × (second < first + block_bytes)
    × (second ≤ most_units * block_bytes)
TakesInTurn (Err (SecondTorn block)) first second = (first % block_bytes ≡ 0)
    × (second < first + block_bytes)
TakesInTurn result first second = ⊤

-- These bytes of two inputs were consumed, and the text of their pairs of blocks was written.
pub record Merges (lead_in : ℕ) (held : Change Bytes) (result : Result Merged MergeStop)
    (first second : List ℕ) : Type 0 where
  -- neither input was read further than one block beyond the other
  pub in_step : (length first ≤ length second + block_bytes) × (length second ≤ length first + block_bytes)
  pub within : (length first ≤ most_units * block_bytes + 1) × (length second ≤ most_units * block_bytes + 1)
  -- a block of the first input was read, and then a block of the second
  pub turns : TakesInTurn result (length first) (length second)
  pub answer : IsAnswer lead_in result (length first) (length second)
  pub done : IfOk result (λ merged. (text : List ℕ) × IsMergedText lead_in first second text merged.bad
      × Appends held.before held.after text)
  -- if no write failed, the output for all whole pairs of blocks was written
  pub put : result ≢ Err WriteFault
      → (text : List ℕ) × GivesMergedText
      (min (length first / block_bytes) (length second / block_bytes)) lead_in first second
      text × Appends held.before held.after text
  -- a write failed: nothing after the pair of the failed write was consumed, and the output for the earlier pairs was
  -- written
  pub in_turn : result ≡ Err WriteFault
      → (n : ℕ) × (n < most_units) × (length first ≡ (n + 1) * block_bytes)
      × (length second ≡ (n + 1) * block_bytes)
      × ((low high : List ℕ) × GivesMergedText n lead_in first second low
      × GivesMergedText (n + 1) lead_in first second high
      × AppendsBetween held.before held.after low high)

-- The first input is at its end, if the result requires it.
abbrev pub FirstIsAtEnd : Result Merged MergeStop → Option (List ℕ) → Type 0
FirstIsAtEnd (Ok merged) left = IsAtEnd left
FirstIsAtEnd (Err (Torn block)) left = IsAtEnd left
FirstIsAtEnd (Err stop) left = ⊤

-- The second input is at its end, if the result requires it.
abbrev pub EndsSecond : Result Merged MergeStop → Option (List ℕ) → Type 0
EndsSecond (Ok merged) left = IsAtEnd left
EndsSecond (Err (SecondTorn block)) left = IsAtEnd left
EndsSecond (Err stop) left = ⊤

-- The end of an input was recorded once.
abbrev pub EndReported : Change Count → Type 0
EndReported ends = RoseOnce ends.before ends.after

-- The end of an input was not recorded.
abbrev pub EndUnreported : Change Count → Type 0
EndUnreported ends = ends.after ≡ ends.before

-- Two inputs were read in turn: the end of this input was recorded once if no more bytes of it were consumed than of
-- the other input, otherwise it was not recorded.
abbrev pub EndReportedUnlessAhead : ℕ → ℕ → Change Count → Type 0
EndReportedUnlessAhead bytes other_bytes ends = (bytes ≤ other_bytes → EndReported ends)
    × (other_bytes < bytes → EndUnreported ends)

-- The counts of the ends of two readings if a merge stopped after these numbers of bytes. The merge reads a block of
-- the first and then a block of the second, and stops reading an input at its end.
abbrev pub EndsAtStop : MergeStop → ℕ → ℕ → Change Count → Change Count → Type 0
EndsAtStop (Torn block) one other first second = EndReported first × EndUnreported second
EndsAtStop (SecondTorn block) one other first second = EndReportedUnlessAhead one other first
    × EndReported second
EndsAtStop (Unequal blocks) one other first second =
    ((one < other) × EndReported first × EndUnreported second)
    ⊎ ((other < one) × EndUnreported first × EndReported second)
EndsAtStop TooLong one other first second = EndReportedUnlessAhead one other first × EndUnreported second
EndsAtStop SecondFault one other first second = EndReportedUnlessAhead one other first × EndUnreported second
EndsAtStop FirstFault one other first second = EndUnreported first × EndUnreported second
EndsAtStop WriteFault one other first second = EndUnreported first × EndUnreported second

-- If the merge is complete, both ends were recorded.
abbrev pub EndsBoth : {A : Type 0} → Result A MergeStop → ℕ → ℕ → Change Count → Change Count → Type 0
EndsBoth (Ok done) one other first second = EndReported first × EndReported second
EndsBoth (Err stop) one other first second = EndsAtStop stop one other first second

-- the number of full reads for this number of bytes: one for each whole block, and one for the byte after the last
-- allowed block
abbrev pub full_reads : ℕ → ℕ
full_reads bytes = bytes / block_bytes + (bytes - most_units * block_bytes)

-- an input that is read: its bytes, and the counts of its ends and its full reads
pub record ReadInput : Type 0 where
  pub left : Change Bytes
  pub counts : Counts

-- the input as a source shows it
abbrev pub read_input : {S : Type 0} → Source S → S → S → ReadInput
read_input source before after = record {
  left = change source.left before after;
  counts = counts source.ends source.fills before after;
}

-- Bytes of two inputs were consumed. `holds` is true for these bytes; `ends` gives the counts of the ends for their
-- numbers, and `reads` the number of full reads.
pub record ReadsBoth (holds : List ℕ → List ℕ → Type 0)
    (ends : ℕ → ℕ → Change Count → Change Count → Type 0) (reads : ℕ → ℕ)
    (first second : ReadInput) : Type 0 where
  pub taken : List ℕ
  pub other_taken : List ℕ
  pub took : Consumes first.left.before first.left.after taken
  pub other_took : Consumes second.left.before second.left.after other_taken
  pub said : holds taken other_taken
  pub ended : ends (length taken) (length other_taken) first.counts.ends second.counts.ends
  pub filled : RoseBy (reads (length taken)) first.counts.fills.before first.counts.fills.after
  pub other_filled : RoseBy (reads (length other_taken)) second.counts.fills.before second.counts.fills.after
