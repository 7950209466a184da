-- How a source counts its ends and its full reads.
use Rattle.std.specs.Prelude.{◌≡◌, ℕ, Some, Result}
use Rattle.cdg_io.specs.Causes.{Count, FillsRoom, ReportsEnd}
use Rattle.cdg_io.specs.Change.{Change, change}
use Rattle.cdg_io.specs.Pump.{RoseBy}
use Rattle.cdg_io.specs.declared.ends.Tally.{Tally}

-- both counts of a source, before and after a call
pub record Counts : Type 0 where
  pub ends : Change Count
  pub fills : Change Count

-- both counts of a source, from its states before and after a call
abbrev pub counts : {S : Type 0} → (S → Count) → (S → Count) → S → S → Counts
counts ends fills before after = record { ends = change ends before after; fills = change fills before after }

-- both counts of a source that keeps a `Tally`, before and after a call
abbrev pub kept_counts : Tally → Tally → Counts
kept_counts = counts (λ tally. Some tally.ends) (λ tally. Some tally.fills)

-- A read reported the end if it read fewer than `least` bytes, and was full if it read `most` bytes.
pub record ReportsRead {E : Type 0} (least most : ℕ) (counts : Counts) (result : Result ℕ E) : Type 0 where
  pub end : ReportsEnd least counts.ends.before counts.ends.after result
  pub room : FillsRoom most counts.fills.before counts.fills.after result

-- This number of reads was full, and no end was reported.
pub record GivesFull (reads : ℕ) (counts : Counts) : Type 0 where
  pub full : RoseBy reads counts.fills.before counts.fills.after
  pub unreported : counts.ends.after ≡ counts.ends.before
