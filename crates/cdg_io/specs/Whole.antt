-- The bytes that reading a whole input consumed if it stopped, and the bytes that writing a whole piece appended.
use Rattle.std.specs.Prelude.{◌≡◌, ℕ, ◌≤◌, IfOk, List, OnErr, Result, length}
use Rattle.cdg_io.specs.Causes.{HasCause}
use Rattle.cdg_io.specs.Counts.{ReportsRead, counts}
use Rattle.std.specs.Io.KnownBytes.{Consumes, IsAtEnd, Keeps}
use Rattle.cdg_io.specs.Moves.{AppendsLess, ConsumesBelow}
use Rattle.std.specs.declared.option.Option.{Option}
use Rattle.cdg_io.specs.declared.ends.Source.{Ghosts as Source}

-- If the bytes are known, exactly n bytes were removed from their front.
abbrev pub ConsumesExactly : Option (List ℕ) → Option (List ℕ) → ℕ → Type 0
ConsumesExactly old new n = (bs : List ℕ) × (length bs ≡ n) × Consumes old new bs

-- At most `most` bytes were consumed, all before a read failed: no fault was counted until then, and the failed read
-- was the last one.
pub record StopsAtFault {S : Type 0} (left : S → Option (List ℕ)) (faults : S → ℕ) (most : ℕ)
    (before after : S) : Type 0 where
  -- the source just before the failed read
  pub last : S
  pub taken : List ℕ
  pub within : length taken ≤ most
  pub took : Consumes (left before) (left last) taken
  pub quiet : faults last ≡ faults before
  pub nothing : Keeps (left last) (left after)

-- Only a part of these bytes was appended, all before a write failed: no fault was counted until then, and the failed
-- write was the last one.
pub record PutsUntilFault {K : Type 0} (held : K → Option (List ℕ)) (faults : K → ℕ) (bytes : List ℕ)
    (before after : K) : Type 0 where
  -- the sink just before the failed write
  pub last : K
  pub put : AppendsLess (held before) (held last) bytes
  pub quiet : faults last ≡ faults before
  pub nothing : Keeps (held last) (held after)

-- The input was read to its end, which came within `most` bytes.
pub record ReadsWithin {S : Type 0} (left : S → Option (List ℕ)) (most : ℕ) (before after : S) : Type 0 where
  pub taken : List ℕ
  pub within : length taken ≤ most
  pub took : Consumes (left before) (left after) taken
  pub end : IsAtEnd (left after)

-- A call reads up to `most` bytes and returns their number. If it read fewer, the input ended or a read failed.
pub record ReadsUpTo {S E : Type 0} (source : Source S) (most : ℕ) (before after : S)
    (result : Result ℕ E) : Type 0 where
  pub within : IfOk result (λ n. n ≤ most)
  pub part : OnErr result (ConsumesBelow (source.left before) (source.left after) most)
  pub cut : OnErr result (StopsAtFault source.left source.faults most before after)
  pub cause : HasCause (source.faults before) (source.faults after) result
  pub counts : ReportsRead most most (counts source.ends source.fills before after) result
