-- A writer with waiting bytes.
use Rattle.std.specs.Prelude.{ℕ, List}
use Rattle.std.specs.Io.KnownBytes.{append_known}
use Rattle.cdg_io.specs.Change.{Bytes}

-- a writer, the bytes that wait for it, the counts of failed puts and of failed writes, and the maximum numbers of
-- waiting bytes: after a put, and in total
pub record Buffered (X : Type 0) : Type 0 where
  pub inner : X
  pub waiting : List ℕ
  pub faults : ℕ
  pub failed : ℕ
  pub turn : ℕ
  pub room : ℕ

-- the bytes of the writer, if it reveals them, and then the waiting bytes
abbrev pub bytes_with_waiting : {X : Type 0} → (X → Bytes) → Buffered X → Bytes
bytes_with_waiting contents sink = append_known (contents sink.inner) sink.waiting
