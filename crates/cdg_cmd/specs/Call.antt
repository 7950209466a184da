-- The inputs and the output of a call.
use Rattle.std.specs.Prelude.{None}
use Rattle.cdg_io.specs.Change.{Bytes, Change, Passed, change}

-- a value of each of the two inputs and of the output, before and after a call
pub record Call (A : Type 0) : Type 0 where
  pub first : Change A
  pub second : Change A
  pub out : Change A

-- the observed values of the two inputs and of the output, before and after a call
abbrev pub call : {A S T K : Type 0} → (S → A) → (T → A) → (K → A) → S × T × K → S × T × K → Call A
call first second out before after =
    record {
      first = change first before.0 after.0;
      second = change second before.1 after.1;
      out = change out before.2 after.2;
    }

-- the bytes of one input and of the output; the second input is ignored
abbrev pub one_input : {S K : Type 0} → (S → Bytes) → (K → Bytes) → S × K → S × K → Call Bytes
one_input first out before after =
    record {
      first = change first before.0 after.0;
      second = record { before = None; after = None };
      out = change out before.1 after.1;
    }

-- the first input and the output, before and after a call
abbrev pub through : Call Bytes → Passed
through call = record { left = call.first; held = call.out }
