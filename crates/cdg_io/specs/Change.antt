-- Values before and after a call.
use Rattle.std.specs.Prelude.{ℕ, List, Option}
use Rattle.cdg_io.specs.Causes.{Count}

-- the type for the unread bytes of an input, and for the bytes written to an output: `None` if these bytes are not known
abbrev pub Bytes : Type 0
Bytes = Option (List ℕ)

-- a value before and after a call
pub record Change (A : Type 0) : Type 0 where
  pub before : A
  pub after : A

-- the two results of the function `see` for an object: one before a call and one after it
abbrev pub change : {A O : Type 0} → (O → A) → O → O → Change A
change see before after = record { before = see before; after = see after }

-- the change from one value to another
abbrev pub from_to : {A : Type 0} → A → A → Change A
from_to before after = record { before = before; after = after }

-- the bytes of an input and the count of its ends, before and after a call
pub record Input : Type 0 where
  pub left : Change Bytes
  pub ends : Change Count

-- the bytes of an input and of an output, before and after a call
pub record Passed : Type 0 where
  pub left : Change Bytes
  pub held : Change Bytes

-- the bytes of an input and of an output, before and after a call, from the states of both
abbrev pub passed : {S K : Type 0} → (S → Bytes) → (K → Bytes) → S × K → S × K → Passed
passed left held before after = record {
  left = change left before.0 after.0;
  held = change held before.1 after.1;
}

-- the bytes of an input and the state of a stage that is fed with them, before and after a call
pub record Fed (S : Type 0) : Type 0 where
  pub left : Change Bytes
  pub state : Change S

-- the bytes of an input and the state of its stage, before and after a call, from the states of both
abbrev pub fed : {I S : Type 0} → (I → Bytes) → I × S → I × S → Fed S
fed left before after = record {
  left = change left before.0 after.0;
  state = from_to before.1 after.1;
}

-- the bytes of an input, the state of a stage and the bytes of an output, before and after a call
pub record Moved (S : Type 0) : Type 0 where
  pub left : Change Bytes
  pub state : Change S
  pub held : Change Bytes

-- the bytes of an input, the state of a stage and the bytes of an output, before and after a call
abbrev pub moved : {I S K : Type 0} → (I → Bytes) → (K → Bytes) → I × S × K → I × S × K → Moved S
moved left held before after = record {
  left = change left before.0 after.0;
  state = from_to before.1 after.1;
  held = change held before.2 after.2;
}
