-- How a command ends.
use Rattle.std.specs.Prelude.{◌≡◌, ℕ, List}
use Rattle.cdg_cmd.specs.declared.status.Status.{Status}

-- A call ended with this status: its result, the bytes that it consumed, its effect, and the exact result if there was
-- no fault.
pub record EndsWith {A : Type 0} (status_of : A → Status) (does : A → List ℕ → Type 0) (is_exact : A → Type 0)
    (status : Status) : Type 0 where
  pub answer : A
  pub status_is : status ≡ status_of answer
  pub taken : List ℕ
  pub did : does answer taken
  pub exactly : is_exact answer
