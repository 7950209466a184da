-- Faults of a command that reads no input.
use Rattle.std.proofs.Common.{◌≡◌, ◌≤◌, ℕ}
use Rattle.cdg_io.specs.Causes.{Rose}
use Rattle.cdg_cmd.specs.Faults.{IsReported}
use Rattle.cdg_cmd.specs.declared.status.Status.TheVariants.{Done, WriteFault, NoMemory}
use Rattle.cdg_cmd.proofs.Quiet.{count, silent, reported}

pub reported_done : (k k' : ℕ) → k ≤ k' → k' ≡ k → IsReported WriteFault (count k k') Done
reported_done k k' later same = silent WriteFault Done k k' later (λ e. cc) same

pub reported_cut : (k k' : ℕ) → k ≤ k' → Rose k k' → IsReported WriteFault (count k k') WriteFault
reported_cut k k' later rose = reported WriteFault k k' later rose

pub reported_nothing : (k k' : ℕ) → k ≤ k' → k' ≡ k → IsReported WriteFault (count k k') NoMemory
reported_nothing k k' later same = silent WriteFault NoMemory k k' later (λ e. cc) same
