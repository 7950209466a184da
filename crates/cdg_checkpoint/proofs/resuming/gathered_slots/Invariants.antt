use Rattle.std.proofs.Common.{◌≡◌, ◌*◌, ◌-◌, [], map, take, drop}
use Rattle.std.specs.List.{range_with_len}
use Rattle.cdg_io.specs.Run.{run_state}
use Rattle.rw_interleave.specs.Gathering.{gather_next}
use Rattle.raw_subcode.specs.Channels.{symbols_of}
use Rattle.cdg_checkpoint.specs.Checkpoint.{checkpoint_in}
use Rattle.cdg_checkpoint.proofs.resuming.gathered_slots.Given as goal

abbrev pub invariant-loop-k : goal.invariant-loop-k
invariant-loop-k l =
    l.gather
    ≡ run_state gather_next [] (map (λ k. symbols_of (take 24 (drop (24 * k) (checkpoint_in l.file).slots)))
    (range_with_len (7 - l.kept) l.k))
