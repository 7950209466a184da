use Rattle.std.proofs.Common.{◌≡◌, ◌==◌, ℕ, take}
use Rattle.std.specs.List.{list_all}
use Rattle.rw_mend.proofs.cover.is_unread.Given as goal

abbrev pub invariant-loop-i : goal.invariant-loop-i
invariant-loop-i l = record {
  all : list_all (λ (byte : ℕ). byte == 0) (take l.i l.block) ≡ (l.most == 0);
}
