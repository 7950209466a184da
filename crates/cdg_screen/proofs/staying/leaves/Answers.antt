use Rattle.std.proofs.Common.{ℕ, arith}
use Rattle.std.proofs.lemmas.List.{get_or-replicate}
use Rattle.cdg_screen.proofs.KeptLines.{six_equal, zeros_leave}
use Rattle.cdg_screen.proofs.staying.leaves.Goals as goal

pub returns-then-exclusive : goal.returns-then-exclusive
returns-then-exclusive c =
    rw c.if-exclusive.true (zeros_leave c.args.pixels.now c.args.others.now _ _ (omega arith) (omega arith)
    (λ i lt. get_or-replicate {A = ℕ} 6 i 0 0 lt) c.eq.ensures)

pub returns-else-exclusive : goal.returns-else-exclusive
returns-else-exclusive c =
    rw c.if-exclusive.false (six_equal c.args.pixels.now c.args.others.now _ (omega arith) c.requires
    c.eq-else-exclusive.ensures)
