use Rattle.std.proofs.Common.{◌≡◌, ◌<◌, ◌*◌, ℕ, [], drop, get_or, take}
use Rattle.cdg_screen.specs.Memory.{IsMemory}
use Rattle.cdg_screen.proofs.memory.Memory.restore.Given as goal

abbrev pub invariant-loop-y : goal.invariant-loop-y
invariant-loop-y l = record {
  memory : IsMemory
      (record { rows = l.self-inside.rows; left = l.self-inside.left; top = l.self-inside.top });
  left : l.self-inside.left ≡ 0;
  top : l.self-inside.top ≡ 0;
  rows : (y : ℕ) → y < l.y → get_or l.self-inside.rows y [] ≡ take 300 (drop (300 * y) l.pixels);
}
