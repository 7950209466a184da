use Rattle.std.proofs.Common.{◌≡◌, ◌<◌, ◌/◌, ◌%◌, ℕ, [], ◌∷◌, length, get_or}
use Rattle.live_player.specs.Formats.{AreFirstBytes}
use Rattle.live_player.proofs.pairs.pairs_of.Given as goal

abbrev pub invariant-loop-n : goal.invariant-loop-n
invariant-loop-n l = record {
  size : length l.pairs ≡ 256;
  sizes : (n : ℕ) → n < 256 → length (get_or l.pairs n []) ≡ 8;
  bytes : (n : ℕ) → n < l.n → AreFirstBytes l.size 2 (n % 16 ∷ n / 16 ∷ []) l.table (get_or l.pairs n []);
}
