use Rattle.std.proofs.Common.{◌≡◌, ℕ, ◌+◌, ◌-◌, ◌*◌, ◌≤◌, List, length}
use Rattle.picture_script.specs.Script.{Drawing}
use Rattle.stream_trial.specs.Course.{HasTaken, words_with_stream_block}
use Rattle.stream_trial.specs.Replay.{IsBelow}
use Rattle.stream_trial.proofs.replay.Replay.take_words.Given as goal

abbrev pub invariant-loop-j : goal.invariant-loop-j
invariant-loop-j l = record {
  small : (most : ℕ) → IsBelow most l.fn.self → IsBelow (most + l.j) l.self;
  taken : (script : List Drawing) (bytes : List ℕ) (b : ℕ) → 96 * b + 96 ≤ length bytes
      → l.words.items ≡ words_with_stream_block bytes b → HasTaken script bytes (4 * b - 7) l.fn.self
      → HasTaken script bytes (4 * b - 7 + l.j) l.self;
}
