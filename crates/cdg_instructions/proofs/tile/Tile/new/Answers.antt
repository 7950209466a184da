use Rattle.std.proofs.Common.{◌≡◌, ℕ, ◌+◌, ◌<◌, Bool, true, ◌&&◌, List, get_or, nat_lt, arith}
use Rattle.std.specs.Prelude.{IsTrue, ◌↔◌, slice_index}
use Rattle.std.proofs.lemmas.Bool.{and_parts, lt-ltb, ltb-true}
use borrow.Author.Count.{below_more}
use Rattle.cdg_instructions.proofs.tile.Tile.new.Goals as goal

-- whether all pixels up to pixel i are colour numbers
with_next : (xs : List ℕ) (i : ℕ) (are : Bool) → (IsTrue are ↔ ((k : ℕ) → k < i → slice_index xs k < 16))
    → IsTrue (are && nat_lt (get_or xs i 0) 16) ↔ ((k : ℕ) → k < i + 1 → slice_index xs k < 16)
with_next xs i are is = (
  λ both.
      let parts = and_parts are (nat_lt (get_or xs i 0) 16) both in
      below_more (λ k. slice_index xs k < 16) i (is.0 parts.0) (ltb-true _ _ parts.1),
  λ all.
      let first : are ≡ true = is.1 (λ k lt. all k (omega arith)) in
      let last : slice_index xs i < 16 = all i (omega arith) in
      rw first (lt-ltb _ _ last),
)

pub loop-pixel-preserved : goal.loop-pixel-preserved
loop-pixel-preserved c =
    with_next c.args.pixels.now c.loop-pixel.pixel-index c.loop-pixel.are_colours c.loop-pixel.invariant
