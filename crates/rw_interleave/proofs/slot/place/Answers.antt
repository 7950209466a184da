use Rattle.std.proofs.Common.{◌≡◌, ◌+◌, ◌*◌, ◌%◌, ℕ, sym, ap, ◌∙◌, arith}
use Rattle.rw_interleave.specs.Interleave.{swapped}
use Rattle.rw_interleave.proofs.Places.{swapped_is}
use Rattle.rw_interleave.proofs.slot.place.Goals as goal

pub returns : goal.returns
returns c =
    let at = ap (λ (p : ℕ). 24 * (p % 8) + p) (swapped_is c.args.i c.requires) in
    let none : 0 + swapped c.args.i % 8 ≡ swapped c.args.i % 8 = omega arith in
    at ∙ ap (λ (q : ℕ). 24 * q + swapped c.args.i) (sym none)
