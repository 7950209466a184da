use Rattle.std.proofs.Common.{◌≡◌, ◌%◌, arith, ap, ◌∙◌, inl, inr}
use Rattle.std.specs.Prelude.{slice_index}
use Rattle.std.proofs.lemmas.Bool.{cases_lt}
use Rattle.rw_interleave.proofs.Windows.{or_zeros}
use Rattle.rw_interleave.proofs.gather.are_idle.Goals as goal

pub loop-byte-preserved : goal.loop-byte-preserved
loop-byte-preserved c = λ none n lt.
    let parts = or_zeros c.loop-byte.all (slice_index c.args.bytes.now c.loop-byte.byte-index) none in
    elim (cases_lt n c.loop-byte.byte-index) [
      | inl early ↦ c.loop-byte.invariant parts.0 n early
      | inr late ↦ let at : n ≡ c.loop-byte.byte-index = omega arith in
          ap (λ k. slice_index c.args.bytes.now k % 64) at ∙ parts.1
    ]
