use Rattle.std.proofs.Common.{◌≡◌, ◌<◌, length, take, subst, ap₂, ◌∙◌, sym, arith}
use Rattle.std.proofs.lemmas.List.{take_all}
use Rattle.rw_code.specs.Codeword.{IsWord, differences}
use Rattle.rw_code.proofs.Differing.{differences_same_more, differences_other_more, differences-nil}
use Rattle.rw_merge.proofs.counting.differing.Goals as goal
use Rattle.rw_merge.proofs.counting.differing.Goals.{then-one-i, else-one-i}

pub loop-i-init : goal.loop-i-init
loop-i-init c = (omega arith, sym differences-nil)

pub loop-i-preserved : goal.loop-i-preserved
loop-i-preserved c =
    let a = c.bytes-one.result in
    let b = c.bytes-other.result in
    let sizes = c.bytes-one.ensures.word.size ∙ sym c.bytes-other.ensures.word.size in
    let within : c.loop-i.i < length a = omega arith in
    elim c.if-one-i.branch [
      | then-one-i w ↦ let more = differences_other_more a b c.loop-i.i sizes within w.if-one-i.true in
          (omega arith, omega arith)
      | else-one-i w ↦ let more = differences_same_more a b c.loop-i.i sizes within w.if-one-i.false in
          (omega arith, omega arith)
    ]

pub returns : goal.returns
returns c =
    let a = c.bytes-one.result in
    let b = c.bytes-other.result in
    let whole_a : take c.loop-i.i a ≡ a =
    take_all c.loop-i.i a (omega (arith, c.bytes-one.ensures.word.size, c.loop-i-test.false)) in
    let whole_b : take c.loop-i.i b ≡ b =
    take_all c.loop-i.i b (omega (arith, c.bytes-other.ensures.word.size, c.loop-i-test.false)) in
    record {
      count =
          c.loop-i.invariant.1
          ∙ ap₂ differences (whole_a ∙ c.bytes-one.ensures.same) (whole_b ∙ c.bytes-other.ensures.same);
      first = subst IsWord c.bytes-one.ensures.same c.bytes-one.ensures.word;
      second = subst IsWord c.bytes-other.ensures.same c.bytes-other.ensures.word;
    }
