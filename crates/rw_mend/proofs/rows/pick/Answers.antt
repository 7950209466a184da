use Rattle.std.proofs.Common.{arith, ◌≡◌, ◌<◌, length, get_or, sym, ap, ◌∙◌, subst, ◌+◌, ◌*◌, below_more}
use Rattle.std.proofs.Math.ListN.{set, length-set}
use Rattle.std.proofs.lemmas.List.{get_or-set_other, get_or-set_same}
use Rattle.rw_interleave.specs.Interleave.{place}
use Rattle.rw_mend.proofs.Picking.{placed, within}
use Rattle.rw_mend.proofs.rows.pick.Goals as goal

pub bounds-program-n : goal.bounds-program-n
bounds-program-n c =
    let at = placed c.args.n c.loop-i.i c.place.result c.place.ensures in
    subst (λ p. p < length c.args.program.now) (sym at)
    (within c.args.n c.loop-i.i (length c.args.program.now) c.loop-i-test.true c.requires)

pub loop-i-preserved : goal.loop-i-preserved
loop-i-preserved c =
    let bytes = c.loop-i.bytes in
    let i = c.loop-i.i in
    let program = c.args.program.now in
    let n = c.args.n in
    let x = get_or program (24 * n + c.place.result) 0 in
    let here : x ≡ get_or program (place n i) 0 =
    ap (λ p. get_or program p 0) (placed n i c.place.result c.place.ensures) in
    let long : i < length bytes = omega (arith, c.loop-i.invariant.size, c.loop-i-test.true) in
    record {
      size = length-set bytes i x ∙ c.loop-i.invariant.size;
      symbols = below_more (λ k. get_or (set bytes i x) k 0 ≡ get_or program (place n k) 0) i
          (λ k lt.
          get_or-set_other bytes i k x 0 (λ e. omega (arith, e, lt)) ∙ c.loop-i.invariant.symbols k lt)
          (get_or-set_same bytes i x 0 long ∙ here);
    }

pub returns : goal.returns
returns c i lt = c.loop-i.invariant.symbols i (omega (arith, lt, c.loop-i-test.false))
