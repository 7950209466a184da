use Rattle.std.proofs.Common.{◌≡◌, ◌<◌, ◌+◌, ◌*◌, ◌/◌, ◌%◌, ℕ, length, get_or, ◌∙◌, arith}
use Rattle.std.specs.Prelude.{None}
use Rattle.std.proofs.Math.ListN.{length-set}
use Rattle.rw_mend.specs.Chosen.{symbol_or}
use Rattle.rw_mend.proofs.Bytes.{block_of_bytes, byte_set}
use Rattle.rw_mend.proofs.words.mixed_block.Goals as goal

pub loop-k-preserved : goal.loop-k-preserved
loop-k-preserved c =
    let block = c.loop-k.block in
    let k = c.loop-k.k in
    let f : ℕ = get_or c.args.framed.now k 0 in
    let symbol : ℕ = symbol_or (get_or c.args.known.now k None) (get_or c.args.read.now k 0) in
    let x : ℕ = f / 64 * 64 + c.symbol_or.result in
    let within : k < length block = omega (arith, c.loop-k-test.true, c.loop-k.invariant.size) in
    let same : c.symbol_or.result ≡ symbol = c.symbol_or.ensures in
    let small : symbol < 64 =
    c.requires.small k (get_or c.args.read.now k 0) (omega (arith, c.loop-k-test.true)) in
    record {
      size = length-set block k x ∙ c.loop-k.invariant.size;
      high = byte_set (λ j y. y / 64 ≡ get_or c.args.framed.now j 0 / 64) block k x within
          c.loop-k.invariant.high (omega (arith, same, small));
      low = byte_set (λ j y. y % 64 ≡ symbol_or (get_or c.args.known.now j None) (get_or c.args.read.now j 0))
          block k x within c.loop-k.invariant.low (omega (arith, same, small));
    }

pub returns : goal.returns
returns c =
    block_of_bytes c.args.known.now c.args.framed.now c.args.read.now c.loop-k.block c.requires.framed
    c.loop-k.invariant.size
    (λ k lt. c.loop-k.invariant.high k (omega (arith, lt, c.loop-k-test.false)))
    (λ k lt. c.loop-k.invariant.low k (omega (arith, lt, c.loop-k-test.false)))
