use Rattle.std.proofs.Common.{◌∙◌, map, sym, arith}
use Rattle.std.proofs.lemmas.List.{ext_get_or}
use Rattle.std.proofs.lemmas.List.FromFn.{get_or-map-range_with_len}
use Rattle.bit_lists.specs.Counting.{below}
use Rattle.cdg_instructions.specs.Instruction.{table_colour}
use Rattle.cdg_instructions.proofs.reading.colours.Goals as goal

pub returns-clause-colours : goal.returns-clause-colours
returns-clause-colours c =
    let f = table_colour c.args.symbols.now in
    ext_get_or 0 c.loop-k.colours (map f (below 8)) c.loop-k.invariant.0 (λ j j_lt.
    c.loop-k.invariant.2 j (omega (arith, c.loop-k.invariant.0))
    ∙ sym (get_or-map-range_with_len f 0 8 j j 0 (omega (arith, c.loop-k.invariant.0)) (omega arith)))
