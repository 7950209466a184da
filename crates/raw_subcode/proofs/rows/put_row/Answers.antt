use Rattle.std.proofs.Common.{arith}
use Rattle.std.proofs.lemmas.Simd.{get_or-put_chunk_below}
use Rattle.raw_subcode.proofs.RowBits.{stored}
use Rattle.raw_subcode.proofs.rows.put_row.Goals as goal

pub returns-clause-here : goal.returns-clause-here
returns-clause-here c =
    λ n from to. stored c.args.bytes.now c.args.row c.args.first n c.requires.row (omega arith) from to

pub returns-clause-before : goal.returns-clause-before
returns-clause-before c = λ n lt. get_or-put_chunk_below c.args.first c.args.bytes.now c.args.row n 0 lt
