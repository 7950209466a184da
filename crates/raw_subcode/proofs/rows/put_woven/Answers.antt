use Rattle.std.proofs.Common.{◌+◌, ◌*◌, ◌∙◌, arith}
use Rattle.std.specs.Simd.Lanes.{put_chunk}
use Rattle.std.proofs.lemmas.Simd.{get_or-put_chunk_below}
use Rattle.raw_subcode.proofs.RowBits.{both_stored}
use Rattle.raw_subcode.proofs.rows.put_woven.Goals as goal

pub returns-clause-here : goal.returns-clause-here
returns-clause-here c = λ n lt at.
    let woven = c.woven.ensures in
    both_stored c.args.bytes.now c.woven.result.0 c.woven.result.1 c.args.even c.args.odd c.args.k n
    c.requires.bytes woven.first_size woven.second_size c.requires.place at woven.first woven.second

pub returns-clause-elsewhere : goal.returns-clause-elsewhere
returns-clause-elsewhere c = λ n lt.
    let once = put_chunk (32 * c.args.k) c.args.bytes.now c.woven.result.0 in
    get_or-put_chunk_below (32 * c.args.k + 16) once c.woven.result.1 n 0 (omega arith)
    ∙ get_or-put_chunk_below (32 * c.args.k) c.args.bytes.now c.woven.result.0 n 0 lt
