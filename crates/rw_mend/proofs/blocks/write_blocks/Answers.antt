use Rattle.std.proofs.Common.{◌≡◌, ◌≤◌, ◌+◌, ◌-◌, ◌*◌, ℕ, length, drop, ap, ◌∙◌, subst, arith, length-drop}
use Rattle.rw_mend.specs.HeldReadings.{held_blocks, held_parts}
use Rattle.rw_mend.specs.Symbols.{IsStreamBlock}
use Rattle.rw_mend.proofs.Writing.{blocks_more, kept_behind, same_stream_block, same_symbols, text_is}
use Rattle.rw_mend.proofs.blocks.write_blocks.Goals as goal

pub stream_block-block-requires-clause-text : goal.stream_block-block-requires-clause-text
stream_block-block-requires-clause-text c =
    let start : ℕ = c.args.readings.now.size - 24 * c.args.words.now.count in
    let list = c.loop-b.blocks in
    omega (
      arith,
      ap length (text_is list start),
      length-drop start list,
      c.loop-b.invariant.size,
      c.requires.room,
      c.requires.short,
    )

pub loop-b-preserved : goal.loop-b-preserved
loop-b-preserved c =
    let words = c.args.words.now in
    let readings = c.args.readings.now in
    let old = c.args.blocks.now in
    let list = c.loop-b.blocks in
    let b = c.loop-b.b in
    let start : ℕ = readings.size - 24 * words.count in
    let block = c.stream_block-block.result in
    let inside : 96 * b + 96 ≤ readings.size = omega (arith, c.loop-b-test.true, c.requires.whole) in
    let fits : 96 * b + 96 ≤ length list =
    omega (arith, inside, c.requires.room, c.loop-b.invariant.size) in
    let size : length block ≡ 96 = omega (arith, c.stream_block-block.type_inv) in
    record {
      size = c.put.ensures.size ∙ c.loop-b.invariant.size;
      behind = kept_behind list block c.put.new.blocks old b c.put.ensures.blocks (omega (arith, fits)) size
          c.loop-b.invariant.behind;
      blocks = blocks_more words (drop start old) list block c.put.new.blocks (held_parts readings) b
          c.put.ensures.blocks fits c.put.ensures.size size c.loop-b.invariant.blocks
          (same_stream_block words (drop start list) (drop start old) (held_blocks readings b) b block
          (same_symbols words list old readings.size start b (omega arith) c.requires.late
          c.loop-b.invariant.behind)
          (subst (λ text. IsStreamBlock words text (held_blocks readings b) b block) (text_is list start)
          c.stream_block-block.ensures));
    }
