use Rattle.std.proofs.Common.{◌≡◌, ℕ, ◌/◌, ◌<◌, List, [], length, get_or, ap₂, ◌∙◌, subst, arith, length-set}
use Rattle.raw_subcode.specs.Channels.{unit_size, blocks_of}
use Rattle.stream_stages.specs.Steps.{words_next, words_give}
use Rattle.stream_stages.specs.declared.block_words.BlockWords.{BlockWords}
use Rattle.block_survey.specs.Rows.{row_with, row_of_block, ended_words, words_with_block}
use Rattle.block_survey.proofs.EndedWords.{words_there, after_more}
use Rattle.block_survey.proofs.Sums.{one_more, one_less}
use Rattle.block_survey.proofs.surveying.survey.Goals as goal

pub loop-b-preserved : goal.loop-b-preserved
loop-b-preserved c =
    let form = c.args.form in
    let lead_in = c.args.lead_in in
    let bytes = c.args.stream.now in
    let b = c.loop-b.b in
    let blocks : List (List ℕ) = blocks_of form bytes in
    let before = c.loop-b.invariant in
    let lt : b < length bytes / unit_size form =
    subst (λ size. b < length bytes / size) c.unit_bytes.ensures c.loop-b-test.true in
    let block : c.block_at-block.result ≡ get_or blocks b [] = c.block_at-block.ensures in
    let words : words_with_block (words_give c.loop-b.words c.block_at-block.result)
    ≡ ended_words form lead_in bytes b =
    ap₂ (λ (s : BlockWords) (x : List ℕ). words_with_block (words_give s x)) before.words block
    ∙ words_there form lead_in bytes b lt in
    let row : c.next_row.result ≡ row_of_block form lead_in bytes b =
    c.next_row.ensures.row ∙ ap₂ (row_with form) words block in
    record {
      room = omega (arith, before.room, length-set c.loop-b.rows b c.next_row.result);
      words =
          c.next_row.ensures.next ∙ ap₂ words_next before.words block ∙ after_more form lead_in bytes b lt;
      done =
          one_more (row_of_block form lead_in bytes) c.loop-b.rows b c.next_row.result (omega arith)
          before.done row;
      rest = one_less c.args.rows.now c.loop-b.rows b c.next_row.result before.rest;
    }
