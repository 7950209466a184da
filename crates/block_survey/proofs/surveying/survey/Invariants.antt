use Rattle.std.proofs.Common.{◌≡◌, ◌≤◌, length, map, take, drop}
use Rattle.bit_lists.specs.Counting.{below}
use Rattle.raw_subcode.specs.Channels.{blocks_of}
use Rattle.block_survey.specs.Rows.{row_of_block}
use Rattle.block_survey.proofs.EndedWords.{after}
use Rattle.block_survey.proofs.surveying.survey.Given as goal

abbrev pub invariant-loop-b : goal.invariant-loop-b
invariant-loop-b l = record {
  room : l.b-end ≤ length l.rows;
  words : l.words ≡ after l.fn.form l.fn.lead_in (take l.b (blocks_of l.fn.form l.fn.stream));
  done : take l.b l.rows ≡ map (row_of_block l.fn.form l.fn.lead_in l.fn.stream) (below l.b);
  rest : drop l.b l.rows ≡ drop l.b l.fn.rows;
}
