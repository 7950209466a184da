use Rattle.std.proofs.Common.{◌≡◌, ◌≤◌, length, take}
use Rattle.block_survey.specs.Rows.{marks_of}
use Rattle.block_survey.proofs.counting.WordMarks.of.Given as goal

abbrev pub invariant-loop-word : goal.invariant-loop-word
invariant-loop-word l = record {
  few : length l.words ≤ 4;
  clean : l.marks.clean ≤ l.word-index;
  one : l.marks.one ≤ l.word-index;
  two : l.marks.two ≤ l.word-index;
  bad : l.marks.bad ≤ l.word-index;
  marks : l.marks ≡ marks_of (take l.word-index l.words);
}
