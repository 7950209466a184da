use Rattle.std.proofs.Common.{◌≡◌, ◌≤◌, ◌*◌, ◌++◌, drop, length, map, take}
use Rattle.rw_code.specs.Finding.{finding}
use Rattle.rw_interleave.specs.Texts.{cdg_bytes}
use Rattle.stream_stages.specs.Steps.{bad_after}
use Rattle.stream_stages.proofs.block_packs.BlockPacks.put_packs.Given as goal

abbrev pub invariant-loop-word : goal.invariant-loop-word
invariant-loop-word l = record {
  few : length l.word-items ≤ 4;
  at : l.at ≡ 24 * l.word-index;
  size : length (cdg_bytes (map finding (take l.word-index l.word-items))) ≡ l.at;
  place : l.place ≡ cdg_bytes (map finding (take l.word-index l.word-items)) ++ drop l.at l.initial.place;
  bad : l.self.bad ≡ bad_after l.fn.self.bad (take l.word-index l.word-items);
  words : l.self.words ≡ l.fn.self.words;
}
