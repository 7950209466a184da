use Rattle.std.proofs.Common.{◌≡◌, map, take}
use Rattle.cdg_io.specs.Run.{run_state}
use Rattle.cdg_screen.specs.Memory.{seen}
use Rattle.cdg_screen.specs.Standing.{standing_after}
use Rattle.rw_code.specs.Finding.{finding}
use Rattle.rw_interleave.specs.Stream.{bad_count}
use Rattle.live_player.specs.Changes.{sees}
use Rattle.live_player.specs.Lives.{instructions_of}
use Rattle.live_player.proofs.seeing.draw_words_seen.Given as goal

abbrev pub invariant-loop-word : goal.invariant-loop-word
invariant-loop-word l = record {
  drawn : seen l.screen
      ≡ standing_after (seen l.fn.screen) (instructions_of (take l.word-index l.word-items));
  bad : l.bad ≡ bad_count (map finding (take l.word-index l.word-items));
  reported : l.watch ≡ run_state sees l.fn.watch (instructions_of (take l.word-index l.word-items));
}
