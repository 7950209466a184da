use Rattle.std.proofs.Common.{◌≡◌, map, take}
use Rattle.rw_code.specs.Finding.{finding}
use Rattle.stream_stages.proofs.NearIdle.{idles}
use Rattle.stream_stages.proofs.block_packs.are_near_idle.Given as goal

abbrev pub invariant-loop-word : goal.invariant-loop-word
invariant-loop-word l = map finding (take l.word-index l.word-items) ≡ idles l.word-index
