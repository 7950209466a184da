use Rattle.std.proofs.Common.{◌≡◌, ◌+◌, ◌≤◌, count_by, take}
use Rattle.live_player.specs.Parity.{has_no_symbol, is_valid_pack}
use Rattle.live_player.proofs.parity.count_parity.Given as goal

abbrev pub invariant-loop-pack : goal.invariant-loop-pack
invariant-loop-pack l = record {
  idle : l.idle ≡ count_by has_no_symbol (take l.pack-index l.packs);
  valid : l.valid ≡ count_by is_valid_pack (take l.pack-index l.packs);
  most : l.idle + l.valid ≤ l.pack-index;
}
