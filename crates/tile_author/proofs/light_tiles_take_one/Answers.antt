use Rattle.std.proofs.Common.{sym, inl, inr}
use Rattle.tile_author.proofs.Answering.{one_step}
use Rattle.tile_author.proofs.Needed.{equal_decides}
use Rattle.tile_author.proofs.light_tiles_take_one.Goals as goal

pub returns : goal.returns
returns c old new old_size new_size light other = elim (equal_decides old new old_size new_size) [
  | inl same ↦ absurd (other same.1)
  | inr differ ↦ sym (one_step old new differ.0 (sym light))
]
