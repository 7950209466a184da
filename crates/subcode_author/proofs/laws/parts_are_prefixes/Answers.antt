use Rattle.subcode_author.proofs.StreamParts.{part_is_prefix}
use Rattle.subcode_author.proofs.laws.parts_are_prefixes.Goals as goal

pub returns : goal.returns
returns c = part_is_prefix c.spread_carries.ensures
