use Rattle.subcode_author.proofs.Streams.{same_authored_packs, same_authored_bytes}
use Rattle.subcode_author.proofs.laws.authored_streams_are_one.Goals as goal

pub returns-clause-packs : goal.returns-clause-packs
returns-clause-packs c = same_authored_packs

pub returns-clause-bytes : goal.returns-clause-bytes
returns-clause-bytes c = same_authored_bytes
