use Rattle.std.proofs.KnownBytes.{Appends-nil}
use Rattle.stream_stages.proofs.TextFaults.{text_fault}
use Rattle.stream_stages.proofs.listings.TextLister.write_texts.Goals as goal

pub returns-in-Err-clause-writes : goal.returns-in-Err-clause-writes
returns-in-Err-clause-writes g c =
    let kept = c.args.self.now.texts.blocks.reader in
    (text_fault kept c.in-Err.fault c.in-Err.ensures.fault c.in-Err.ensures.refused, Appends-nil _)
