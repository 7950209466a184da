use Rattle.cue_sheet.proofs.Readers.{first_range}
use Rattle.cue_sheet.proofs.sheet.Sheet.first.Goals as goal

pub returns-clause-bound : goal.returns-clause-bound
returns-clause-bound c =
    first_range c.self.inside.album c.self.inside.tracks.items c.index.result.now c.index.ensures
    c.self.invariant
