use Rattle.std.proofs.Common.{arith}
use Rattle.cue_sheet.proofs.Readers.{found_track}
use Rattle.cue_sheet.proofs.sheet.Sheet.control.Goals as goal

pub returns-clause-bound : goal.returns-clause-bound
returns-clause-bound c =
    let track =
    found_track c.self.inside.album c.self.inside.tracks.items c.args.self.now c.args.k c.index.result.now
    c.self.view_is c.requires c.index.ensures c.self.invariant in
    omega (arith, c.unwrap_or.ensures, track.1.control)
