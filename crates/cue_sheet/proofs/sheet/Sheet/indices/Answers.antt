use Rattle.std.proofs.Common.{arith}
use Rattle.cue_sheet.proofs.Readers.{found_track}
use Rattle.cue_sheet.proofs.sheet.Sheet.indices.Goals as goal

pub returns-clause-some : goal.returns-clause-some
returns-clause-some c =
    let track =
    found_track c.self.inside.album c.self.inside.tracks.items c.args.self.now c.args.k c.index.result.now
    c.self.view_is c.requires c.index.ensures c.self.invariant in
    omega (arith, c.len.ensures, track.1.indices.first, track.1.indices.has_one)
