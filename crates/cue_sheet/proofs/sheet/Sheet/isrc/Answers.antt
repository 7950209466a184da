use Rattle.cue_sheet.proofs.Readers.{found_track}
use Rattle.cue_sheet.proofs.sheet.Sheet.isrc.Goals as goal

pub returns-in-Some-clause-characters : goal.returns-in-Some-clause-characters
returns-in-Some-clause-characters c =
    let track =
    found_track c.self.inside.album c.self.inside.tracks.items c.args.self.now c.args.k c.index.result.now
    c.self.view_is c.requires c.index.ensures c.self.invariant in
    track.1.isrc c.in-Some.code c.in-Some.is
