use Rattle.std.proofs.Common.{◌-◌, arith}
use Rattle.cue_sheet.proofs.Readers.{found_track, text_of_place, track_text_is}
use Rattle.cue_sheet.proofs.sheet.Sheet.text.Goals as goal

pub returns-clause-text : goal.returns-clause-text
returns-clause-text c =
    let track =
    found_track c.self.inside.album c.self.inside.tracks.items c.args.self.now (c.args.place - 1)
    c.index.result.now c.self.view_is (omega arith) c.index.ensures c.self.invariant in
    text_of_place c.args.kind c.args.self.now c.args.place c.index.result.now _ (omega arith) track.0
    c.text-2.ensures

pub returns-clause-plain : goal.returns-clause-plain
returns-clause-plain c =
    let track =
    found_track c.self.inside.album c.self.inside.tracks.items c.args.self.now (c.args.place - 1)
    c.index.result.now c.self.view_is (omega arith) c.index.ensures c.self.invariant in
    track_text_is c.args.kind c.index.result.now _ track.1 c.text-2.ensures
