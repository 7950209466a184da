use Rattle.cue_sheet.specs.CueSheet.{track_of}
use Rattle.disc_plan.proofs.Tracks.{few_lines}
use Rattle.std.proofs.Common.{◌≤◌, length, arith}
use Rattle.disc_plan.proofs.index_rows.lines_of.Goals as goal

pub returns-clause-few : goal.returns-clause-few
returns-clause-few c =
    let track = track_of c.args.sheet.now c.args.k in
    let few : length track.indices ≤ 100 =
    few_lines track (c.tracks_are_in_order.ensures.tracks c.args.k c.requires).indices in
    omega (arith, few, c.indices.ensures.count)
