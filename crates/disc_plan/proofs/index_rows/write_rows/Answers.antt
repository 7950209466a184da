use Rattle.std.proofs.Common.{◌≡◌, ◌+◌, ◌++◌, ◌<◌, ◌∙◌, List, length, drop, ap, sym, arith, length-append}
use Rattle.cue_sheet.specs.CueSheet.{track_of}
use Rattle.disc_plan.specs.SheetRows.{track_rows}
use Rattle.disc_plan.specs.declared.index_rows.SheetRow.{SheetRow}
use Rattle.disc_plan.proofs.Tracks.{put_more, rows_before, rows_more, track_fits}
use Rattle.disc_plan.proofs.index_rows.write_rows.Goals as goal

pub write_track-requires-clause-room : goal.write_track-requires-clause-room
write_track-requires-clause-room c =
    let lt : c.loop-k.k < length c.args.sheet.now.tracks = omega (arith, c.tracks-k-end.ensures.count) in
    omega (
      arith,
      track_fits c.args.sheet.now c.loop-k.k lt,
      c.loop-k.invariant.at,
      c.requires,
      c.loop-k.auto.rows,
    )

pub loop-k-preserved : goal.loop-k-preserved
loop-k-preserved c =
    let sheet = c.args.sheet.now in
    let k = c.loop-k.k in
    let lt : k < length sheet.tracks = omega (arith, c.tracks-k-end.ensures.count) in
    let text = rows_before sheet k in
    let piece = track_rows (track_of sheet k) in
    let more : rows_before sheet (k + 1) ≡ text ++ piece = rows_more sheet k lt in
    let size : length (text ++ piece) ≡ length (rows_before sheet (k + 1)) = ap length (sym more) in
    record {
      at = omega (arith, c.loop-k.invariant.at, c.lines_of-at.ensures.count, size, length-append text piece);
      rows =
          put_more text piece c.args.rows.now c.loop-k.rows c.write_track.new.rows c.loop-k.at
          c.loop-k.invariant.at c.loop-k.invariant.rows c.write_track.ensures
          ∙ ap (λ (t : List SheetRow). t ++ drop (length t) c.args.rows.now) (sym more);
    }
