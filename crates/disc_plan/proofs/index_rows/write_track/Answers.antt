use Rattle.std.proofs.Common.{◌≡◌, ◌+◌, ◌<◌, ◌∙◌, List, length, get_or, sym, ap₂, arith}
use Rattle.std.proofs.Math.ListN.{set}
use Rattle.std.proofs.lemmas.List.{get_or-map, length-map}
use Rattle.std.proofs.lemmas.List.Edits.{paste_more}
use Rattle.cue_sheet.specs.CueSheet.{track_of}
use Rattle.disc_plan.specs.SheetRows.{sheet_row, track_rows}
use Rattle.disc_plan.specs.declared.index_rows.SheetRow.{SheetRow}
use Rattle.disc_plan.proofs.index_rows.write_track.Goals as goal

pub loop-j-preserved : goal.loop-j-preserved
loop-j-preserved c =
    let track = track_of c.args.sheet.now c.args.k in
    let rows = track_rows track in
    let j = c.loop-j.j in
    let within : j < length rows = omega (arith, c.lines_of-j-end.ensures.count) in
    let line : j < length track.indices = omega (arith, within, length-map track.indices (sheet_row track)) in
    let is : c.row.result ≡ get_or rows j c.row.result =
    c.row.ensures ∙ sym (get_or-map (sheet_row track) track.indices j (0, 0) c.row.result line) in
    ap₂ (λ (l : List SheetRow) (row : SheetRow). set l (c.args.at + j) row) c.loop-j.invariant is
    ∙ paste_more c.args.rows.now c.args.at rows j c.row.result (omega (arith, within, c.requires.room)) within
