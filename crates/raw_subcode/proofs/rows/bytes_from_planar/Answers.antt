use Rattle.std.proofs.Common.{◌≡◌, ◌+◌, ◌*◌, ◌<◌, ℕ, List, [], ◌∷◌}
use Rattle.std.specs.Prelude.{slice_index}
use Rattle.raw_subcode.specs.Rows.{in_rows}
use Rattle.raw_subcode.proofs.RowBits.{eight, eight_rows, rows_form}
use Rattle.raw_subcode.proofs.rows.bytes_from_planar.Goals as goal

pub turned-requires : goal.turned-requires
turned-requires c =
    eight_rows _ _ _ _ _ _ _ _ c.channel_row.ensures.size c.channel_row-2.ensures.size
    c.channel_row-3.ensures.size c.channel_row-4.ensures.size c.channel_row-5.ensures.size
    c.channel_row-6.ensures.size c.channel_row-7.ensures.size c.channel_row-8.ensures.size

pub returns : goal.returns
returns c =
    let planar = c.args.planar.now in
    let rows : List (List ℕ) =
    c.channel_row.result ∷ c.channel_row-2.result ∷ c.channel_row-3.result ∷ c.channel_row-4.result
    ∷ c.channel_row-5.result ∷ c.channel_row-6.result ∷ c.channel_row-7.result ∷ c.channel_row-8.result
    ∷ [] in
    rows_form c.side_by_side.result planar rows c.turned.result c.told-planar c.side_by_side.ensures
    c.turned.ensures.bits
    (eight (λ channel. (k : ℕ) → k < 12 → in_rows rows channel k ≡ slice_index planar (12 * channel + k))
    c.channel_row.ensures.lanes c.channel_row-2.ensures.lanes c.channel_row-3.ensures.lanes
    c.channel_row-4.ensures.lanes
    c.channel_row-5.ensures.lanes c.channel_row-6.ensures.lanes c.channel_row-7.ensures.lanes
    c.channel_row-8.ensures.lanes)
