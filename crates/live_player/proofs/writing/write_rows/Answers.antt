use Rattle.std.proofs.Common.{◌≡◌, ◌+◌, ◌-◌, ◌*◌, ◌≤◌, ◌∙◌, ℕ, length, get_or, ap, arith}
use Rattle.live_player.specs.Formats.{pixel_size, shown_bytes}
use Rattle.cdg_screen.specs.Memory.{seen}
use borrow.Rule.Slice.PartMut.{put_mid}
use Rattle.cdg_screen.proofs.WholeRows.{piece_put}
use Rattle.live_player.proofs.Rows.{part_long, row_others, row_pixels}
use Rattle.live_player.proofs.writing.write_rows.Goals as goal

pub write_row-requires-clause-size : goal.write_row-requires-clause-size
write_row-requires-clause-size c =
    let count_is : c.size.result * c.args.part.now.width ≡ pixel_size c.args.format * c.args.part.now.width =
    ap (λ s. s * c.args.part.now.width) c.size.ensures.size in
    part_long c.loop-j.out (c.args.stride * c.loop-j.j) (c.size.result * c.args.part.now.width) _
    (omega (arith, c.requires.room c.loop-j.j c.loop-j-test.true, count_is, c.loop-j.auto.out)) count_is

pub loop-j-preserved : goal.loop-j-preserved
loop-j-preserved c =
    let now = seen c.args.screen.now in
    let part = c.args.part.now in
    let format = c.args.format in
    let size = pixel_size format in
    let at = c.args.stride * c.loop-j.j in
    let line = c.write_row.new.line in
    let count = c.size.result * part.width in
    let count_is : count ≡ size * part.width = ap (λ s. s * part.width) c.size.ensures.size in
    let room : at + count ≤ length c.loop-j.out =
    omega (arith, c.requires.room c.loop-j.j c.loop-j-test.true, count_is, c.loop-j.auto.out) in
    let long : length line ≡ size * part.width =
    c.write_row.auto.line ∙ part_long c.loop-j.out at count (size * part.width) room count_is in
    let byte = λ (i m k : ℕ). get_or (shown_bytes format now (part.left + i) (part.top + m)) k 0 in
    let written =
    λ (n : ℕ). piece_put at (at + count - at) c.loop-j.out line n (omega (arith, long, room, count_is))
    (omega (arith, long, count_is)) in
    let new = put_mid at (at + count - at) c.loop-j.out line in
    record {
      pixels =
          row_pixels byte line c.loop-j.out new c.args.out.now size part.width c.args.stride c.loop-j.j long
          c.requires.apart c.write_row.ensures written c.loop-j.invariant.pixels;
      others =
          row_others byte line c.loop-j.out new c.args.out.now size part.width c.args.stride c.loop-j.j long
          c.requires.apart c.write_row.ensures written c.loop-j.invariant.others;
    }

pub returns : goal.returns
returns c = record {
  pixels = λ i j k i_lt j_lt k_lt. c.loop-j.invariant.pixels i j k i_lt (omega (arith, j_lt)) k_lt;
  others = λ n out. c.loop-j.invariant.others n (λ i j i_lt j_lt. out i j i_lt (omega (arith, j_lt)));
}
