use Rattle.cdg_screen.specs.Memory.{seen}
use Rattle.std.proofs.Common.{◌≡◌, ◌+◌, ◌-◌, ◌*◌, ◌≤◌, ◌∙◌, ℕ, length, take, drop, arith}
use borrow.Rule.Slice.PartMut.{put_mid}
use Rattle.cdg_screen.proofs.WholeRows.{length-part, piece_put}
use Rattle.live_player.proofs.Pictures.{part_others, part_pixels}
use Rattle.live_player.proofs.looking.write_rows.Goals as goal

pub write_line-requires-clause-size : goal.write_line-requires-clause-size
write_line-requires-clause-size c =
    let part = c.args.part.now in
    let at = c.args.stride * c.loop-j.j in
    length-part c.loop-j.pixels at (at + part.width - at)
    (omega (arith, c.requires.room c.loop-j.j c.loop-j-test.true, c.loop-j.auto.pixels))
    ∙ omega arith

pub loop-j-preserved : goal.loop-j-preserved
loop-j-preserved c =
    let now = seen c.args.screen.now in
    let part = c.args.part.now in
    let j = c.loop-j.j in
    let at = c.args.stride * j in
    let line = c.write_line.new.line in
    let room : at + part.width ≤ length c.loop-j.pixels =
    omega (arith, c.requires.room j c.loop-j-test.true, c.loop-j.auto.pixels) in
    let given : length (take (at + part.width - at) (drop at c.loop-j.pixels)) ≡ at + part.width - at =
    length-part c.loop-j.pixels at (at + part.width - at) (omega (arith, room)) in
    let size : length line ≡ part.width = c.write_line.auto.line ∙ given ∙ omega arith in
    let shown = c.write_line.ensures in
    let new = put_mid at (at + part.width - at) c.loop-j.pixels line in
    let written =
    λ (n : ℕ). piece_put at (at + part.width - at) c.loop-j.pixels line n (omega (arith, size, room))
    (omega (arith, size)) in
    record {
      pixels =
          part_pixels now line c.loop-j.pixels new c.args.pixels.now part.left part.top part.width
          c.args.stride j size c.requires.apart shown written c.loop-j.invariant.pixels;
      others =
          part_others now line c.loop-j.pixels new c.args.pixels.now part.left part.top part.width
          c.args.stride j size c.requires.apart shown written c.loop-j.invariant.others;
    }

pub returns : goal.returns
returns c = record {
  pixels = λ i j i_lt j_lt. c.loop-j.invariant.pixels i j i_lt (omega (arith, j_lt));
  others = λ n out. c.loop-j.invariant.others n (λ i j i_lt j_lt. out i j i_lt (omega (arith, j_lt)));
}
