use Rattle.std.proofs.Common.{◌≡◌, ◌/◌, ◌%◌, arith}
use Rattle.cdg_screen.proofs.screen.Screen.state_head.Goals as goal

pub returns : goal.returns
returns c =
    let one_digit : c.args.self.now.h ≡ c.args.self.now.h / 1 % 10 =
    omega (arith, c.offset_h.ensures.offset, c.offset_h.ensures.range) in
    rw (
      c.add-7.ensures.bytes,
      c.add-6.ensures.bytes,
      c.add-5.ensures.bytes,
      c.add-4.ensures.bytes,
      c.add-3.ensures.bytes,
      c.add-2.ensures.bytes,
      c.add.ensures.bytes,
      c.new-lines.ensures,
      c.two_digits-2.ensures,
      c.offset_v.ensures.offset,
      c.digit.ensures,
      c.offset_h.ensures.offset,
      c.two_digits.ensures,
      c.border.ensures.border,
      ← one_digit,
    )
