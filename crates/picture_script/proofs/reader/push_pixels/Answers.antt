use Rattle.std.proofs.Common.{◌∙◌}
use Rattle.picture_script.proofs.HexDigits.{no_digit, a_digit, all_digits, colours_more}
use Rattle.picture_script.proofs.reader.push_pixels.Goals as goal

pub unreachable-requires : goal.unreachable-requires
unreachable-requires c =
    all_digits c.args.digits.now c.loop-digit.digit-index c.requires.digits c.loop-digit-test.true
    (no_digit _ _ c.in_default.ensures.value)

pub loop-digit-preserved : goal.loop-digit-preserved
loop-digit-preserved c =
    let digit = a_digit _ _ c.in-Some.colour c.in-Some.ensures.value in
    c.in_ok-push.ensures.items
    ∙ colours_more c.args.pixels.now.items c.loop-digit.pixels.items c.args.digits.now
    c.loop-digit.digit-index c.in-Some.colour c.loop-digit-test.true c.loop-digit.invariant digit.1
