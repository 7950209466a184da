use Rattle.std.proofs.Common.{◌≡◌, ◌++◌, map, take}
use Rattle.std.specs.Char.{digit_value}
use Rattle.picture_script.proofs.reader.push_pixels.Given as goal

abbrev pub invariant-loop-digit : goal.invariant-loop-digit
invariant-loop-digit l = l.pixels.items ≡ l.fn.pixels.items ++ map digit_value (take l.digit-index l.digits)
