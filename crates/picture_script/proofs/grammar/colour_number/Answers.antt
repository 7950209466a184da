use Rattle.std.proofs.Common.{arith, get_or, rules}
use Rattle.picture_script.proofs.OneDigit.{digit_small, one_digit}
use Rattle.picture_script.proofs.grammar.colour_number.Goals as goal

pub returns-in-32-clause-ok : goal.returns-in-32-clause-ok
returns-in-32-clause-ok c =
    let words = c.args.words.now in (
      one_digit words (omega arith) (omega arith) (search rules) (search rules),
      digit_small (get_or words 1 0) (search rules),
    )
