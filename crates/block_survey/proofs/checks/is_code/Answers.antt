use Rattle.std.proofs.Common.{◌≡◌, All, true, drop}
use Rattle.std.specs.Char.{is_ascii_digit}
use Rattle.block_survey.proofs.Codes.{third_tested}
use Rattle.block_survey.proofs.checks.is_code.Goals as goal

pub returns : goal.returns
returns c =
    third_tested (All (λ d. is_ascii_digit d ≡ true)) c.split_at.result.1.now (drop 5 c.args.code.now)
    c.split_at.ensures.back
    (c.are_capitals.ensures.each.0 c.if-not-are_capitals.false)
    (c.are_capitals_or_digits.ensures.each.0 c.if-not-are_capitals_or_digits.false) c.are_digits.ensures.each
