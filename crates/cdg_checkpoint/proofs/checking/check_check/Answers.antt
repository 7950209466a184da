use Rattle.std.proofs.Common.{refl, ◌∙◌, sym, arith}
use Rattle.cdg_checkpoint.proofs.checking.check_check.Goals as goal

pub returns-then-short_number-check_of_body : goal.returns-then-short_number-check_of_body
returns-then-short_number-check_of_body c = record {
  k = 0;
  field = omega arith;
  byte_is = refl;
  out =
      λ same.
      c.if-short_number-check_of_body.true (c.short_number.ensures ∙ same ∙ sym c.check_of_body.ensures);
  earlier = λ j lt. absurd (omega (arith, lt));
}
