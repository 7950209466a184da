use Rattle.std.proofs.Common.{refl}
use Rattle.rw_merge.proofs.PairReads.{end_of_first_failed, end_of_second_failed, first_goes_on, no_byte_follows, second_goes_on}
use Rattle.rw_merge.proofs.pairs.end_merge.Goals as goal

pub returns-in-Ok-clause-end : goal.returns-in-Ok-clause-end
returns-in-Ok-clause-end g c =
    first_goes_on _ _ _ c.in-Ok.field-0 c.in-Ok.ensures.1 c.in-Ok.field-0-test.1

pub returns-in-Err-clause-end : goal.returns-in-Err-clause-end
returns-in-Err-clause-end g c = end_of_first_failed _ _ _ _ c.in-Err.ensures.1

pub returns-in-Ok-eq0-next_byte-clause-end : goal.returns-in-Ok-eq0-next_byte-clause-end
returns-in-Ok-eq0-next_byte-clause-end g c =
    no_byte_follows c.in-Ok-eq0.ensures.1 c.in-Ok-eq0.field-0-test c.args.merged c.in-Ok-eq0-next_byte.field-0
    c.in-Ok-eq0-next_byte.ensures.1 c.in-Ok-eq0-next_byte.field-0-test

pub returns-in-Ok-next_byte-clause-end : goal.returns-in-Ok-next_byte-clause-end
returns-in-Ok-next_byte-clause-end g c =
    second_goes_on c.in-Ok-eq0.ensures.1 c.in-Ok-eq0.field-0-test c.in-Ok-next_byte.field-0
    c.in-Ok-next_byte.ensures.1 c.in-Ok-next_byte.field-0-test.1

pub returns-in-Err-next_byte-clause-end : goal.returns-in-Err-next_byte-clause-end
returns-in-Err-next_byte-clause-end g c =
    end_of_second_failed c.in-Ok-eq0.ensures.1 c.in-Ok-eq0.field-0-test _ c.in-Err-next_byte.ensures.1

pub returns-in-Ok-clause-faults : goal.returns-in-Ok-clause-faults
returns-in-Ok-clause-faults g c = (c.in-Ok.ensures.1.cause.same, refl)

pub returns-in-Err-clause-faults : goal.returns-in-Err-clause-faults
returns-in-Err-clause-faults g c =
    let cause = c.in-Err.ensures.1.cause in
    ((cause.later, cause.failed), refl)

pub returns-in-Ok-eq0-next_byte-clause-faults : goal.returns-in-Ok-eq0-next_byte-clause-faults
returns-in-Ok-eq0-next_byte-clause-faults g c =
    (c.in-Ok-eq0.ensures.1.cause.same, c.in-Ok-eq0-next_byte.ensures.1.cause.same)

pub returns-in-Ok-next_byte-clause-faults : goal.returns-in-Ok-next_byte-clause-faults
returns-in-Ok-next_byte-clause-faults g c =
    (c.in-Ok-eq0.ensures.1.cause.same, c.in-Ok-next_byte.ensures.1.cause.same)

pub returns-in-Err-next_byte-clause-faults : goal.returns-in-Err-next_byte-clause-faults
returns-in-Err-next_byte-clause-faults g c =
    let cause = c.in-Err-next_byte.ensures.1.cause in
    (c.in-Ok-eq0.ensures.1.cause.same, (cause.later, cause.failed))
