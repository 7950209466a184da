use Rattle.std.proofs.Common.{sym, subst}
use Rattle.rw_mend.specs.Readings.{programs_in}
use Rattle.rw_mend.specs.Rows.{IsRow}
use Rattle.rw_mend.proofs.Coming.{row_taken}
use Rattle.rw_mend.proofs.mender.say_next.Goals as goal

pub advance_all-requires-clause-row : goal.advance_all-requires-clause-row
advance_all-requires-clause-row c =
    subst (IsRow (programs_in c.args.readings.now) c.args.n) (sym c.candidates-row.ensures.candidates)
    (row_taken c.args.readings.now c.args.n c.args.given.now.candidates c.requires.row)
