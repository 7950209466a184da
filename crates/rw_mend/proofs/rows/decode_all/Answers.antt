use Rattle.std.proofs.Common.{◌≡◌, ◌∙◌, ◌<◌, ◌-◌, subst, sym, ap, arith, get_or, []}
use Rattle.std.proofs.lemmas.List.{get_or-set_other}
use Rattle.rw_mend.specs.Readings.{program_in, programs_in}
use Rattle.rw_mend.specs.Rows.{no_history}
use Rattle.rw_mend.specs.Histories.{IsHistory}
use Rattle.rw_mend.specs.Candidates.{candidate_of}
use Rattle.rw_mend.specs.Words.{reading_at}
use Rattle.rw_mend.proofs.Reading.{count_is, program_at}
use Rattle.rw_mend.proofs.rows.decode_all.Goals as goal

pub decode_one-requires-clause-history : goal.decode_one-requires-clause-history
decode_one-requires-clause-history c some =
    let readings = c.args.readings.now in
    let lt : 0 < readings.count = c.requires.readings.some in
    let was = (c.requires.histories some).each 0 (omega (arith, lt, count_is readings)) in
    let program : get_or (programs_in readings) 0 [] ≡ c.program-program.result.now =
    program_at readings 0 lt ∙ sym c.program-program.ensures.program in
    subst (λ p. IsHistory p (c.args.n - 1) (get_or c.args.histories.now 0 no_history)) program was

pub decode_others-requires-clause-histories : goal.decode_others-requires-clause-histories
decode_others-requires-clause-histories c r some after lt =
    let readings = c.args.readings.now in
    let histories = c.args.histories.now in
    let new = c.decode_one.new.history in
    let was = (c.requires.histories some).each r (omega (arith, lt, count_is readings)) in
    subst (λ t. IsHistory (program_in readings r) (c.args.n - 1) t)
    (sym (get_or-set_other histories 0 r new no_history (λ e. omega (arith, e, after))))
    (subst (λ p. IsHistory p (c.args.n - 1) (get_or histories r no_history)) (program_at readings r lt) was)

pub returns-clause-histories : goal.returns-clause-histories
returns-clause-histories c =
    let readings = c.args.readings.now in
    record {
      each =
          λ r lt.
          let within : r < readings.count = omega (arith, lt, count_is readings) in
          subst (λ p. IsHistory p c.args.n (get_or c.decode_others.new.histories r no_history))
          (sym (program_at readings r within))
          (c.decode_others.ensures.histories r within);
    }

pub returns-clause-row : goal.returns-clause-row
returns-clause-row c =
    let readings = c.args.readings.now in
    record {
      each =
          λ r lt.
          let within : r < readings.count = omega (arith, lt, count_is readings) in
          c.decode_others.ensures.row r within
          ∙ ap (λ p. candidate_of (reading_at p c.args.n)) (sym (program_at readings r within));
    }
