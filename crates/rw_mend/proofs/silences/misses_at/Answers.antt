use Rattle.std.proofs.Common.{rules, ◌≡◌, ◌≢◌, true, ap, sym, ◌∙◌}
use Rattle.std.proofs.lemmas.Bool.{false≢true}
use Rattle.rw_mend.specs.Drops.{HasGraphics, Misses}
use Rattle.rw_mend.specs.Readings.{programs_in}
use Rattle.rw_mend.specs.Candidates.{is_idle_candidate, is_quiet_candidate, candidate_of}
use Rattle.rw_mend.specs.Words.{given_at, reading_at}
use Rattle.rw_mend.specs.declared.candidates.Coverage.TheVariants.{Unread}
use Rattle.rw_mend.proofs.Missing.{match_other}
use Rattle.rw_mend.proofs.Quiet.{read_idle, unread_not_idle}
use Rattle.rw_mend.proofs.Reading.{program_at}
use Rattle.rw_mend.proofs.Unread.{reading-coverage}
use Rattle.rw_mend.proofs.silences.misses_at.Goals as goal

pub returns-then-eq-clause-reported : goal.returns-then-eq-clause-reported
returns-then-eq-clause-reported c misses =
    let program = c.args.program.now in
    let m = c.args.m in
    let is = c.requires.program ∙ sym (program_at c.args.readings.now c.args.r c.requires.reading) in
    let unread : c.coverage.result ≡ Unread = search rules in
    false≢true
    (sym (unread_not_idle (reading_at program m)
    (reading-coverage program m ∙ sym (c.coverage.ensures program c.requires.history) ∙ unread))
    ∙ ap (λ p. is_idle_candidate (candidate_of (reading_at p m))) is
    ∙ misses.idle)

pub returns-clause-reported : goal.returns-clause-reported
returns-clause-reported c =
    let programs = programs_in c.args.readings.now in
    let program = c.args.program.now in
    let r = c.args.r in
    let m = c.args.m in
    let is = c.requires.program ∙ sym (program_at c.args.readings.now r c.requires.reading) in
    let some : c.coverage.result ≢ Unread = search rules in
    let is_read : (reading_at program m).coverage ≢ Unread =
    λ unread.
    some (c.coverage.ensures program c.requires.history ∙ sym (reading-coverage program m) ∙ unread) in
    let idle : is_idle_candidate (given_at programs r m) ≡ true =
    ap (λ p. is_idle_candidate (candidate_of (reading_at p m))) (sym is)
    ∙ read_idle (reading_at program m) is_read
    ∙ ap (λ p. is_quiet_candidate (candidate_of (reading_at p m))) is
    ∙ c.requires.quiet in
    match_other c.has_graphics_at.result (HasGraphics programs m) (Misses programs r m)
    (λ graphics. record { idle = idle; graphics = graphics }) (λ misses. misses.graphics)
    c.has_graphics_at.ensures.reported
