use Rattle.std.proofs.Common.{rules, ◌≡◌, true, false, ap, ◌∙◌, arith}
use Rattle.std.proofs.lemmas.List.{get_or_default}
use Rattle.rw_mend.specs.Drops.{HasGraphics}
use Rattle.rw_mend.specs.Candidates.{is_idle_candidate}
use Rattle.rw_mend.specs.declared.candidates.Candidate.TheVariants.{Silent}
use Rattle.rw_mend.proofs.Missing.{match_not, match_true}
use Rattle.rw_mend.proofs.Quiet.{idle_misses}
use Rattle.rw_mend.proofs.silences.misses_here.Goals as goal

pub returns-then-not-has_graphics_here-clause-reported
    : goal.returns-then-not-has_graphics_here-clause-reported
returns-then-not-has_graphics_here-clause-reported c programs size rows misses =
    let fails : c.has_graphics_here.result ≡ false = search rules in
    match_not c.has_graphics_here.result (HasGraphics programs c.args.n) fails
    (c.has_graphics_here.ensures.reported programs size rows) misses.graphics

pub returns-clause-reported : goal.returns-clause-reported
returns-clause-reported c programs size rows =
    let r = c.args.r in
    let row = c.args.row.now in
    let holds : c.has_graphics_here.result ≡ true = search rules in
    idle_misses programs r c.args.n c.is_idle.result
    (match_true c.has_graphics_here.result (HasGraphics programs c.args.n) holds
    (c.has_graphics_here.ensures.reported programs size rows))
    (c.is_idle.ensures
    ∙ ap is_idle_candidate
    (c.index-row-r.is ∙ get_or_default row r c.index-row-r.result Silent c.requires.reading
    ∙ rows.each r (omega (arith, size, c.requires.reading))))
