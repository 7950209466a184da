use Rattle.std.proofs.Common.{rules, ◌≡◌, true, false, sym, subst, inl, inr, arith}
use Rattle.std.proofs.lemmas.Bool.{cases_eq}
use Rattle.rw_mend.specs.Drops.{HasGraphics}
use Rattle.rw_mend.proofs.Missing.{match_not, match_true}
use Rattle.rw_mend.proofs.Quiet.{row_graphics}
use Rattle.rw_mend.proofs.silences.has_graphics_here.Goals as goal

pub returns-then-is_any_graphics-clause-reported : goal.returns-then-is_any_graphics-clause-reported
returns-then-is_any_graphics-clause-reported c programs size rows =
    let holds : c.is_any_graphics.result ≡ true = search rules in
    match_true c.is_any_graphics.result (HasGraphics programs c.args.n) holds
    (row_graphics programs c.args.n c.args.row.now c.is_any_graphics.result size rows
    c.is_any_graphics.ensures)

pub returns-clause-reported : goal.returns-clause-reported
returns-clause-reported c programs size rows =
    let fails : c.is_any_graphics.result ≡ false = search rules in
    match_not c.is_any_graphics.result (HasGraphics programs c.args.n) fails
    (row_graphics programs c.args.n c.args.row.now c.is_any_graphics.result size rows
    c.is_any_graphics.ensures)

pub returns-clause-calm : goal.returns-clause-calm
returns-clause-calm c programs size rows calm =
    let fails : c.is_any_graphics.result ≡ false = search rules in
    let none : ¬ HasGraphics programs c.args.n =
    match_not c.is_any_graphics.result (HasGraphics programs c.args.n) fails
    (row_graphics programs c.args.n c.args.row.now c.is_any_graphics.result size rows
    c.is_any_graphics.ensures) in
    record {
      none =
          λ m from to.
          elim (cases_eq m c.args.n) [
            | inl same ↦ subst (λ j. ¬ HasGraphics programs j) (sym same) none
            | inr differs ↦ calm.none m from (omega (arith, to, from, differs, c.max.ensures))
          ];
    }
