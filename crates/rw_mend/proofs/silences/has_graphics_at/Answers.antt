use Rattle.std.proofs.Common.{rules, ◌≡◌, false, sym, subst, inl, inr, arith}
use Rattle.std.proofs.lemmas.Bool.{cases_eq}
use Rattle.rw_mend.specs.Drops.{HasGraphics}
use Rattle.rw_mend.specs.Readings.{programs_in}
use Rattle.rw_mend.proofs.Missing.{match_not}
use Rattle.rw_mend.proofs.silences.has_graphics_at.Goals as goal

pub returns-then-m-calm-2-clause-calm : goal.returns-then-m-calm-2-clause-calm
returns-then-m-calm-2-clause-calm c n is =
    let programs = programs_in c.args.readings.now in
    let fails : c.is_any_graphics_at.result ≡ false = search rules in
    let none : ¬ HasGraphics programs c.args.m =
    match_not c.is_any_graphics_at.result (HasGraphics programs c.args.m) fails
    c.is_any_graphics_at.ensures in
    record {
      none =
          λ k from to.
          elim (cases_eq k c.args.m) [
            | inl same ↦ subst (λ j. ¬ HasGraphics programs j) (sym same) none
            | inr differs ↦ is.none k from (omega (arith, to, differs, c.if-m-calm-2.true))
          ];
    }
