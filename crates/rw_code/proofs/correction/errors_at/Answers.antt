use Rattle.std.proofs.Common.{◌≢◌, ◌<◌, ℕ, Some, ap₂, sym, ◌∙◌, refl, subst, bit_xor, arith}
use Rattle.std.specs.declared.option.Option.{Option}
use Rattle.rw_code.specs.declared.correction.Places.{Places}
use Rattle.rw_code.specs.declared.correction.TwoErrors.{TwoErrors}
use Rattle.std.proofs.lemmas.Bool.{false≢true}
use Rattle.gf64.proofs.FieldLaws.{product-lt}
use Rattle.rw_code.proofs.Errors.{powers_apart}
use Rattle.rw_code.proofs.Locating.{two_values}
use Rattle.rw_code.proofs.correction.errors_at.Goals as goal
use Rattle.rw_code.proofs.correction.errors_at.Goals.{then-is_zero-via-then-is_zero, then-is_zero-via-else-is_zero+then-is_zero-2}

abbrev some_errors : Places → ℕ → ℕ → Option TwoErrors
some_errors places e f =
    Some (record {
      first = record { position = places.first; value = e };
      second = record { position = places.second; value = f };
    })

pub inv-requires : goal.inv-requires
inv-requires c = λ none.
    let places = c.args.places in
    let apart : places.second ≢ places.first = λ same. absurd (omega (arith, c.requires.0)) in
    powers_apart places.first places.second (omega (arith, c.requires.0, c.requires.1)) c.requires.1 apart
    (sym (c.add-2.ensures.sum ∙ ap₂ bit_xor c.power_at-high.ensures c.power_at-low.ensures) ∙ none)

pub returns-then-is_zero-clause-only : goal.returns-then-is_zero-clause-only
returns-then-is_zero-clause-only c = λ e f are.
    let found =
    two_values c.args.sums.now c.args.places e f _ _ _ _ _ _ _ _ are c.power_at-high.ensures
    c.power_at-low.ensures c.mul.ensures c.add.ensures.sum c.add-2.ensures.sum c.inv.ensures
    c.mul-second.ensures c.add-first.ensures.sum in
    elim c.then-is_zero.branch [
      | then-is_zero-via-then-is_zero w ↦
          absurd (are.first_error.wrong (sym found.0 ∙ w.if-is_zero.ensures.0 refl))
      | then-is_zero-via-else-is_zero+then-is_zero-2 w ↦
          absurd (are.second_error.wrong (sym found.1 ∙ w.if-is_zero-2.ensures.0 refl))
    ]

pub returns-clause-only : goal.returns-clause-only
returns-clause-only c = λ e f are.
    let found =
    two_values c.args.sums.now c.args.places e f _ _ _ _ _ _ _ _ are c.power_at-high.ensures
    c.power_at-low.ensures c.mul.ensures c.add.ensures.sum c.add-2.ensures.sum c.inv.ensures
    c.mul-second.ensures c.add-first.ensures.sum in
    ap₂ (some_errors c.args.places) found.0 found.1

pub returns-clause-some : goal.returns-clause-some
returns-clause-some c = (
  refl,
  refl,
  record {
    place = omega (arith, c.requires.0, c.requires.1);
    below = c.add-first.ensures.below;
    wrong = λ none. false≢true (c.if-is_zero.ensures.1 none);
  },
  record {
    place = c.requires.1;
    below = subst (λ n. n < 64) (sym c.mul-second.ensures) (product-lt _ _);
    wrong = λ none. false≢true (c.if-is_zero-2.ensures.1 none);
  },
)
