use Rattle.std.proofs.Common.{arith, ap, ℕ, ◌∙◌, replicate, []}
use Rattle.std.proofs.lemmas.Result.{IfOk-from_err}
use Rattle.cdtext_packs.proofs.map.empty_strings.Goals as goal

pub returns-in_err-push-clause-strings : goal.returns-in_err-push-clause-strings
returns-in_err-push-clause-strings c = IfOk-from_err c.from_residual.result _ c.from_residual.ensures.0

pub returns-in_err-push-clause-count : goal.returns-in_err-push-clause-count
returns-in_err-push-clause-count c = IfOk-from_err c.from_residual.result _ c.from_residual.ensures.0

pub returns-in_err-push-clause-each : goal.returns-in_err-push-clause-each
returns-in_err-push-clause-each c = IfOk-from_err c.from_residual.result _ c.from_residual.ensures.0

pub returns-clause-strings : goal.returns-clause-strings
returns-clause-strings c = c.loop-place.invariant.empty ∙ ap (λ (n : ℕ). replicate n []) (omega arith)

pub returns-clause-count : goal.returns-clause-count
returns-clause-count c = c.loop-place.invariant.count ∙ omega arith

pub returns-clause-each : goal.returns-clause-each
returns-clause-each c = c.loop-place.invariant.each
