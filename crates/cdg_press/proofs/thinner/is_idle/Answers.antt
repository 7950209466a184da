use Rattle.std.proofs.Common.{◌%◌, ◌∙◌, arith}
use Rattle.std.proofs.lemmas.Bool.{eqb-true}
use Rattle.std.proofs.lemmas.List.{get_or-map}
use Rattle.cdg_press.proofs.Meanings.{idle_by_mode}
use Rattle.cdg_press.proofs.thinner.is_idle.Goals as goal

pub returns : goal.returns
returns c =
    λ zero. idle_by_mode c.args.bytes.now
    (get_or-map (λ byte. byte % 64) c.args.bytes.now 0 0 0 (omega (arith, c.told-bytes))
    ∙ eqb-true _ _ zero)
