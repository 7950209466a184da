use Rattle.std.proofs.Common.{◌==◌, ◌%◌, ℕ, sym, ◌∙◌}
use Rattle.std.proofs.lemmas.List.Folds.{list_all-map}
use Rattle.rw_mend.proofs.cover.is_blank.Goals as goal

pub returns : goal.returns
returns c =
    c.has_no_symbol.ensures
    ∙ sym (list_all-map (λ (symbol : ℕ). symbol == 0) (λ (byte : ℕ). byte % 64) c.args.block.now)
