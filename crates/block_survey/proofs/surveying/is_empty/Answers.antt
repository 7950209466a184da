use Rattle.std.proofs.Common.{◌≡◌, ℕ, List, Bool, [], ◌∷◌, length, replicate, ap, sym, refl, ◌∙◌}
use Rattle.std.specs.Prelude.{◌==◌, nat_eq, ◌&&◌}
use Rattle.std.specs.List.{list_all}
use Rattle.std.specs.Cmp.Lexicographic.{pointwise}
use Rattle.block_survey.proofs.surveying.is_empty.Goals as goal

-- bytes equal the same number of zeros if each is zero
zeros_equal : (bytes : List ℕ)
    → pointwise nat_eq bytes (replicate (length bytes) 0) ≡ list_all (λ byte. byte == 0) bytes
zeros_equal [] = refl
zeros_equal (byte ∷ bytes) = ap (λ (rest : Bool). (byte == 0) && rest) (zeros_equal bytes)

pub returns : goal.returns
returns c =
    c.eq.ensures
    ∙ ap (λ n. pointwise nat_eq c.args.block.now (replicate n 0)) (sym c.told-block)
    ∙ zeros_equal c.args.block.now
