use Rattle.std.proofs.Common.{◌≡◌, ◌∙◌, ap, length, arith, take}
use Rattle.std.proofs.lemmas.List.{take_all}
use Rattle.rw_code.proofs.Weights.{ones_of, lanes_at_most_one}
use Rattle.rw_code.proofs.word.ones.Goals as goal

pub returns : goal.returns
returns c =
    let symbols = c.args.symbols.now in
    let whole : take 8 symbols ≡ symbols = take_all 8 symbols (omega (arith, c.requires)) in
    let lanes = lanes_at_most_one (take 8 symbols) in
    let size : length (take 8 symbols) ≡ 8 = ap length whole ∙ c.requires in
    rw size at lanes
    ∙ ap ones_of whole
