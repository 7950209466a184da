use Rattle.std.proofs.Common.{◌≡◌, ℕ, ◌+◌, ◌<◌, ◌%◌, List, length, get_or, map, ◌∙◌, sym, arith, rules}
use Rattle.std.proofs.lemmas.Grind.{common_steps, same_number_lists}
use Rattle.std.proofs.lemmas.List.{length-map, get_or-map}
use Rattle.std.proofs.Math.ListN.{set}
use Rattle.rw_code.proofs.word.Word.new.Goals as goal

-- one more byte is reduced to its low six bits
low_next : (bytes low : List ℕ) (i : ℕ) → i < 24 → length low ≡ 24
    → ((k : ℕ) → k < i → get_or low k 0 ≡ get_or bytes k 0 % 64)
    → (length (set low i (get_or bytes i 0 % 64)) ≡ 24)
    × ((k : ℕ) → k < i + 1 → get_or (set low i (get_or bytes i 0 % 64)) k 0 ≡ get_or bytes k 0 % 64)
low_next bytes low i lt size before = (search rules, λ k k_lt. grind (arith, common_steps))

pub loop-i-preserved : goal.loop-i-preserved
loop-i-preserved c =
    low_next c.args.bytes.now c.loop-i.low c.loop-i.i c.loop-i-test.true c.loop-i.invariant.0
    c.loop-i.invariant.1

pub returns : goal.returns
returns c =
    let bytes = c.args.bytes.now in
    let size : length bytes ≡ 24 = search rules in
    same_number_lists c.loop-i.low (map (λ byte. byte % 64) bytes)
    (c.loop-i.invariant.0 ∙ sym (length-map bytes (λ byte. byte % 64) ∙ size)) (λ k lt.
    c.loop-i.invariant.1 k (omega arith) ∙ sym (get_or-map (λ byte. byte % 64) bytes k 0 0 (omega arith)))
