use Rattle.std.proofs.Common.{◌≡◌, ℕ, ◌∙◌, ◌+◌, ◌-◌, ◌*◌, ◌%◌, ap, map, take, drop, arith}
use Rattle.stream_stages.specs.Steps.{slot_of}
use Rattle.stream_stages.proofs.block_words.slot.Goals as goal

pub returns : goal.returns
unfolding slot_of
returns c =
    let size : 24 * c.args.i + 24 - 24 * c.args.i ≡ 24 = omega arith in
    c.new.ensures
    ∙ ap (map (λ (b : ℕ). b % 64))
    (c.copy_from_slice.ensures.after ∙ ap (λ n. take n (drop (24 * c.args.i) c.args.block.now)) size)
