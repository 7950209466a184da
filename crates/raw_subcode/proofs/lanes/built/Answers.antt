use Rattle.std.proofs.Common.{◌+◌, ◌%◌, ◌∙◌, ◌<◌, ℕ, ap, arith}
use Rattle.std.specs.Prelude.{slice_index}
use Rattle.raw_subcode.specs.Channels.{channel_bit}
use Rattle.raw_subcode.proofs.BuiltBytes.{built_p, built_q, built_symbol, sum_of_lanes, sum-fits}
use Rattle.raw_subcode.proofs.lanes.built.Goals as goal

pub overflow_mul-q_bits : goal.overflow_mul-q_bits
overflow_mul-q_bits c =
    let symbols : ℕ → ℕ = λ k. slice_index c.args.symbols.now (c.args.first + k) in
    let small : (k : ℕ) → k < 8 → symbols k < 64 =
    λ k k_lt.
    c.requires.symbols (c.args.first + k) 0 (omega (arith, k_lt, c.told-symbols, c.requires.first)) in
    let fits =
    sum-fits c.args.p c.args.q c.from-p_bits.result c.from.result c.eight_bytes-eight.result symbols
    (omega arith) c.from-p_bits.ensures c.from.ensures c.eight_bytes-eight.ensures small in
    omega arith

pub overflow_add-p_bits : goal.overflow_add-p_bits
overflow_add-p_bits c =
    let symbols : ℕ → ℕ = λ k. slice_index c.args.symbols.now (c.args.first + k) in
    let small : (k : ℕ) → k < 8 → symbols k < 64 =
    λ k k_lt.
    c.requires.symbols (c.args.first + k) 0 (omega (arith, k_lt, c.told-symbols, c.requires.first)) in
    let fits =
    sum-fits c.args.p c.args.q c.from-p_bits.result c.from.result c.eight_bytes-eight.result symbols
    (omega arith) c.from-p_bits.ensures c.from.ensures c.eight_bytes-eight.ensures small in
    omega arith

pub overflow_add-p_bits-2 : goal.overflow_add-p_bits-2
overflow_add-p_bits-2 c =
    let symbols : ℕ → ℕ = λ k. slice_index c.args.symbols.now (c.args.first + k) in
    let small : (k : ℕ) → k < 8 → symbols k < 64 =
    λ k k_lt.
    c.requires.symbols (c.args.first + k) 0 (omega (arith, k_lt, c.told-symbols, c.requires.first)) in
    let fits =
    sum-fits c.args.p c.args.q c.from-p_bits.result c.from.result c.eight_bytes-eight.result symbols
    (omega arith) c.from-p_bits.ensures c.from.ensures c.eight_bytes-eight.ensures small in
    omega arith

pub returns-clause-p : goal.returns-clause-p
returns-clause-p c = λ j lt.
    let symbols : ℕ → ℕ = λ k. slice_index c.args.symbols.now (c.args.first + k) in
    let small : (k : ℕ) → k < 8 → symbols k < 64 =
    λ k k_lt.
    c.requires.symbols (c.args.first + k) 0 (omega (arith, k_lt, c.told-symbols, c.requires.first)) in
    ap (λ bytes. channel_bit 0 (slice_index bytes j)) c.to_le_bytes.ensures
    ∙ built_p c.args.p c.args.q _ j symbols small
    (sum_of_lanes c.args.p c.args.q _ _ _ symbols (omega arith) c.from-p_bits.ensures c.from.ensures
    c.eight_bytes-eight.ensures)
    lt

pub returns-clause-q : goal.returns-clause-q
returns-clause-q c = λ j lt.
    let symbols : ℕ → ℕ = λ k. slice_index c.args.symbols.now (c.args.first + k) in
    let small : (k : ℕ) → k < 8 → symbols k < 64 =
    λ k k_lt.
    c.requires.symbols (c.args.first + k) 0 (omega (arith, k_lt, c.told-symbols, c.requires.first)) in
    ap (λ bytes. channel_bit 1 (slice_index bytes j)) c.to_le_bytes.ensures
    ∙ built_q c.args.p c.args.q _ j symbols small
    (sum_of_lanes c.args.p c.args.q _ _ _ symbols (omega arith) c.from-p_bits.ensures c.from.ensures
    c.eight_bytes-eight.ensures)
    lt

pub returns-clause-symbol : goal.returns-clause-symbol
returns-clause-symbol c = λ j lt.
    let symbols : ℕ → ℕ = λ k. slice_index c.args.symbols.now (c.args.first + k) in
    let small : (k : ℕ) → k < 8 → symbols k < 64 =
    λ k k_lt.
    c.requires.symbols (c.args.first + k) 0 (omega (arith, k_lt, c.told-symbols, c.requires.first)) in
    ap (λ bytes. slice_index bytes j % 64) c.to_le_bytes.ensures
    ∙ built_symbol c.args.p c.args.q _ j symbols small
    (sum_of_lanes c.args.p c.args.q _ _ _ symbols (omega arith) c.from-p_bits.ensures c.from.ensures
    c.eight_bytes-eight.ensures)
    lt
