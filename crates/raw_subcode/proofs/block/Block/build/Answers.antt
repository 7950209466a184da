use Rattle.std.proofs.Common.{◌≡◌, ℕ, ◌+◌, ◌-◌, ◌*◌, ◌/◌, ◌%◌, ◌<◌, length, ap, ap₂, ◌∙◌, arith, rules}
use Rattle.std.specs.Prelude.{slice_index}
use borrow.Rule.Slice.PartMut.{put_mid}
use Rattle.bit_lists.specs.Bits.{has_bit}
use Rattle.raw_subcode.specs.Channels.{channel_bit}
use Rattle.raw_subcode.proofs.Built.{eight_put, length-eight_put, p_bits_are, q_bits_are, symbols_are}
use Rattle.raw_subcode.proofs.block.Block.build.Goals as goal

pub returns-clause-p : goal.returns-clause-p
returns-clause-p c =
    p_bits_are c.loop-k.bytes c.args.p c.loop-k.invariant.size
    (λ n lt. c.loop-k.invariant.p_bit n lt (omega arith))

pub returns-clause-q : goal.returns-clause-q
returns-clause-q c =
    q_bits_are c.loop-k.bytes c.args.q.now c.loop-k.invariant.size (search rules)
    (λ n lt. c.loop-k.invariant.q_bit n lt (omega arith))

pub returns-clause-symbols : goal.returns-clause-symbols
returns-clause-symbols c =
    symbols_are c.loop-k.bytes c.args.symbols.now c.loop-k.invariant.size (search rules)
    (λ n lt. c.loop-k.invariant.symbol n lt (omega arith))

pub loop-k-preserved : goal.loop-k-preserved
loop-k-preserved c =
    let k = c.loop-k.k in
    let bytes = c.loop-k.bytes in
    let before = c.loop-k.invariant in
    let eight = c.built-eight.result in
    let eight_size : length eight ≡ 8 = search rules in
    let put : (Holds : ℕ → ℕ → Type 0) → ((n : ℕ) → n < 96 → n / 8 < k → Holds n (slice_index bytes n))
    → ((j : ℕ) → j < 8 → Holds (8 * k + j) (slice_index eight j))
    → (n : ℕ) → n < 96 → n / 8 < k + 1
    → Holds n (slice_index (put_mid (8 * k) (8 * k + 8 - 8 * k) bytes c.copy_from_slice.new.self) n) =
    λ Holds.
    eight_put Holds bytes _ eight k _ c.loop-k-test.true before.size eight_size (omega arith)
    c.copy_from_slice.ensures.after in
    record {
      size =
          length-eight_put bytes _ k _ c.loop-k-test.true before.size
          (ap length c.copy_from_slice.ensures.after ∙ eight_size) (omega arith);
      p_bit = put (λ n b. channel_bit 0 b ≡ c.args.p) before.p_bit c.built-eight.ensures.p;
      q_bit =
          put (λ n b. channel_bit 1 b ≡ has_bit (7 - n % 8) (slice_index c.args.q.now (n / 8))) before.q_bit
          (λ j lt.
          let row : k ≡ (8 * k + j) / 8 = omega arith in
          let place : j ≡ (8 * k + j) % 8 = omega arith in
          c.built-eight.ensures.q j lt
          ∙ ap₂ (λ i r. has_bit (7 - i) (slice_index c.args.q.now r)) place row);
      symbol =
          put (λ n b. b % 64 ≡ slice_index c.args.symbols.now n) before.symbol c.built-eight.ensures.symbol;
    }
