-- The bytes of blocks: their P and Q bits, and their symbols.
use Rattle.std.proofs.Common.{◌≡◌, ℕ, ◌+◌, ◌/◌, ◌%◌, ◌<◌, List, length, get_or, sym, ◌∙◌, subst, arith, below_more}
use Rattle.std.specs.Prelude.{Option, None}
use Rattle.std.proofs.Math.ListN.{set}
use Rattle.std.proofs.lemmas.List.{ext_get_or, get_or-map, get_or-set_other, get_or-set_same, length-map}
use Rattle.std.proofs.lemmas.List.FromFn.{get_or-map-range_with_len, length-map-range_with_len}
use Rattle.raw_subcode.specs.Channels.{symbols_of}
use Rattle.rw_mend.specs.Chosen.{channels_of, completed, symbol_or}
use Rattle.rw_mend.specs.Symbols.{IsBlock}

pub channel_at : (block : List ℕ) (k : ℕ) → k < length block
    → get_or (channels_of block) k 0 ≡ get_or block k 0 / 64
channel_at block k lt = get_or-map (λ (byte : ℕ). byte / 64) block k 0 0 lt

pub symbol_at : (block : List ℕ) (k : ℕ) → k < length block
    → get_or (symbols_of block) k 0 ≡ get_or block k 0 % 64
symbol_at block k lt = get_or-map (λ (byte : ℕ). byte % 64) block k 0 0 lt

pub same_channels : (one other : List ℕ) → length one ≡ length other
    → ((k : ℕ) → k < length one → get_or one k 0 / 64 ≡ get_or other k 0 / 64)
    → channels_of one ≡ channels_of other
same_channels one other size same =
    ext_get_or 0 (channels_of one) (channels_of other)
    (length-map one (λ (byte : ℕ). byte / 64) ∙ size ∙ sym (length-map other (λ (byte : ℕ). byte / 64)))
    (λ k lt.
    let within : k < length one = omega (arith, lt, length-map one (λ (byte : ℕ). byte / 64)) in
    channel_at one k within ∙ same k within ∙ sym (channel_at other k (omega (arith, within, size))))

pub completed_at : (known : List (Option ℕ)) (block : List ℕ) (k : ℕ) → k < 96
    → get_or (completed known block) k 0 ≡ symbol_or (get_or known k None) (get_or block k 0)
unfolding completed
completed_at known block k lt =
    get_or-map-range_with_len (λ (j : ℕ). symbol_or (get_or known j None) (get_or block j 0)) 0 96 k k 0 lt
    (omega arith)

pub completed_long : (known : List (Option ℕ)) (block : List ℕ) → length (completed known block) ≡ 96
unfolding completed
completed_long known block =
    length-map-range_with_len (λ (j : ℕ). symbol_or (get_or known j None) (get_or block j 0)) 0 96

-- a completed list has these symbols
pub completed_is : (known : List (Option ℕ)) (block symbols : List ℕ) → length symbols ≡ 96
    → ((k : ℕ) → k < 96 → get_or symbols k 0 ≡ symbol_or (get_or known k None) (get_or block k 0))
    → symbols ≡ completed known block
completed_is known block symbols size each =
    ext_get_or 0 symbols (completed known block) (size ∙ sym (completed_long known block)) (λ k lt.
    let small : k < 96 = omega (arith, lt, size) in
    each k small ∙ sym (completed_at known block k small))

-- a block with the P and Q bits of one block and with these symbols
pub block_of_bytes : (known : List (Option ℕ)) (framed read block : List ℕ) → length framed ≡ 96
    → length block ≡ 96
    → ((k : ℕ) → k < 96 → get_or block k 0 / 64 ≡ get_or framed k 0 / 64)
    → ((k : ℕ) → k < 96 → get_or block k 0 % 64 ≡ symbol_or (get_or known k None) (get_or read k 0))
    → IsBlock known framed read block
block_of_bytes known framed read block framed_long long high low = record {
  channels = same_channels block framed (long ∙ sym framed_long) (λ k lt. high k (omega (arith, lt, long)));
  symbols =
      completed_is known read (symbols_of block) (length-map block (λ (byte : ℕ). byte % 64) ∙ long) (λ k lt.
      symbol_at block k (omega (arith, lt, long)) ∙ low k lt);
}

-- one more byte is written
pub byte_set : (P : ℕ → ℕ → Type 0) (block : List ℕ) (k x : ℕ) → k < length block
    → ((j : ℕ) → j < k → P j (get_or block j 0)) → P k x → (j : ℕ) → j < k + 1
    → P j (get_or (set block k x) j 0)
byte_set P block k x within before here =
    below_more (λ j. P j (get_or (set block k x) j 0)) k
    (λ j lt. subst (P j) (sym (get_or-set_other block k j x 0 (λ e. omega (arith, e, lt)))) (before j lt))
    (subst (P k) (sym (get_or-set_same block k x 0 within)) here)
