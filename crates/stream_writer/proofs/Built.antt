-- A block is built from its channels and its symbols.
use Rattle.std.proofs.Common.{◌≡◌, ℕ, zero, suc, ◌+◌, ◌*◌, ◌/◌, ◌%◌, ◌<◌, Bool, List, [], ◌∷◌, length, replicate, All, refl, sym, ap, ap₂, ◌∙◌, arith}
use Rattle.std.specs.Prelude.{◌==◌, if◌then◌else◌}
use Rattle.raw_subcode.specs.Channels.{channel_bit, p_bits, q_bits, symbols_of}
use Rattle.stream_writer.specs.Blocks.{built_byte, built_block}

worth : (bit size : ℕ) → bit < 2 → (if bit == 1 then size else 0) ≡ bit * size
worth zero size small = omega arith
worth (suc zero) size small = omega arith
worth (suc (suc bit)) size small = omega arith

byte_is : (b : ℕ) → b < 256 → built_byte (channel_bit 0 b) (channel_bit 1 b) (b % 64) ≡ b
byte_is b small =
    let p : (if channel_bit 0 b then 128 else 0) ≡ b / 128 % 2 * 128 =
    worth (b / 128 % 2) 128 (omega arith) in
    let q : (if channel_bit 1 b then 64 else 0) ≡ b / 64 % 2 * 64 = worth (b / 64 % 2) 64 (omega arith) in
    ap₂ (λ m n. m + n + b % 64) p q ∙ omega arith

block_is : (p : Bool) (bytes : List ℕ) → All (λ b. b < 256) bytes → p_bits bytes ≡ replicate (length bytes) p
    → built_block p (q_bits bytes) (symbols_of bytes) ≡ bytes
unfolding built_block
block_is p [] small same = refl
block_is p (b ∷ bytes) small same =
    let head : channel_bit 0 b ≡ p = cc in
    let tail : p_bits bytes ≡ replicate (length bytes) p = cc in
    ap₂ (λ x xs. x ∷ xs)
    (ap (λ r. built_byte r (channel_bit 1 b) (b % 64)) (sym head) ∙ byte_is b (small 0 0 (omega arith)))
    (block_is p bytes (λ k d lt. small (suc k) d (omega arith)) tail)

pub made_of : (p : Bool) (q : List Bool) (symbols block : List ℕ) → length block ≡ 96
    → All (λ b. b < 256) block → p_bits block ≡ replicate 96 p
    → q_bits block ≡ q → symbols_of block ≡ symbols → block ≡ built_block p q symbols
made_of p q symbols block size small paused frame carried =
    sym (block_is p block small (paused ∙ ap (λ n. replicate n p) (sym size)))
    ∙ ap₂ (built_block p) frame carried
