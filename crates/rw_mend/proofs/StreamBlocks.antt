-- Blocks of a stream, byte by byte.
use Rattle.std.proofs.Common.{◌≡◌, ℕ, ◌+◌, ◌-◌, ◌*◌, ◌<◌, ◌≤◌, List, length, get_or, drop, sym, ◌∙◌, arith, length-take, length-drop}
use Rattle.std.proofs.lemmas.List.{ext_get_or, get_or-drop, get_or-take}
use Rattle.rw_mend.specs.Words.{block_at}

pub block_long : (reading : List ℕ) (b : ℕ) → 96 * b + 96 ≤ length reading
    → length (block_at reading b) ≡ 96
block_long reading b inside =
    omega (
      arith,
      length-take (96 * b + 96 - 96 * b) (drop (96 * b) reading),
      length-drop (96 * b) reading,
      inside,
    )

pub block_byte : (stream : List ℕ) (b k : ℕ) → k < 96
    → get_or (block_at stream b) k 0 ≡ get_or stream (96 * b + k) 0
block_byte stream b k lt =
    get_or-take (96 * b + 96 - 96 * b) (drop (96 * b) stream) k 0 (omega (arith, lt))
    ∙ get_or-drop (96 * b) stream k 0

-- a block with these bytes
pub block_with : (stream block : List ℕ) (b : ℕ) → 96 * b + 96 ≤ length stream → length block ≡ 96
    → ((k : ℕ) → k < 96 → get_or stream (96 * b + k) 0 ≡ get_or block k 0) → block_at stream b ≡ block
block_with stream block b inside size each =
    ext_get_or 0 (block_at stream b) block (block_long stream b inside ∙ sym size) (λ k lt.
    let small : k < 96 = omega (arith, lt, block_long stream b inside) in
    block_byte stream b k small ∙ each k small)

-- streams with the same bytes there have equal blocks
pub block_same : (stream other : List ℕ) (b : ℕ) → 96 * b + 96 ≤ length stream
    → 96 * b + 96 ≤ length other
    → ((k : ℕ) → k < 96 → get_or stream (96 * b + k) 0 ≡ get_or other (96 * b + k) 0)
    → block_at stream b ≡ block_at other b
block_same stream other b inside its each =
    block_with stream (block_at other b) b inside (block_long other b its) (λ k lt.
    each k lt ∙ sym (block_byte other b k lt))
