-- Numbers as the bytes of one number.
use Rattle.std.specs.Prelude.{ℕ, zero, suc, ◌+◌, ◌-◌, ◌*◌, if◌then◌else◌}
use Rattle.bit_lists.specs.Bits.{has_bit}

-- the number with the bytes f 0 to f (n - 1), the lowest byte first
unfoldable pub in_lanes : ℕ → (ℕ → ℕ) → ℕ
in_lanes zero f = 0
in_lanes (suc n) f = f 0 + 256 * in_lanes n (λ k. f (suc k))

-- the bits of a byte, each in a byte of a number, the highest bit in the lowest byte
unfoldable pub lanes_of_byte : ℕ → ℕ
lanes_of_byte byte = in_lanes 8 (λ k. if has_bit (7 - k) byte then 1 else 0)
