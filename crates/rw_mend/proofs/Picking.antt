-- The places of the symbols of a word.
use Rattle.std.proofs.Common.{arith, ℕ, ◌≡◌, ◌<◌, ◌+◌, ◌*◌, ◌≤◌}
use Rattle.rw_interleave.specs.Interleave.{place}
use Rattle.rw_interleave.proofs.Places.{swapped-lt}

-- the distance of a symbol from the beginning of its word is the same for all words
pub placed : (n i p : ℕ) → p ≡ place 0 i → 24 * n + p ≡ place n i
placed n i p is = omega (arith, is)

pub within : (n i size : ℕ) → i < 24 → 24 * (n + 8) ≤ size → place n i < size
within n i size lt fits = omega (arith, fits, swapped-lt i lt)
