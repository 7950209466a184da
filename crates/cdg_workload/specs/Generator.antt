-- The words of the generator of a seed.
use Rattle.std.specs.Prelude.{ℕ, ◌/◌, ◌%◌}
use Rattle.rand_pcg.specs.Lcg.{Lcg, started, increment_of, advance}
use Rattle.rand_pcg.specs.Pcg.{pcg32, multiplier_64}

-- the generator of a seed, at stream 54
unfoldable pub generator : ℕ → Lcg
generator seed = started 64 multiplier_64 seed (increment_of 64 54)

-- word n of the generator
unfoldable pub generator_word : ℕ → ℕ → ℕ
generator_word seed n = (pcg32 (advance 64 multiplier_64 n (generator seed))).0

-- the low sixteen bits of a word
abbrev pub low_half : ℕ → ℕ
low_half word = word % 65536

-- the high sixteen bits of a word
abbrev pub high_half : ℕ → ℕ
high_half word = word / 65536
