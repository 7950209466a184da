-- The parity of packs of a .cdg file: 24 bytes whose low six bits are symbols.
use Rattle.std.specs.Prelude.{◌≡◌, ◌+◌, ◌<◌, ◌%◌, ◌==◌, ◌&&◌, if◌then◌else◌, Bool, false, ℕ, List, map, take, slice_index}
use Rattle.rw_code.specs.Codeword.{IsCodeword, differences}
use Rattle.rw_code.specs.Finding.{are_zero_sums}
use Rattle.rw_code.specs.Packs.{idle_pack}

-- the symbols of a pack
abbrev pub low_symbols : List ℕ → List ℕ
low_symbols pack = map (λ byte. byte % 64) pack

-- whether all symbols of a pack are 0
abbrev pub has_no_symbol : List ℕ → Bool
has_no_symbol pack = differences (low_symbols pack) idle_pack == 0

-- whether the six parity sums of a pack are 0
abbrev pub has_parity : List ℕ → Bool
has_parity pack = are_zero_sums (low_symbols pack) 4 && are_zero_sums (take 4 (low_symbols pack)) 2

-- whether a pack is not idle and has valid parity
abbrev pub is_valid_pack : List ℕ → Bool
is_valid_pack pack = if has_no_symbol pack then false else has_parity pack

-- The second pack is the first one with valid parity: a codeword with the same symbols at 0 and 1 and at 4 to 19.
pub record IsSealed (pack sealed : List ℕ) : Type 0 where
  pub codeword : IsCodeword sealed
  pub head : (k : ℕ) → k < 2 → slice_index sealed k ≡ slice_index pack k % 64
  pub body : (k : ℕ) → k < 16 → slice_index sealed (4 + k) ≡ slice_index pack (4 + k) % 64
