-- The channels of a block that is built place by place.
use Rattle.std.proofs.Common.{◌≡◌, ℕ, suc, ◌-◌, ◌*◌, ◌/◌, ◌%◌, ◌<◌, Bool, false, List, [], ◌∷◌, length, get_or, map, replicate, sym, ap, ap₂, ◌∙◌, subst, ◌+◌, arith, rules, inl, inr}
use Rattle.std.proofs.lemmas.Bool.{cases_lt}
use Rattle.std.proofs.lemmas.Grind.{same_number_lists}
use Rattle.std.proofs.lemmas.List.{same_lists, length-map, length-replicate, get_or-map, get_or-replicate, get_or-append_right, get_or_append_left, get_or_default, places}
use Rattle.std.specs.Prelude.{slice_index}
use borrow.Rule.Slice.PartMut.{put_mid}
use Rattle.bit_lists.specs.Bits.{bits_of, bits_of_bytes, has_bit}
use Rattle.bit_lists.proofs.BitsLemmas.{length-bits_of, length-bits_of_bytes}
use Rattle.raw_subcode.specs.Channels.{channel_bit, p_bits, q_bits, symbols_of}
use Rattle.raw_subcode.proofs.Eight.{read_bit}

-- a bit of some bytes, from its byte and its place there
bit_of_bytes : (bytes : List ℕ) (n : ℕ) → n < 8 * length bytes
    → get_or (bits_of_bytes bytes) n false ≡ has_bit (7 - n % 8) (get_or bytes (n / 8) 0)
unfolding bits_of_bytes
bit_of_bytes [] n lt = absurd (let none : 8 * 0 ≡ 0 = omega arith in omega arith)
bit_of_bytes (b ∷ bytes) n lt = elim (cases_lt n 8) [
  | inl here ↦
      let place : n % 8 ≡ n = omega arith in
      let row : n / 8 ≡ 0 = omega arith in
      get_or_append_left (bits_of 8 b) (bits_of_bytes bytes) false n (omega (arith, length-bits_of 8 b))
      ∙ read_bit b n here
      ∙ ap₂ (λ i k. has_bit (7 - i) (get_or (b ∷ bytes) k 0)) (sym place) (sym row)
  | inr later ↦
      let place : (n - 8) % 8 ≡ n % 8 = omega arith in
      let row : suc ((n - 8) / 8) ≡ n / 8 = omega arith in
      get_or-append_right (bits_of 8 b) (bits_of_bytes bytes) 8 n false (length-bits_of 8 b) later
      ∙ bit_of_bytes bytes (n - 8) (omega arith)
      ∙ ap₂ (λ i k. has_bit (7 - i) (get_or (b ∷ bytes) k 0)) place row
]

-- the bits of a channel, place by place
bits_are : (f : ℕ → Bool) (block : List ℕ) (bits : List Bool) → length block ≡ length bits
    → ((n : ℕ) → n < length bits → f (slice_index block n) ≡ get_or bits n false) → map f block ≡ bits
bits_are f block bits size each =
    same_lists (map f block) bits (length-map block f ∙ size) (λ n d lt.
    get_or-map f block n 0 d (omega (arith, length-map block f))
    ∙ each n (omega (arith, length-map block f))
    ∙ get_or_default bits n false d (omega (arith, length-map block f)))

pub p_bits_are : (block : List ℕ) (p : Bool) → length block ≡ 96
    → ((n : ℕ) → n < 96 → channel_bit 0 (slice_index block n) ≡ p)
    → p_bits block ≡ replicate 96 p
p_bits_are block p size each =
    bits_are (channel_bit 0) block (replicate 96 p) (size ∙ sym (length-replicate 96 p)) (λ n lt.
    let below : n < 96 = omega (arith, length-replicate 96 p) in
    each n below ∙ sym (get_or-replicate 96 n p false below))

pub q_bits_are : (block q : List ℕ) → length block ≡ 96 → length q ≡ 12
    → ((n : ℕ) → n < 96 → channel_bit 1 (slice_index block n) ≡ has_bit (7 - n % 8) (slice_index q (n / 8)))
    → q_bits block ≡ bits_of_bytes q
q_bits_are block q size q_size each =
    bits_are (channel_bit 1) block (bits_of_bytes q) (omega (arith, length-bits_of_bytes q)) (λ n lt.
    let below : n < 8 * length q = omega (arith, length-bits_of_bytes q) in
    each n (omega arith) ∙ sym (bit_of_bytes q n below))

pub symbols_are : (block symbols : List ℕ) → length block ≡ 96 → length symbols ≡ 96
    → ((n : ℕ) → n < 96 → slice_index block n % 64 ≡ slice_index symbols n) → symbols_of block ≡ symbols
symbols_are block symbols size symbols_size each =
    same_number_lists (symbols_of block) symbols (length-map block (λ b. b % 64) ∙ omega arith) (λ n lt.
    let below : n < 96 = omega (arith, length-map block (λ b. b % 64)) in
    get_or-map (λ b. b % 64) block n 0 0 (omega arith) ∙ each n below)

-- eight bytes that are put into a block leave its size
pub length-eight_put : (bytes put : List ℕ) (k count : ℕ) → k < 12 → length bytes ≡ 96 → length put ≡ 8
    → count ≡ 8 → length (put_mid (8 * k) count bytes put) ≡ 96
length-eight_put bytes put k count k_lt size put_size is = search (rules, places)

-- what holds of the bytes of the first k groups of eight, and of the eight bytes that are put after them, holds of
-- the bytes of the first k + 1 groups
pub eight_put : (Holds : ℕ → ℕ → Type 0) (bytes put eight : List ℕ) (k count : ℕ) → k < 12 → length bytes ≡ 96
    → length eight ≡ 8 → count ≡ 8 → put ≡ eight
    → ((n : ℕ) → n < 96 → n / 8 < k → Holds n (slice_index bytes n))
    → ((j : ℕ) → j < 8 → Holds (8 * k + j) (slice_index eight j))
    → (n : ℕ) → n < 96 → n / 8 < k + 1 → Holds n (slice_index (put_mid (8 * k) count bytes put) n)
eight_put Holds bytes put eight k count k_lt size eight_size is same before here n lt under =
    let put_size : length put ≡ 8 = ap length same ∙ eight_size in
    elim (cases_lt n (8 * k)) [
      | inl early ↦
          let at : slice_index (put_mid (8 * k) count bytes put) n ≡ slice_index bytes n =
          search (rules, places) in
          subst (Holds n) (sym at) (before n lt (omega arith))
      | inr late ↦
          let place : 8 * k + (n - 8 * k) ≡ n = omega arith in
          let at : slice_index (put_mid (8 * k) count bytes put) n ≡ slice_index put (n - 8 * k) =
          search (rules, places) in
          subst (Holds n) (sym (at ∙ ap (λ xs. slice_index xs (n - 8 * k)) same))
          (subst (λ m. Holds m (slice_index eight (n - 8 * k))) place (here (n - 8 * k) (omega arith)))
    ]
