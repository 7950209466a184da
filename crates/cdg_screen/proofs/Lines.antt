-- The pixels of a line of a tile side by side in one number.
use Rattle.std.proofs.Common.{◌≡◌, ℕ, zero, suc, ◌+◌, ◌-◌, ◌*◌, ◌/◌, ◌%◌, ◌^◌, ◌<◌, ◌≤◌, Bool, true, false, ◌&&◌, ◌==◌, List, get_or, bit_xor, refl, sym, ap, ap₂, ◌∙◌, inl, inr, not-suc-le-zero, arith, Fits, w64}
use Rattle.std.specs.Prelude.{if◌then◌else◌, slice_index}
use Rattle.std.specs.Int.{bytes_low_first}
use Rattle.std.specs.Int.Bits.{xor_assoc, xor_self, xor_zero_l, xor_zero_r}
use Rattle.std.proofs.lemmas.Nat.{mul-lt, xor_lt, xor_shr, xor_mod}
use Rattle.std.proofs.lemmas.Bool.{cases_Bool, cases_lt, and_parts, eqb-true}
use Rattle.bit_lists.specs.Bits.{has_bit}
use Rattle.cdg_screen.specs.Memory.{line_colour}
use Rattle.cdg_screen.specs.declared.line_table.TheConstants.{LINES}

-- six numbers as the bytes of one, the first lowest
abbrev side_by_side : (ℕ → ℕ) → ℕ
side_by_side f = f 0 + 256 * f 1 + 65536 * f 2 + 16777216 * f 3 + 4294967296 * f 4 + 1099511627776 * f 5

-- 1 if the bit of a pixel is set
abbrev worth : ℕ → ℕ → ℕ
worth line i = if has_bit (5 - i) line then 1 else 0

-- ---- The table.

-- whether each number below n passes
unfoldable all_below : (ℕ → Bool) → ℕ → Bool
all_below p zero = true
all_below p (suc n) = p n && all_below p n

all_below-at : (p : ℕ → Bool) (n k : ℕ) → all_below p n ≡ true → k < n → p k ≡ true
unfolding all_below
all_below-at p zero k h lt = absurd (not-suc-le-zero lt)
all_below-at p (suc n) k h lt =
    let parts = and_parts (p n) (all_below p n) h in
    elim (cases_lt k n) [
      | inl below ↦ all_below-at p n k parts.1 below
      | inr last ↦ let at : n ≡ k = omega arith in ap p (sym at) ∙ parts.0
    ]

IsRight : ℕ → Bool
IsRight line = get_or LINES line 0 == side_by_side (worth line)

test_lines : all_below IsRight 64 ≡ true
unfolding all_below IsRight
test_lines = refl

-- ---- Numbers side by side.

byte : (f : ℕ → ℕ) (i : ℕ) → ((j : ℕ) → f j < 256) → i < 6 → side_by_side f / 256 ^ i % 256 ≡ f i
byte f zero small lt = omega (arith, small 0, small 1, small 2, small 3, small 4, small 5)
byte f (suc zero) small lt = omega (arith, small 0, small 1, small 2, small 3, small 4, small 5)
byte f (suc (suc zero)) small lt = omega (arith, small 0, small 1, small 2, small 3, small 4, small 5)
byte f (suc (suc (suc zero))) small lt = omega (arith, small 0, small 1, small 2, small 3, small 4, small 5)
byte f (suc (suc (suc (suc zero)))) small lt =
    omega (arith, small 0, small 1, small 2, small 3, small 4, small 5)
byte f (suc (suc (suc (suc (suc zero))))) small lt =
    omega (arith, small 0, small 1, small 2, small 3, small 4, small 5)
byte f (suc (suc (suc (suc (suc (suc i)))))) small lt = absurd (omega (arith, lt))

bytes_are : (n : ℕ) (f : ℕ → ℕ) → n < 2 ^ 41 → ((i : ℕ) → i < 6 → n / 256 ^ i % 256 ≡ f i)
    → n ≡ side_by_side f
bytes_are n f lt is = omega (
  arith,
  lt,
  is 0 (omega arith),
  is 1 (omega arith),
  is 2 (omega arith),
  is 3 (omega arith),
  is 4 (omega arith),
  is 5 (omega arith),
)

times : (f : ℕ → ℕ) (d : ℕ) → side_by_side f * d ≡ side_by_side (λ i. f i * d)
times f d = omega arith

xor_byte : (a b k : ℕ) → bit_xor a b / 2 ^ k % 2 ^ 8 ≡ bit_xor (a / 2 ^ k % 2 ^ 8) (b / 2 ^ k % 2 ^ 8)
xor_byte a b k = ap (λ n. n % 2 ^ 8) (xor_shr a b k) ∙ xor_mod (a / 2 ^ k) (b / 2 ^ k) 8

byte_of-xor : (a b i : ℕ) → i < 6
    → bit_xor a b / 256 ^ i % 256 ≡ bit_xor (a / 256 ^ i % 256) (b / 256 ^ i % 256)
byte_of-xor a b zero lt = xor_byte a b 0
byte_of-xor a b (suc zero) lt = xor_byte a b 8
byte_of-xor a b (suc (suc zero)) lt = xor_byte a b 16
byte_of-xor a b (suc (suc (suc zero))) lt = xor_byte a b 24
byte_of-xor a b (suc (suc (suc (suc zero)))) lt = xor_byte a b 32
byte_of-xor a b (suc (suc (suc (suc (suc zero))))) lt = xor_byte a b 40
byte_of-xor a b (suc (suc (suc (suc (suc (suc i)))))) lt = absurd (omega (arith, lt))

byte_at : (n i : ℕ) → i < 6 → slice_index (bytes_low_first 0 8 n) i ≡ n / 256 ^ i % 256
byte_at n zero lt = omega arith
byte_at n (suc zero) lt = refl
byte_at n (suc (suc zero)) lt = refl
byte_at n (suc (suc (suc zero))) lt = refl
byte_at n (suc (suc (suc (suc zero)))) lt = refl
byte_at n (suc (suc (suc (suc (suc zero))))) lt = refl
byte_at n (suc (suc (suc (suc (suc (suc i)))))) lt = absurd (omega (arith, lt))

-- ---- Bits of a line.

same_part : (line k : ℕ) → k < 6 → line % 64 / 2 ^ k % 2 ≡ line / 2 ^ k % 2
same_part line zero lt = omega arith
same_part line (suc zero) lt = omega arith
same_part line (suc (suc zero)) lt = omega arith
same_part line (suc (suc (suc zero))) lt = omega arith
same_part line (suc (suc (suc (suc zero)))) lt = omega arith
same_part line (suc (suc (suc (suc (suc zero))))) lt = omega arith
same_part line (suc (suc (suc (suc (suc (suc i)))))) lt = absurd (omega (arith, lt))

same_bit : (line i : ℕ) → i < 6 → has_bit (5 - i) (line % 64) ≡ has_bit (5 - i) line
same_bit line zero lt = ap (λ n. n == 1) (same_part line 5 (omega arith))
same_bit line (suc zero) lt = ap (λ n. n == 1) (same_part line 4 (omega arith))
same_bit line (suc (suc zero)) lt = ap (λ n. n == 1) (same_part line 3 (omega arith))
same_bit line (suc (suc (suc zero))) lt = ap (λ n. n == 1) (same_part line 2 (omega arith))
same_bit line (suc (suc (suc (suc zero)))) lt = ap (λ n. n == 1) (same_part line 1 (omega arith))
same_bit line (suc (suc (suc (suc (suc zero))))) lt = ap (λ n. n == 1) (same_part line 0 (omega arith))
same_bit line (suc (suc (suc (suc (suc (suc i)))))) lt = absurd (omega (arith, lt))

every_bit : (i : ℕ) → i < 6 → has_bit (5 - i) 63 ≡ true
every_bit zero lt = refl
every_bit (suc zero) lt = refl
every_bit (suc (suc zero)) lt = refl
every_bit (suc (suc (suc zero))) lt = refl
every_bit (suc (suc (suc (suc zero)))) lt = refl
every_bit (suc (suc (suc (suc (suc zero))))) lt = refl
every_bit (suc (suc (suc (suc (suc (suc i)))))) lt = absurd (omega (arith, lt))

worth-le : (line i : ℕ) → worth line i ≤ 1
worth-le line i = elim (cases_Bool (has_bit (5 - i) line))
    [ inl set ↦ rw set (omega arith) | inr clear ↦ rw clear (omega arith) ]

worth_times : (b : Bool) (d : ℕ) → (if b then 1 else 0) * d ≡ (if b then d else 0)
worth_times true d = omega arith
worth_times false d = omega arith

at_most : (b : Bool) (d : ℕ) → (if b then d else 0) ≤ d
at_most true d = omega arith
at_most false d = omega arith

-- the entries of the table
pub line_is : (line found : ℕ) → found ≡ get_or LINES (line % 64) 0
    → ((i : ℕ) → i < 6 → found / 256 ^ i % 256 ≡ worth line i) × (found < 2 ^ 41)
unfolding IsRight
line_is line found is =
    let l : ℕ = line % 64 in
    let sum : found ≡ side_by_side (worth l) =
    is ∙ eqb-true _ _ (all_below-at IsRight 64 l test_lines (omega arith)) in (
      (λ i lt. ap (λ n. n / 256 ^ i % 256) sum
          ∙ byte (worth l) i (λ j. omega (arith, worth-le l j)) lt
          ∙ ap (λ (b : Bool). if b then 1 else 0) (same_bit line i lt)),
      omega (arith, sum, worth-le l 0, worth-le l 1, worth-le l 2, worth-le l 3, worth-le l 4, worth-le l 5),
    )

-- ---- The pixels.

product_byte : (n line d i : ℕ) → n < 2 ^ 41 → ((i : ℕ) → i < 6 → n / 256 ^ i % 256 ≡ worth line i) → d < 16
    → i < 6
    → n * d / 256 ^ i % 256 ≡ (if has_bit (5 - i) line then d else 0)
product_byte n line d i n_lt bits d_lt lt =
    let small : (j : ℕ) → worth line j * d < 256 =
    λ j. omega (arith, worth_times (has_bit (5 - j) line) d, at_most (has_bit (5 - j) line) d) in
    ap (λ m. m * d / 256 ^ i % 256) (bytes_are n (worth line) n_lt bits)
    ∙ ap (λ m. m / 256 ^ i % 256) (times (worth line) d)
    ∙ byte (λ j. worth line j * d) i small lt ∙ worth_times (has_bit (5 - i) line) d

turned : (colour0 colour1 : ℕ) (b : Bool)
    → bit_xor colour0 (if b then bit_xor colour0 colour1 else 0) ≡ (if b then colour1 else colour0)
turned colour0 colour1 true =
    sym (xor_assoc colour0 colour0 colour1)
    ∙ ap (λ n. bit_xor n colour1) (xor_self colour0)
    ∙ xor_zero_l colour1
turned colour0 colour1 false = xor_zero_r colour0

pub pixels_are : (every set colour0 colour1 line : ℕ) (pixels : List ℕ) → every < 2 ^ 41
    → ((i : ℕ) → i < 6 → every / 256 ^ i % 256 ≡ worth 63 i)
    → set < 2 ^ 41 → ((i : ℕ) → i < 6 → set / 256 ^ i % 256 ≡ worth line i) → colour0 < 16 → colour1 < 16
    → pixels ≡ bytes_low_first 0 8 (bit_xor (every * colour0) (set * bit_xor colour0 colour1)) → (i : ℕ)
    → i < 6
    → slice_index pixels i ≡ line_colour colour0 colour1 line i
pixels_are every set colour0 colour1 line pixels every_lt every_bits set_lt set_bits small0 small1 is i lt =
    let clear : every * colour0 / 256 ^ i % 256 ≡ colour0 =
    product_byte every 63 colour0 i every_lt every_bits small0 lt
    ∙ ap (λ (b : Bool). if b then colour0 else 0) (every_bit i lt) in
    ap (λ (l : List ℕ). slice_index l i) is
    ∙ byte_at (bit_xor (every * colour0) (set * bit_xor colour0 colour1)) i lt
    ∙ byte_of-xor (every * colour0) (set * bit_xor colour0 colour1) i lt
    ∙ ap₂ bit_xor clear (product_byte set line (bit_xor colour0 colour1) i set_lt set_bits
    (xor_lt 4 colour0 colour1 small0 small1) lt)
    ∙ turned colour0 colour1 (has_bit (5 - i) line)

pub colour-lt : (colour0 colour1 line i : ℕ) → colour0 < 16 → colour1 < 16
    → line_colour colour0 colour1 line i < 16
colour-lt colour0 colour1 line i small0 small1 =
    elim (cases_Bool (has_bit (5 - i) line)) [ inl set ↦ rw set small1 | inr clear ↦ rw clear small0 ]

-- a colour times the bits of a line fits
pub colour_fits : (bits colour : ℕ) → bits < 2 ^ 41 → colour < 16 → Fits w64 (bits * colour)
colour_fits bits colour bound small = omega (arith, mul-lt bits colour (2 ^ 41) 16 bound small)

pub colours_fit : (bits colour0 colour1 colour : ℕ) → bits < 2 ^ 41 → colour0 < 16 → colour1 < 16
    → colour ≡ bit_xor colour0 colour1
    → Fits w64 (bits * colour)
colours_fit bits colour0 colour1 colour bound small0 small1 is =
    let small : bit_xor colour0 colour1 < 16 = xor_lt 4 colour0 colour1 small0 small1 in
    colour_fits bits colour bound (omega (arith, is, small))
