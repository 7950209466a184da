-- Pixels in rows, and rows in a buffer.
use Rattle.std.proofs.Common.{◌≡◌, ◌≢◌, ◌+◌, ◌-◌, ◌*◌, ◌<◌, ◌≤◌, ◌&&◌, ℕ, suc, if◌then◌else◌, List, [], length, get_or, take, drop, refl, subst, sym, ap, ◌∙◌, inl, inr, arith}
use Rattle.std.specs.Prelude.{nat_le, nat_lt, slice_index}
use Rattle.std.proofs.Math.Nat.{mul-le-mul_left}
use Rattle.std.proofs.lemmas.Bool.{cases_lt}
use Rattle.std.proofs.lemmas.Bool.Decides.{nat_tests}
use Rattle.std.proofs.lemmas.List.{get_or-take}
use Rattle.std.proofs.lemmas.Simd.{put_chunk_whole}
use borrow.Rule.Slice.PartMut.{put_mid}
use lib.Lanes.{put_chunk}
use Rattle.cdg_screen.specs.Standing.{Standing, screen_pixel}
use Rattle.cdg_screen.proofs.WholeRows.{else_before, else_behind, length-part, piece_put, then_within}
use Rattle.live_player.specs.declared.looking.ScreenPart.{ScreenPart}
use Rattle.live_player.specs.Parts.{ShowsPart}
use Rattle.live_player.specs.Formats.{pixel_bytes, pixel_size, shown_bytes, AreLineBytes, ShowsPixels}
use Rattle.live_player.specs.declared.format.PixelFormat.{PixelFormat}
use Rattle.live_player.specs.declared.format.PixelFormat.TheVariants.{Indexed, Rgb, Rgba, Bgra, RgbaLevels, BgraLevels, Rgb565}

-- ---- pixels in a row

-- the place of byte k of pixel i is in a row of `width` pixels
pub in_row : (size i k width : ℕ) → i < width → k < size → size * i + k < size * width
in_row size i k width i_lt k_lt =
    let next : size * suc i ≤ size * width = mul-le-mul_left size (omega (arith, i_lt)) in
    omega (arith, next, k_lt)

-- each pixel has room for four bytes, if the last one has
pub in_room : (size i count room : ℕ) → i < count → size * count + 4 ≤ room + size → size * i + 4 ≤ room
in_room size i count room lt fits =
    let next : size * suc i ≤ size * count = mul-le-mul_left size (omega (arith, lt)) in
    omega (arith, next, fits)

from_there : (at n a b : ℕ) → at ≤ n → (if nat_le at n then a else b) ≡ a
from_there at n a b from = grind (arith, nat_tests)

before_there : (at n a b : ℕ) → n < at → (if nat_le at n then a else b) ≡ b
before_there at n a b lt = grind (arith, nat_tests)

-- bytes that were written to a part of a line
pub bytes_put : (count : ℕ) (line bytes : List ℕ) (at n : ℕ) → at + count ≤ length line → length bytes ≡ count
    → n < at + count
    → get_or (put_mid at (at + count - at) line (put_chunk 0 (take (at + count - at) (drop at line)) bytes)) n
    0
    ≡ (if nat_le at n then get_or bytes (n - at) 0 else get_or line n 0)
bytes_put count line bytes at n fits size lt =
    let room : length (take (at + count - at) (drop at line)) ≡ at + count - at =
    length-part line at (at + count - at) (omega (arith, fits)) in
    let whole : put_chunk 0 (take (at + count - at) (drop at line)) bytes ≡ bytes =
    put_chunk_whole (take (at + count - at) (drop at line)) bytes (omega (arith, room, size)) in
    ap (λ ys. get_or (put_mid at (at + count - at) line ys) n 0) whole
    ∙ piece_put at (at + count - at) line bytes n (omega (arith, fits, size)) (omega (arith, size))
    ∙ elim (cases_lt n at) [
      | inl early ↦
          else_before at (at + length bytes) n _ _ early ∙ sym (before_there at n _ _ early)
      | inr from ↦
          then_within at (at + length bytes) n _ _ from (omega (arith, lt, size))
          ∙ sym (from_there at n _ _ from)
    ]

-- all bytes of pixel i (and perhaps others) were written behind those before it
pub pixel_more : (old new four : List ℕ) (byte : ℕ → ℕ → ℕ) (size count i : ℕ) → size ≤ count
    → ((k : ℕ) → get_or four k 0 ≡ byte i k)
    → ((n : ℕ) → n < size * i + count
    → get_or new n 0 ≡ (if nat_le (size * i) n then get_or four (n - size * i) 0 else get_or old n 0))
    → ((m k : ℕ) → m < i → k < size → get_or old (size * m + k) 0 ≡ byte m k)
    → (m k : ℕ) → m < i + 1 → k < size → get_or new (size * m + k) 0 ≡ byte m k
pixel_more old new four byte size count i size_le is written before m k m_lt k_lt = elim (cases_lt m i) [
  | inl early ↦
      let place : size * m + k < size * i = in_row size m k i early k_lt in
      written (size * m + k) (omega (arith, place))
      ∙ before_there (size * i) (size * m + k) _ _ place
      ∙ before m k early k_lt
  | inr late ↦
      let same : m ≡ i = omega (arith, late, m_lt) in
      ap (λ j. get_or new (size * j + k) 0) same
      ∙ written (size * i + k) (omega (arith, k_lt, size_le))
      ∙ from_there (size * i) (size * i + k) _ _ (omega arith)
      ∙ ap (λ n. get_or four n 0) (omega arith)
      ∙ is k
      ∙ ap (λ j. byte j k) (sym same)
]

-- ---- rows in a buffer

-- a row of a part was written behind the rows before it: `byte` gives byte k of pixel i of row j
module _ (byte : ℕ → ℕ → ℕ → ℕ) (piece old new first : List ℕ) (size width stride j : ℕ)
    (long : length piece ≡ size * width) (apart : size * width ≤ stride)
    (shown : (i k : ℕ) → i < width → k < size → get_or piece (size * i + k) 0 ≡ byte i j k)
    (written : (n : ℕ)
    → get_or new n 0
    ≡ (if nat_le (stride * j) n && nat_lt n (stride * j + length piece)
    then get_or piece (n - stride * j) 0
    else get_or old n 0)) where
  earlier : (i k m : ℕ) → i < width → k < size → m < j → m * stride + (size * i + k) < stride * j
  earlier i k m i_lt k_lt m_lt =
      let below : stride * suc m ≤ stride * j = mul-le-mul_left stride (omega (arith, m_lt)) in
      let within : size * i + k < size * width = in_row size i k width i_lt k_lt in
      omega (arith, below, within, apart)

  pub row_pixels
      : ((i m k : ℕ) → i < width → m < j → k < size
      → get_or old (m * stride + (size * i + k)) 0 ≡ byte i m k)
      → (i m k : ℕ) → i < width → m < j + 1 → k < size
      → get_or new (m * stride + (size * i + k)) 0 ≡ byte i m k
  row_pixels before i m k i_lt m_lt k_lt = elim (cases_lt m j) [
    | inl early ↦
        written (m * stride + (size * i + k))
        ∙ else_before (stride * j) (stride * j + length piece) (m * stride + (size * i + k)) _ _
        (earlier i k m i_lt k_lt early)
        ∙ before i m k i_lt early k_lt
    | inr late ↦
        let same : m ≡ j = omega (arith, late, m_lt) in
        let place : m * stride + (size * i + k) ≡ stride * j + (size * i + k) =
        ap (λ r. r * stride + (size * i + k)) same ∙ omega arith in
        let within : size * i + k < size * width = in_row size i k width i_lt k_lt in
        ap (λ n. get_or new n 0) place
        ∙ written (stride * j + (size * i + k))
        ∙ then_within (stride * j) (stride * j + length piece) (stride * j + (size * i + k)) _ _ (omega arith)
        (omega (arith, within, long))
        ∙ ap (λ n. get_or piece n 0) (omega arith)
        ∙ shown i k i_lt k_lt
        ∙ ap (λ r. byte i r k) (sym same)
  ]

  pub row_others
      : ((n : ℕ) → ((i m : ℕ) → i < size * width → m < j → n ≢ m * stride + i)
      → get_or old n 0 ≡ get_or first n 0)
      → (n : ℕ) → ((i m : ℕ) → i < size * width → m < j + 1 → n ≢ m * stride + i)
      → get_or new n 0 ≡ get_or first n 0
  row_others before n out =
      let kept : get_or old n 0 ≡ get_or first n 0 =
      before n (λ i m i_lt m_lt. out i m i_lt (omega (arith, m_lt))) in
      elim (cases_lt n (stride * j)) [
        | inl early ↦ written n ∙ else_before (stride * j) (stride * j + length piece) n _ _ early ∙ kept
        | inr from ↦ elim (cases_lt n (stride * j + length piece)) [
          | inl within ↦
              absurd
              (out (n - stride * j) j (omega (arith, from, within, long)) (omega arith) (omega (arith, from)))
          | inr past ↦ written n ∙ else_behind (stride * j) (stride * j + length piece) n _ _ past ∙ kept
        ]
      ]

-- the length of the written part of a row
pub part_long : (out : List ℕ) (at count bytes : ℕ) → at + count ≤ length out → count ≡ bytes
    → length (take (at + count - at) (drop at out)) ≡ bytes
part_long out at count bytes fits is =
    length-part out at (at + count - at) (omega (arith, fits)) ∙ omega (arith, is)

-- ---- the bytes of a pixel

pub shown_pixel : (format : PixelFormat) (now : Standing) (table : List (List ℕ)) (x y number k : ℕ)
    → number ≡ screen_pixel now x y → number < 16 → k < pixel_size format
    → ((p : ℕ) → p < 16 → take (pixel_size format) (get_or table p [])
    ≡ pixel_bytes format p (slice_index now.colours p) (slice_index now.levels p))
    → get_or (get_or table number []) k 0 ≡ get_or (shown_bytes format now x y) k 0
unfolding shown_bytes
shown_pixel format now table x y number k is small k_lt bytes =
    sym (get_or-take (pixel_size format) (get_or table number []) k 0 k_lt)
    ∙ ap (λ (l : List ℕ). get_or l k 0) (bytes number small)
    ∙ ap (λ p. get_or (pixel_bytes format p (slice_index now.colours p) (slice_index now.levels p)) k 0) is

-- the byte of a pixel in the format of colour numbers
pub shown_number : (format : PixelFormat) (now : Standing) (x y number k : ℕ) → format ≡ Indexed
    → number ≡ screen_pixel now x y
    → k < pixel_size format
    → number ≡ get_or (shown_bytes format now x y) k 0
unfolding shown_bytes
shown_number format now x y number k indexed is lt =
    let first : k ≡ 0 = omega (arith, lt, ap pixel_size indexed) in
    is
    ∙ ap (λ n. get_or (shown_bytes Indexed now x y) n 0) (sym first)
    ∙ ap (λ f. get_or (shown_bytes f now x y) k 0) (sym indexed)

-- a part in the format of colour numbers
pub part_shows : (format : PixelFormat) (now : Standing) (part : ScreenPart) (stride : ℕ) (old new : List ℕ)
    → format ≡ Indexed
    → ShowsPart now part stride old new
    → ShowsPixels format now part stride old new
part_shows format now part stride old new indexed shows =
    let size : pixel_size format ≡ 1 = ap pixel_size indexed in
    let long : pixel_size format * part.width ≡ 1 * part.width = ap (λ s. s * part.width) size in
    record {
      pixels = λ i j k i_lt j_lt k_lt.
          let place : j * stride + (pixel_size format * i + k) ≡ j * stride + i =
          ap (λ s. j * stride + (s * i + k)) size ∙ omega (arith, k_lt, size) in
          ap (λ n. get_or new n 0) place
          ∙ shows.pixels i j i_lt j_lt
          ∙ shown_number format now (part.left + i) (part.top + j) _ k indexed refl k_lt;
      others = λ n out. shows.others n (λ i j i_lt j_lt. out i j (omega (arith, i_lt, long)) j_lt);
    }

-- ---- a row of a part

-- the bytes of the pixels of a row are those that the screen shows
pub line_shows : (format : PixelFormat) (now : Standing) (table : List (List ℕ)) (pixels line : List ℕ)
    (left width y : ℕ) → length pixels ≡ width
    → ((i : ℕ) → i < width → get_or pixels i 0 ≡ screen_pixel now (left + i) y)
    → ((i : ℕ) → get_or pixels i 0 < 16)
    → ((p : ℕ) → p < 16 → take (pixel_size format) (get_or table p [])
    ≡ pixel_bytes format p (slice_index now.colours p) (slice_index now.levels p))
    → AreLineBytes (pixel_size format) pixels table line
    → (i k : ℕ) → i < width → k < pixel_size format
    → get_or line (pixel_size format * i + k) 0 ≡ get_or (shown_bytes format now (left + i) y) k 0
line_shows format now table pixels line left width y long shown range bytes written i k i_lt k_lt =
    written i k (omega (arith, long, i_lt)) k_lt
    ∙ shown_pixel format now table (left + i) y (get_or pixels i 0) k (shown i i_lt) (range i) k_lt bytes

-- the bytes of pixels, from the number of bytes per pixel
pub of_size : (format : PixelFormat) (size : ℕ) (pixels : List ℕ) (table : List (List ℕ)) (line : List ℕ)
    → pixel_size format ≡ size
    → AreLineBytes size pixels table line → AreLineBytes (pixel_size format) pixels table line
of_size format size pixels table line is written =
    subst (λ s. AreLineBytes s pixels table line) (sym is) written

-- all other formats have four bytes
pub four_bytes : (format : PixelFormat) → format ≢ Indexed → format ≢ Rgb565 → format ≢ Rgb
    → pixel_size format ≡ 4
four_bytes Indexed a b c = absurd (a refl)
four_bytes Rgb565 a b c = absurd (b refl)
four_bytes Rgb a b c = absurd (c refl)
four_bytes Rgba a b c = refl
four_bytes Bgra a b c = refl
four_bytes RgbaLevels a b c = refl
four_bytes BgraLevels a b c = refl
