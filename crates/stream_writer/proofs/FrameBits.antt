-- A valid frame has 96 bits.
use Rattle.std.proofs.Common.{◌≡◌, ℕ, ◌+◌, ◌*◌, List, [], ◌∷◌, ◌++◌, length, map, take, drop, refl, ap₂, ◌∙◌, arith}
use Rattle.std.proofs.lemmas.List.{length-append, length-take-le, length-drop}
use Rattle.bit_lists.specs.Bits.{bits_of}
use Rattle.disc_time.specs.Time.{bcd}
use Rattle.bit_lists.specs.Check.{check_bits}
use Rattle.bit_lists.proofs.BitsLemmas.{length-bits_of}
use Rattle.bit_lists.proofs.Checks.{length-check_bits}
use Rattle.q_channel.specs.QFrame.{characters, fields_of, spelled, IsValid}
use Rattle.q_channel.specs.declared.frame.QFrame.{QFrame}
use Rattle.q_channel.specs.declared.frame.QFrame.TheVariants.{Program, Toc, Catalogue, Isrc, Other}
use Rattle.q_channel.specs.declared.frame.TocPoint.TheVariants.{Track, First, Last, LeadOut}

-- the widths of fields
widths : List (ℕ × ℕ) → ℕ
widths [] = 0
widths (f ∷ fields) = f.0 + widths fields

widths-append : (xs ys : List (ℕ × ℕ)) → widths (xs ++ ys) ≡ widths xs + widths ys
unfolding widths
widths-append [] ys = omega arith
widths-append (x ∷ xs) ys = omega (arith, widths-append xs ys)

length-spelled : (fields : List (ℕ × ℕ)) → length (spelled fields) ≡ widths fields
unfolding widths
length-spelled [] = refl
length-spelled (f ∷ fields) =
    length-append (bits_of f.0 f.1) (spelled fields)
    ∙ ap₂ (λ m n. m + n) (length-bits_of f.0 f.1) (length-spelled fields)

widths-four : (text : List ℕ) → widths (characters 4 text) ≡ 4 * length text
unfolding widths
widths-four [] = refl
widths-four (c ∷ text) = omega (arith, widths-four text)

widths-six : (text : List ℕ) → widths (characters 6 text) ≡ 6 * length text
unfolding widths
widths-six [] = refl
widths-six (c ∷ text) = omega (arith, widths-six text)

widths-bytes : (bytes : List ℕ) → widths (map (λ b. (8, b)) bytes) ≡ 8 * length bytes
unfolding widths
widths-bytes [] = refl
widths-bytes (b ∷ bytes) = omega (arith, widths-bytes bytes)

fields_width : (frame : QFrame) → IsValid frame → widths (fields_of frame) ≡ 80
unfolding widths
fields_width (Program control track index time absolute) valid = refl
fields_width (Toc control (Track track start) time) valid = refl
fields_width (Toc control (First track kind) time) valid = refl
fields_width (Toc control (Last track) time) valid = refl
fields_width (Toc control (LeadOut start) time) valid = refl
fields_width (Catalogue control number frame) valid =
    let more = widths-append (characters 4 number) ((12, 0) ∷ (8, bcd frame) ∷ []) in
    omega (arith, more, widths-four number, valid.1)
fields_width (Isrc control code frame) valid =
    let rest : List (ℕ × ℕ) = characters 4 (drop 5 code) ++ (4, 0) ∷ (8, bcd frame) ∷ [] in
    let first = widths-append (characters 6 (take 5 code)) ((2, 0) ∷ rest) in
    let second = widths-append (characters 4 (drop 5 code)) ((4, 0) ∷ (8, bcd frame) ∷ []) in
    omega (
      arith,
      first,
      second,
      widths-six (take 5 code),
      widths-four (drop 5 code),
      length-take-le 5 code (omega (arith, valid.1)),
      length-drop 5 code,
      valid.1,
    )
fields_width (Other control mode rest) valid = omega (arith, widths-bytes rest, valid.2)

pub frame_size : (frame : QFrame) → IsValid frame
    → length (spelled (fields_of frame) ++ check_bits (spelled (fields_of frame))) ≡ 96
frame_size frame valid =
    length-append (spelled (fields_of frame)) (check_bits (spelled (fields_of frame)))
    ∙ omega (
      arith,
      length-spelled (fields_of frame),
      fields_width frame valid,
      length-check_bits (spelled (fields_of frame)),
    )
