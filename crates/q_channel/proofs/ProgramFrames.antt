-- Frames of the program, with the digits of their line.
use Rattle.std.proofs.Common.{◌≡◌, ℕ, ◌+◌, ◌*◌, ◌/◌, ◌%◌, ◌^◌, ◌<◌, ◌≤◌, Bool, true, List, [], ◌∷◌, ◌++◌, length, take, drop, None, refl, sym, ap, ap₂, ◌∙◌, arith}
use Rattle.std.specs.Prelude.{◌&&◌, nat_le, Ok, codes}
use Rattle.std.specs.Char.{digit_char}
use Rattle.std.proofs.lemmas.Bool.{and_parts, leb-true, lt-ltb}
use Rattle.bit_lists.specs.Bits.{bits_of_bytes}
use Rattle.bit_lists.specs.Check.{check_bits}
use Rattle.bit_lists.specs.Digits.{digits, hex_digits}
use Rattle.q_channel.specs.QFrame.{field_value, is_bcd_within}
use Rattle.q_channel.specs.QLine.{q_line}
use Rattle.q_channel.specs.QReading.{first_outside, program_ranges}
use Rattle.q_channel.specs.ReadingOf.{reading_of}
use Rattle.disc_time.specs.Time.{bcd_value}
use Rattle.q_channel.specs.Kinds.{decimal_at, frame_at, kind_by, ranges_of_kind, time_value}
use Rattle.q_channel.specs.declared.kinds.Kind.{Kind}
use Rattle.q_channel.specs.declared.kinds.Kind.TheVariants.{ProgramFrame}
use Rattle.q_channel.proofs.Ranges.{passes}
use Rattle.q_channel.proofs.Frames.{good_at, is_frame}
use Rattle.q_channel.proofs.ReadingLaws.{only_reading}

-- the reading of a frame of the program, from the values that the code reads
pub program_reading : (bytes : List ℕ) (m : List Bool) (kind : Kind) (mode track point : ℕ)
    → m ≡ bits_of_bytes bytes
    → length (bits_of_bytes bytes) ≡ 96 → kind ≡ kind_by mode track point → kind ≡ ProgramFrame
    → mode ≡ field_value m 4 4 → track ≡ field_value m 8 8 → point ≡ field_value m 16 8
    → first_outside m program_ranges ≡ None
    → drop 80 (bits_of_bytes bytes) ≡ check_bits (take 80 (bits_of_bytes bytes))
    → reading_of (bits_of_bytes bytes) ≡ Ok (frame_at ProgramFrame (bits_of_bytes bytes))
program_reading bytes m kind mode track point same size is program e4 e8 e16 within check =
    let none : first_outside m (ranges_of_kind kind) ≡ None =
    ap (λ k. first_outside m (ranges_of_kind k)) program ∙ within in
    let good = good_at m kind mode track point (ap length same ∙ size) is e4 e8 e16 none in
    sym (only_reading (bits_of_bytes bytes) (Ok (frame_at kind m)) size
    (is_frame bytes m (frame_at kind m) (frame_at kind m) same refl good check))
    ∙ (λ i. Ok (frame_at (program i) (same i)))

-- a line with characters written at a place
abbrev pub put_at : ℕ → List ℕ → List ℕ → List ℕ
put_at at characters text = take at text ++ characters ++ drop (at + length characters) text

-- the characters of the two decimal digits in a byte
abbrev pub pair : ℕ → List ℕ
pair byte = (48 + byte / 16) ∷ (48 + byte % 16) ∷ []

decimal_char : (d n : ℕ) → d ≤ 9 → d ≡ n → 48 + d ≡ digit_char n
decimal_char d n small same =
    ap (λ k. 48 + k) same
    ∙ sym (let test = lt-ltb n 10 (omega arith) in rw test refl)

record Within (low high byte : ℕ) : Type 0 where
  tens : byte / 16 ≤ 9
  ones : byte % 16 ≤ 9
  most : bcd_value byte ≤ high

within : (low high byte : ℕ) → is_bcd_within low high byte ≡ true → Within low high byte
unfolding is_bcd_within
within low high byte h =
    let value = 10 * (byte / 16) + byte % 16 in
    let one = and_parts (nat_le (byte / 16) 9 && nat_le (byte % 16) 9 && nat_le low value)
    (nat_le value high) h in
    let two = and_parts (nat_le (byte / 16) 9 && nat_le (byte % 16) 9) (nat_le low value) one.0 in
    let three = and_parts (nat_le (byte / 16) 9) (nat_le (byte % 16) 9) two.0 in
    record { tens = leb-true _ _ three.0; ones = leb-true _ _ three.1; most = leb-true _ _ one.1 }

-- two decimal digits are the digits of their number
pair_is : (byte n : ℕ) → byte / 16 ≤ 9 → byte % 16 ≤ 9 → n ≡ bcd_value byte → pair byte ≡ digits 2 n
pair_is byte n tens ones is =
    ap₂ (λ a b. a ∷ b ∷ []) (decimal_char (byte / 16) (n / 10 ^ 1 % 10) tens (omega arith))
    (decimal_char (byte % 16) (n / 10 ^ 0 % 10) ones (omega arith))

-- the parts of a time are the numbers of which it was made
minute_is : (a b c : ℕ) → b ≤ 59 → c ≤ 74 → (75 * (60 * a + b) + c) / 4500 ≡ a
minute_is a b c b_le c_le = omega arith

second_is : (a b c : ℕ) → b ≤ 59 → c ≤ 74 → (75 * (60 * a + b) + c) / 75 % 60 ≡ b
second_is a b c b_le c_le = omega arith

frame_is : (a b c : ℕ) → c ≤ 74 → (75 * (60 * a + b) + c) % 75 ≡ c
frame_is a b c c_le = omega arith

-- the line before its digits are written
abbrev template : List ℕ
template = codes "000000 0 track 00 index 00 00:00:00 abs 00:00:00\n"

-- the line with its digits, as the code writes them
abbrev pub filled : List ℕ → List ℕ → List ℕ → List ℕ → List ℕ → List ℕ → List ℕ → List ℕ → List ℕ → List ℕ
    → List ℕ
filled number control track index m s f m2 s2 f2 =
    put_at 46 f2 (put_at 43 s2 (put_at 40 m2 (put_at 33 f (put_at 30 s (put_at 27 m (put_at 24 index
    (put_at 15 track
    (put_at 7 control (put_at 0 number template)))))))))

pub filled_by_steps : (number control track index m s f m2 s2 f2 l1 l2 l3 l4 l5 l6 l7 l8 l9 l10 : List ℕ)
    → l1 ≡ put_at 0 number template → l2 ≡ put_at 7 control l1 → l3 ≡ put_at 15 track l2
    → l4 ≡ put_at 24 index l3
    → l5 ≡ put_at 27 m l4 → l6 ≡ put_at 30 s l5 → l7 ≡ put_at 33 f l6 → l8 ≡ put_at 40 m2 l7
    → l9 ≡ put_at 43 s2 l8 → l10 ≡ put_at 46 f2 l9 → l10 ≡ filled number control track index m s f m2 s2 f2
filled_by_steps number control track index m s f m2 s2 f2 l1 l2 l3 l4 l5 l6 l7 l8 l9 l10 e1 e2 e3 e4 e5 e6 e7
    e8 e9 e10 =
    e10 ∙ ap (put_at 46 f2) (e9 ∙ ap (put_at 43 s2) (e8 ∙ ap (put_at 40 m2) (e7 ∙ ap (put_at 33 f)
    (e6 ∙ ap (put_at 30 s) (e5 ∙ ap (put_at 27 m) (e4 ∙ ap (put_at 24 index) (e3 ∙ ap (put_at 15 track)
    (e2 ∙ ap (put_at 7 control) e1))))))))

pub control_is : (c n : ℕ) → n < 2 ^ 4 → c ≡ digit_char n → c ∷ [] ≡ hex_digits 1 n
control_is c n small is = ap (λ d. d ∷ []) (is ∙ ap digit_char
    (let same : n ≡ n / 16 ^ 0 % 16 = omega arith in same))

-- the line of a frame of the program, by its parts
abbrev line_of : List ℕ → List ℕ → List ℕ → List ℕ → List ℕ → List ℕ → List ℕ → List ℕ → List ℕ → List ℕ
    → List ℕ
line_of number control track index m s f m2 s2 f2 =
    number ++ codes " " ++ (control ++ codes " track " ++ track ++ codes " index " ++ index
    ++ codes " " ++ (m ++ codes ":" ++ s ++ codes ":" ++ f) ++ codes " abs "
    ++ (m2 ++ codes ":" ++ s2 ++ codes ":" ++ f2))
    ++ codes "\n"

-- the line that the code writes
pub program_text : (m : List Bool) (block : ℕ) → first_outside m program_ranges ≡ None
    → filled (digits 6 block) (hex_digits 1 (field_value m 0 4)) (pair (field_value m 8 8))
    (pair (field_value m 16 8))
    (pair (field_value m 24 8)) (pair (field_value m 32 8)) (pair (field_value m 40 8))
    (pair (field_value m 56 8)) (pair (field_value m 64 8)) (pair (field_value m 72 8))
    ≡ q_line block (Ok (frame_at ProgramFrame m))
unfolding decimal_at time_value
program_text m block h =
    let p1 = passes m _ _ h in
    let p2 = passes m _ _ p1.1 in
    let p3 = passes m _ _ p2.1 in
    let p4 = passes m _ _ p3.1 in
    let p5 = passes m _ _ p4.1 in
    let p6 = passes m _ _ p5.1 in
    let p7 = passes m _ _ p6.1 in
    let p8 = passes m _ _ p7.1 in
    let p9 = passes m _ _ p8.1 in
    let track = within 1 99 (field_value m 8 8) p1.0 in
    let index = within 0 99 (field_value m 16 8) p2.0 in
    let a = within 0 99 (field_value m 24 8) p3.0 in
    let b = within 0 59 (field_value m 32 8) p4.0 in
    let c = within 0 74 (field_value m 40 8) p5.0 in
    let d = within 0 99 (field_value m 56 8) p7.0 in
    let e = within 0 59 (field_value m 64 8) p8.0 in
    let f = within 0 74 (field_value m 72 8) p9.0 in
    let va = bcd_value (field_value m 24 8) in
    let vb = bcd_value (field_value m 32 8) in
    let vc = bcd_value (field_value m 40 8) in
    let vd = bcd_value (field_value m 56 8) in
    let ve = bcd_value (field_value m 64 8) in
    let vf = bcd_value (field_value m 72 8) in
    let t = pair_is _ (bcd_value (field_value m 8 8)) track.tens track.ones refl in
    let x = pair_is _ (bcd_value (field_value m 16 8)) index.tens index.ones refl in
    let ta = pair_is _ ((75 * (60 * va + vb) + vc) / 4500) a.tens a.ones (minute_is va vb vc b.most c.most) in
    let tb = pair_is _ ((75 * (60 * va + vb) + vc) / 75 % 60) b.tens b.ones
    (second_is va vb vc b.most c.most) in
    let tc = pair_is _ ((75 * (60 * va + vb) + vc) % 75) c.tens c.ones (frame_is va vb vc c.most) in
    let td = pair_is _ ((75 * (60 * vd + ve) + vf) / 4500) d.tens d.ones (minute_is vd ve vf e.most f.most) in
    let te = pair_is _ ((75 * (60 * vd + ve) + vf) / 75 % 60) e.tens e.ones
    (second_is vd ve vf e.most f.most) in
    let tf = pair_is _ ((75 * (60 * vd + ve) + vf) % 75) f.tens f.ones (frame_is vd ve vf f.most) in
    λ i. line_of (digits 6 block) (hex_digits 1 (field_value m 0 4)) (t i) (x i) (ta i) (tb i) (tc i) (td i)
    (te i) (tf i)
