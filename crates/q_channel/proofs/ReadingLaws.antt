-- 96 bits have exactly one reading.
use Rattle.std.proofs.Common.{◌≡◌, ℕ, Bool, true, false, List, ◌++◌, length, take, drop, Some, None, refl, sym, ap, ap₂, ◌∙◌, arith, length-drop, take-append-drop, eq-eqb, inl, inr}
use Rattle.std.specs.Prelude.{Ok, Err, Result, Option}
use Rattle.std.proofs.lemmas.Bool.{eqb-true, true≢false}
use Rattle.bit_lists.specs.Bits.{bits_of, number_of}
use Rattle.bit_lists.specs.Check.{check_bits}
use Rattle.bit_lists.proofs.BitsLemmas.{bits_of-number_of}
use Rattle.bit_lists.proofs.Checks.{length-check_bits}
use Rattle.q_channel.specs.declared.frame.QFrame.{QFrame}
use Rattle.q_channel.specs.declared.frame.QFault.{QFault}
use Rattle.q_channel.specs.declared.frame.QFault.TheVariants.{BadCrc, BadField}
use Rattle.q_channel.specs.QReading.{IsReading, first_bad_field, first_outside}
use Rattle.q_channel.specs.Kinds.{frame_at, kind_of}
use Rattle.q_channel.specs.ReadingOf.{reading_by, q_check_matches, reading_of}
use Rattle.q_channel.proofs.Ranges.{bool_cases}
use Rattle.q_channel.proofs.KindFacts.{ranges_agree}
use Rattle.q_channel.proofs.Frames.{is_good}
use Rattle.q_channel.proofs.OneReading.{frame_checked, read_frame}

-- lists of sixteen bits with the same number are equal
same_bits : (a b : List Bool) → length a ≡ 16 → length b ≡ 16 → number_of a ≡ number_of b → a ≡ b
same_bits a b a_size b_size same =
    sym (bits_of-number_of a) ∙ ap₂ bits_of (a_size ∙ sym b_size) same ∙ bits_of-number_of b

tail_size : (m : List Bool) → length m ≡ 96 → length (drop 80 m) ≡ 16
tail_size m size = omega (arith, length-drop 80 m)

check_from_test : (m : List Bool) → length m ≡ 96 → q_check_matches m ≡ true
    → drop 80 m ≡ check_bits (take 80 m)
check_from_test m size test =
    same_bits (drop 80 m) (check_bits (take 80 m)) (tail_size m size) (length-check_bits (take 80 m))
    (eqb-true _ _ test)

test_from_check : (m : List Bool) → drop 80 m ≡ check_bits (take 80 m) → q_check_matches m ≡ true
test_from_check m check =
    eq-eqb (number_of (drop 80 m)) (number_of (check_bits (take 80 m))) (ap number_of check)

-- the computed reading is a reading
reading_by_tests : (m : List Bool) (test : Bool) (bad : Option ℕ) → length m ≡ 96 → q_check_matches m ≡ test
    → first_bad_field m ≡ bad
    → IsReading m (reading_by test bad (frame_at (kind_of m) m))
unfolding first_bad_field
reading_by_tests m false bad size test fields =
    λ check. absurd (true≢false (sym (test_from_check m check) ∙ test))
reading_by_tests m true (Some bit) size test fields = (check_from_test m size test, fields)
reading_by_tests m true None size test fields =
    let good = is_good m size (ap (first_outside m) (sym (ranges_agree m)) ∙ fields) in
    let check = check_from_test m size test in
    record {
      valid = good.valid;
      spelling =
          sym (take-append-drop 80 m)
          ∙ ap₂ (λ a b. a ++ b) (sym good.bits) (check ∙ ap check_bits (sym good.bits));
    }

pub is_reading : (m : List Bool) → length m ≡ 96 → IsReading m (reading_of m)
unfolding reading_of
is_reading m size = reading_by_tests m (q_check_matches m) (first_bad_field m) size refl refl

-- there is no other reading
pub only_reading : (m : List Bool) (what : Result QFrame QFault) → length m ≡ 96 → IsReading m what
    → what ≡ reading_of m
unfolding reading_of first_bad_field
only_reading m (Ok frame) size is =
    let read = read_frame frame m is in
    let test : q_check_matches m ≡ true = test_from_check m (frame_checked frame m is).1 in
    let fields : first_bad_field m ≡ None = ap (first_outside m) (ranges_agree m) ∙ read.1 in
    sym (λ i. reading_by (test i) (fields i) (read.0 i))
only_reading m (Err BadCrc) size differs = elim (bool_cases (q_check_matches m)) [
  | inl test ↦ absurd (differs (check_from_test m size test))
  | inr test ↦ sym (λ i. reading_by (test i) (first_bad_field m) (frame_at (kind_of m) m))
]
only_reading m (Err (BadField bit)) size reading =
    let test : q_check_matches m ≡ true = test_from_check m reading.0 in
    sym (λ i. reading_by (test i) (reading.1 i) (frame_at (kind_of m) m))
