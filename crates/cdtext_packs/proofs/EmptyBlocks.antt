-- Blocks of the lead-in without symbols.
use Rattle.std.proofs.Common.{◌≡◌, ℕ, ◌+◌, ◌*◌, ◌-◌, ◌^◌, ◌%◌, ◌<◌, List, [], ◌∷◌, drop, false, get_or, length, replicate, suc, take, zero, refl, true, Bool, eqb, ap, ap₂, sym, ◌∙◌, arith}
use Rattle.std.specs.Prelude.{min, bit_or}
use Rattle.std.proofs.lemmas.Nat.{or_mod, le_or_l, le_or_r}
use Rattle.bit_lists.specs.Bits.{bits_of, bits_of_bytes, number_of, numbers_of}
use Rattle.bit_lists.specs.Check.{check_bits, check_of}
use Rattle.bit_lists.specs.Counting.{counted}
use Rattle.bit_lists.specs.Polynomial.{division_step, division_steps, remainder}
use Rattle.raw_subcode.specs.Channels.{symbol_bits, symbols_of}
use Rattle.cdtext_packs.specs.LeadIn.{pack_at}
use Rattle.cdtext_packs.specs.Packs.{check_matches}
use Rattle.cdtext_packs.specs.TextSteps.{answered, offered}
use Rattle.cdtext_packs.specs.declared.kinds.Offer.{Offer}
use Rattle.cdtext_packs.proofs.Offers.{bad_offer}
use Rattle.cdtext_packs.specs.declared.lead_in_texts.LeadInTexts.{LeadInTexts}

pub or_zeros : (a b : ℕ) → bit_or a b % 64 ≡ 0 → (a % 64 ≡ 0) × (b % 64 ≡ 0)
or_zeros a b none =
    let both : bit_or (a % 64) (b % 64) ≡ 0 = sym (or_mod a b 6) ∙ none in
    let left = le_or_l (a % 64) (b % 64) in
    let right = le_or_r (a % 64) (b % 64) in
    (omega (arith, both, left), omega (arith, both, right))

pub no_symbols : (bytes : List ℕ) → ((n : ℕ) → n < length bytes → get_or bytes n 0 % 64 ≡ 0)
    → symbols_of bytes ≡ replicate (length bytes) 0
no_symbols [] zeros = refl
no_symbols (b ∷ bytes) zeros =
    ap₂ (λ (x : ℕ) (l : List ℕ). x ∷ l) (zeros 0 (omega arith))
    (no_symbols bytes (λ n lt. zeros (suc n) (omega (arith, lt))))

-- four packs of zeros
empty_pack : (symbols : List ℕ) (k : ℕ) → k < 4 → symbols ≡ replicate 96 0
    → numbers_of 8 (symbol_bits (take 24 (drop (24 * k) symbols))) ≡ replicate 18 0
unfolding numbers_of number_of bits_of
empty_pack symbols zero lt none =
    ap (λ (l : List ℕ). numbers_of 8 (symbol_bits (take 24 (drop 0 l)))) none
empty_pack symbols (suc zero) lt none =
    ap (λ (l : List ℕ). numbers_of 8 (symbol_bits (take 24 (drop 24 l)))) none
empty_pack symbols (suc (suc zero)) lt none =
    ap (λ (l : List ℕ). numbers_of 8 (symbol_bits (take 24 (drop 48 l)))) none
empty_pack symbols (suc (suc (suc zero))) lt none =
    ap (λ (l : List ℕ). numbers_of 8 (symbol_bits (take 24 (drop 72 l)))) none
empty_pack symbols (suc (suc (suc (suc k)))) lt none = absurd (omega (arith, lt))

-- the check of sixteen zeros is not zero
zeros_check : check_bits (bits_of_bytes (replicate 16 0)) ≡ replicate 16 true
unfolding check_bits bits_of_bytes bits_of remainder division_steps division_step
zeros_check = refl

zeros_do_not_match : check_matches (replicate 18 0) ≡ false
unfolding check_matches check_of number_of
zeros_do_not_match = ap (λ (bits : List Bool). eqb (number_of bits) 0) zeros_check

zeros_offered : (s : LeadInTexts) (pack : List ℕ) → pack ≡ replicate 18 0
    → offered s pack ≡ record s { bad = counted s.bad }
unfolding offered
zeros_offered s pack zeros =
    let bad : check_matches pack ≡ false = ap check_matches zeros ∙ zeros_do_not_match in
    ap (λ (o : Offer). answered o s pack) (bad_offer s.reader pack bad)

four_counted : (n : ℕ) → min (n + 4) (2 ^ 32 - 1) ≡ counted (counted (counted (counted n)))
four_counted n = omega arith

pub empty_offered : (s : LeadInTexts) (block : List ℕ) → symbols_of block ≡ replicate 96 0
    → record s { bad = min (s.bad + 4) (2 ^ 32 - 1) }
    ≡ offered (offered (offered (offered s (pack_at block 0)) (pack_at block 1)) (pack_at block 2))
    (pack_at block 3)
empty_offered s block none =
    let symbols = symbols_of block in
    let one : LeadInTexts = record s { bad = counted s.bad } in
    let two : LeadInTexts = record one { bad = counted one.bad } in
    let three : LeadInTexts = record two { bad = counted two.bad } in
    let first = zeros_offered s (pack_at block 0) (empty_pack symbols 0 (omega arith) none) in
    let second = zeros_offered one (pack_at block 1) (empty_pack symbols 1 (omega arith) none) in
    let third = zeros_offered two (pack_at block 2) (empty_pack symbols 2 (omega arith) none) in
    let fourth = zeros_offered three (pack_at block 3) (empty_pack symbols 3 (omega arith) none) in
    ap (λ n. record s { bad = n }) (four_counted s.bad)
    ∙ sym (ap (λ (t : LeadInTexts). offered (offered (offered t (pack_at block 1)) (pack_at block 2))
    (pack_at block 3)) first
    ∙ ap (λ (t : LeadInTexts). offered (offered t (pack_at block 2)) (pack_at block 3)) second
    ∙ ap (λ (t : LeadInTexts). offered t (pack_at block 3)) third
    ∙ fourth)
