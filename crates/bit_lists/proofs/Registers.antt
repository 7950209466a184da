-- The register after some bytes.
use Rattle.std.proofs.Common.{◌≡◌, ℕ, ◌+◌, ◌-◌, ◌*◌, ◌/◌, ◌%◌, ◌^◌, ◌<◌, false, not, map, Bool, List, [], ◌∷◌, ◌++◌, get_or, bit_xor, length, take, replicate, sym, ap, ap₂, ◌∙◌, arith, length-append, append-nil, append_assoc, subst}
use Rattle.std.proofs.lemmas.Nat.{xor_lt}
use Rattle.std.proofs.Math.Seq.{take-length}
use Rattle.std.proofs.lemmas.List.{take_more}
use Rattle.bit_lists.specs.Bits.{bits_of, number_of, bits_of_bytes}
use Rattle.bit_lists.specs.Check.{check_polynomial, check_bits, check_of}
use Rattle.bit_lists.specs.Polynomial.{combined, division_steps, remainder}
use Rattle.bit_lists.proofs.BitsLemmas.{length-bits_of, length-bits_of_bytes, bits_of_bytes-append, bits_of-zero, number_of-bits_of, number_of-not}
use Rattle.bit_lists.proofs.Combined.{combined-zeros, zeros-combined}
use Rattle.bit_lists.proofs.Division.{division_steps-add}
use Rattle.bit_lists.proofs.ByteSteps.{byte_step}
use Rattle.bit_lists.specs.declared.check.TheConstants.{REMAINDERS}
use Rattle.bit_lists.specs.Register.{IsRegisterOf, TakesByte, TakesPair}
use Rattle.bit_lists.proofs.Remainders.{REMAINDERS_at}

pub takes_byte : (register byte index : ℕ) → register < 2 ^ 16 → byte < 2 ^ 8
    → index ≡ bit_xor (register / 2 ^ 8) byte
    → TakesByte register byte (bit_xor (register * 2 ^ 8 % 2 ^ 16) (get_or REMAINDERS index 0))
takes_byte register byte index register_lt byte_lt at rest le =
    let lt : bit_xor (register / 2 ^ 8) byte < 256 = xor_lt 8 (register / 2 ^ 8) byte (omega arith) byte_lt in
    byte_step register byte (get_or REMAINDERS index 0) rest le
    (REMAINDERS_at index (subst (λ n. n < 256) (sym at) lt)
    ∙ ap (λ n. division_steps 8 check_polynomial (bits_of 8 n ++ replicate 16 false)) at)

pub starts : IsRegisterOf [] 0
unfolding division_steps bits_of_bytes
starts rest le = sym (ap (λ r. combined r rest) (bits_of-zero 16) ∙ zeros-combined 16 rest le)

behind : (bytes more : List ℕ) (rest : List Bool)
    → bits_of_bytes (bytes ++ more) ++ rest ≡ bits_of_bytes bytes ++ (bits_of_bytes more ++ rest)
behind bytes more rest =
    ap (λ bs. bs ++ rest) (bits_of_bytes-append bytes more)
    ∙ append_assoc (bits_of_bytes bytes) (bits_of_bytes more) rest

pub one_more : (bytes : List ℕ) (register byte next : ℕ) → IsRegisterOf bytes register
    → TakesByte register byte next
    → IsRegisterOf (bytes ++ byte ∷ []) next
unfolding bits_of_bytes
one_more bytes register byte next before takes rest le =
    let long : length (bits_of 8 byte ++ rest) ≡ 8 + length rest =
    length-append (bits_of 8 byte) rest ∙ ap (λ n. n + length rest) (length-bits_of 8 byte) in
    let message = bits_of_bytes (bytes ++ byte ∷ []) ++ rest in
    division_steps-add (8 * length bytes) 8 (8 * length (bytes ++ byte ∷ [])) check_polynomial message
    (omega (arith, length-append bytes (byte ∷ [])))
    ∙ ap (division_steps 8 check_polynomial)
    (ap (division_steps (8 * length bytes) check_polynomial)
    (behind bytes (byte ∷ []) rest
    ∙ ap (λ bs. bits_of_bytes bytes ++ (bs ++ rest)) (append-nil (bits_of 8 byte)))
    ∙ before (bits_of 8 byte ++ rest) (omega arith))
    ∙ takes rest le

pub two_more : (bytes : List ℕ) (register one two next : ℕ) → IsRegisterOf bytes register
    → TakesPair register one two next
    → IsRegisterOf (bytes ++ one ∷ two ∷ []) next
unfolding bits_of_bytes
two_more bytes register one two next before takes rest le =
    let pair = bits_of 8 one ++ (bits_of 8 two ++ rest) in
    let long : length pair ≡ 8 + (8 + length rest) =
    length-append (bits_of 8 one) (bits_of 8 two ++ rest)
    ∙ ap₂ (λ a b. a + b) (length-bits_of 8 one)
    (length-append (bits_of 8 two) rest ∙ ap (λ n. n + length rest) (length-bits_of 8 two)) in
    let message = bits_of_bytes (bytes ++ one ∷ two ∷ []) ++ rest in
    division_steps-add (8 * length bytes) 16 (8 * length (bytes ++ one ∷ two ∷ [])) check_polynomial message
    (omega (arith, length-append bytes (one ∷ two ∷ [])))
    ∙ ap (division_steps 16 check_polynomial)
    (ap (division_steps (8 * length bytes) check_polynomial)
    (behind bytes (one ∷ two ∷ []) rest
    ∙ ap (λ bs. bits_of_bytes bytes ++ bs)
    (append_assoc (bits_of 8 one) (bits_of 8 two ++ []) rest
    ∙ ap (λ bs. bits_of 8 one ++ (bs ++ rest)) (append-nil (bits_of 8 two))))
    ∙ before pair (omega arith))
    ∙ takes rest le

pub ends : (bytes : List ℕ) (register : ℕ) → register < 2 ^ 16 → IsRegisterOf bytes register
    → 2 ^ 16 - 1 - register ≡ check_of bytes
unfolding check_of check_bits remainder
ends bytes register lt all =
    let zeros = replicate 16 false in
    let message = bits_of_bytes bytes ++ zeros in
    let steps : length message - 16 ≡ 8 * length bytes =
    omega (arith, length-append (bits_of_bytes bytes) zeros, length-bits_of_bytes bytes) in
    let remains : remainder check_polynomial message ≡ bits_of 16 register =
    ap (λ k. division_steps k check_polynomial message) steps
    ∙ all zeros (omega arith)
    ∙ combined-zeros 16 (bits_of 16 register) (omega (arith, length-bits_of 16 register)) in
    let inverted : number_of (map not (bits_of 16 register)) + register + 1 ≡ 2 ^ 16 =
    ap (λ n. number_of (map not (bits_of 16 register)) + n + 1)
    (sym (number_of-bits_of 16 register ∙ omega arith))
    ∙ number_of-not (bits_of 16 register)
    ∙ ap (λ k. 2 ^ k) (length-bits_of 16 register) in
    let number : 2 ^ 16 - 1 - register ≡ number_of (map not (bits_of 16 register)) = omega arith in
    number ∙ sym (ap (λ bs. number_of (map not bs)) remains)

-- `register` continues the register `begun` by the first `taken` bytes
abbrev pub GoesOn : ℕ → List ℕ → ℕ → ℕ → Type 0
GoesOn begun bytes taken register = (before : List ℕ) → IsRegisterOf before begun
    → IsRegisterOf (before ++ take taken bytes) register

pub goes_on : (begun : ℕ) (bytes : List ℕ) (taken register next : ℕ) → taken < length bytes
    → GoesOn begun bytes taken register
    → TakesByte register (get_or bytes taken 0) next → GoesOn begun bytes (taken + 1) next
goes_on begun bytes taken register next lt before takes front is =
    let parts : (front ++ take taken bytes) ++ get_or bytes taken 0 ∷ [] ≡ front ++ take (taken + 1) bytes =
    append_assoc front (take taken bytes) (get_or bytes taken 0 ∷ [])
    ∙ ap (λ xs. front ++ xs) (sym (take_more bytes taken 0 lt)) in
    subst (λ xs. IsRegisterOf xs next) parts
    (one_more (front ++ take taken bytes) register (get_or bytes taken 0) next (before front is) takes)

pub goes_on_by_two : (begun : ℕ) (bytes : List ℕ) (taken register next : ℕ) → taken + 1 < length bytes
    → GoesOn begun bytes taken register
    → TakesPair register (get_or bytes taken 0) (get_or bytes (taken + 1) 0) next
    → GoesOn begun bytes (taken + 2) next
goes_on_by_two begun bytes taken register next lt before takes front is =
    let one = get_or bytes taken 0 in
    let two = get_or bytes (taken + 1) 0 in
    let further : taken + 1 + 1 ≡ taken + 2 = omega arith in
    let pair : take (taken + 2) bytes ≡ take taken bytes ++ one ∷ two ∷ [] =
    ap (λ n. take n bytes) (sym further)
    ∙ (take_more bytes (taken + 1) 0 lt
    ∙ (ap (λ xs. xs ++ two ∷ []) (take_more bytes taken 0 (omega arith))
    ∙ append_assoc (take taken bytes) (one ∷ []) (two ∷ []))) in
    let parts : (front ++ take taken bytes) ++ one ∷ two ∷ [] ≡ front ++ take (taken + 2) bytes =
    append_assoc front (take taken bytes) (one ∷ two ∷ []) ∙ ap (λ xs. front ++ xs) (sym pair) in
    subst (λ xs. IsRegisterOf xs next) parts
    (two_more (front ++ take taken bytes) register one two next (before front is) takes)

pub whole : (begun : ℕ) (bytes : List ℕ) (taken register : ℕ) → taken ≡ length bytes
    → GoesOn begun bytes taken register
    → (before : List ℕ) → IsRegisterOf before begun → IsRegisterOf (before ++ bytes) register
whole begun bytes taken register all goes before is =
    subst (λ xs. IsRegisterOf (before ++ xs) register) (ap (λ n. take n bytes) all ∙ take-length bytes)
    (goes before is)
