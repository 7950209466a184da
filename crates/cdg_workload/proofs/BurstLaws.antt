-- Scratches change a stream in bursts.
use Rattle.std.proofs.Common.{◌≡◌, ℕ, zero, suc, ◌+◌, ◌*◌, ◌/◌, ◌%◌, ◌<◌, ◌≤◌, false, ◌||◌, List, [], ◌∷◌, ◌++◌, length, get_or, take, drop, map, bit_xor, cond, refl, sym, ap, ap₂, ◌∙◌, inl, inr, lit<, mod-lt, arith}
use Rattle.std.proofs.Math.Seq.{take-append-add, drop-append-add}
use Rattle.std.proofs.lemmas.Bool.{cases_lt, cases_Bool, true≢false}
use Rattle.std.proofs.lemmas.List.{get_or-map, length-map, length-take, length-append, nil_from_length, drop_all, take_all, append-nil, map-append, take-append-drop}
use Rattle.std.proofs.lemmas.List.FromFn.{length-enumerate_from}
use Rattle.std.proofs.lemmas.Nat.{xor_lt}
use Rattle.std.specs.Int.Bits.{xor_zero_r}
use Rattle.std.specs.List.{list_any, enumerate_from}
use Rattle.rand_pcg.specs.Lcg.{Lcg}
use Rattle.rand_pcg.specs.Pcg.{pcg32}
use Rattle.raw_subcode.specs.Channels.{symbols_of}
use Rattle.rw_interleave.specs.Stream.{DiffersInBursts, AreBurstsFrom, is_in_burst}
use Rattle.cdg_workload.specs.Generator.{generator}
use Rattle.cdg_workload.specs.Scratches.{Burst, bursts, change_at, holds_place, scratched_byte, scratched, gap_of, size_of}
use Rattle.cdg_workload.proofs.Needles.{changed_from}
use Rattle.cdg_workload.proofs.BlockRuns.{changed_is, change_at-lt}

abbrev ends : Burst → ℕ × ℕ
ends burst = (burst.first, burst.size)

apart_from : (n e place : ℕ) (w : Lcg) → place ≤ e + 192 → AreBurstsFrom place (map ends (bursts n e w))
unfolding bursts
apart_from zero e place w within = tt
apart_from (suc n) e place w within =
    let word = (pcg32 w).0 in
    let first = e + gap_of word in (
      omega arith,
      omega arith,
      apart_from n (first + size_of word) (first + size_of word + 192) (pcg32 w).1 (omega arith),
    )

nothing_at : (those : List Burst) (p : ℕ) → list_any (is_in_burst p) (map ends those) ≡ false
    → change_at those p ≡ 0
unfolding change_at
nothing_at [] p none = refl
nothing_at (b ∷ rest) p none =
    elim (cases_Bool (holds_place p b)) [
      | inl within ↦ absurd (true≢false (sym (ap (λ t. t || list_any (is_in_burst p) (map ends rest)) within)
          ∙ none))
      | inr outside ↦
          ap (λ t. cond t b.change (change_at rest p)) outside
          ∙ nothing_at rest p (sym (ap (λ t. t || list_any (is_in_burst p) (map ends rest)) outside) ∙ none)
    ]

changed_at : (those : List Burst) (p : ℕ) (xs : List ℕ) (i : ℕ) → i < length xs
    → get_or (changed_from those p xs) i 0 ≡ bit_xor (get_or xs i 0) (change_at those (p + i))
unfolding changed_from
changed_at those p [] i lt = absurd (omega arith)
changed_at those p (x ∷ xs) zero lt = let e : p ≡ p + 0 = omega arith in
    ap (λ q. bit_xor x (change_at those q)) e
changed_at those p (x ∷ xs) (suc i) lt =
    let e : p + 1 + i ≡ p + suc i = omega arith in
    changed_at those (p + 1) xs i (omega arith) ∙ ap (λ q. bit_xor (get_or xs i 0) (change_at those q)) e

length-changed : (those : List Burst) (p : ℕ) (xs : List ℕ) → length (changed_from those p xs) ≡ length xs
unfolding changed_from
length-changed those p [] = refl
length-changed those p (x ∷ xs) = ap suc (length-changed those (p + 1) xs)

first_place : (p : ℕ) → 0 + p ≡ p
first_place p = omega arith

-- the program after the lead-in
program_is : (lead_in seed : ℕ) (bytes : List ℕ)
    → drop (96 * lead_in) (scratched lead_in seed bytes) ≡ changed_from
    (bursts (length (drop (96 * lead_in) bytes) / 192 + 1) 0 (generator seed)) 0 (drop (96 * lead_in) bytes)
unfolding scratched
program_is lead_in seed bytes =
    let k : ℕ = 96 * lead_in in
    let program : List ℕ = drop k bytes in
    let count : ℕ = length program / 192 + 1 in
    let those = bursts count 0 (generator seed) in
    let changed = map (scratched_byte those) (enumerate_from 0 program) in
    let same : changed ≡ changed_from those 0 program =
    sym (changed_is those 0 program (change_at-lt count 0 (generator seed))) in
    elim (cases_lt (length bytes) k) [
      | inl short ↦
          let none : program ≡ [] = drop_all k bytes (omega (arith, short)) in
          let nothing : changed ≡ [] =
          nil_from_length changed (length-map (enumerate_from 0 program) (scratched_byte those)
          ∙ length-enumerate_from 0 program ∙ ap length none) in
          drop_all k (take k bytes ++ changed)
          (omega (arith, length-append (take k bytes) changed, ap length nothing, length-take k bytes, short))
          ∙ sym nothing ∙ same
      | inr long ↦
          let size : length (take k bytes) + 0 ≡ k = ap (λ n. n + 0) (length-take k bytes)
          ∙ omega (arith, long) in
          ap (λ n. drop n (take k bytes ++ changed)) (sym size) ∙ drop-append-add (take k bytes) changed 0
          ∙ same
    ]

pub differ : (lead_in seed : ℕ) (bytes : List ℕ)
    → DiffersInBursts (symbols_of (drop (96 * lead_in) bytes))
    (symbols_of (drop (96 * lead_in) (scratched lead_in seed bytes)))
differ lead_in seed bytes =
    let program : List ℕ = drop (96 * lead_in) bytes in
    let those = bursts (length program / 192 + 1) 0 (generator seed) in
    let is = program_is lead_in seed bytes in
    let changed : List ℕ = changed_from those 0 program in
    record {
      size = ap (λ l. length (symbols_of l)) is ∙ length-map changed (λ b. b % 64)
          ∙ length-changed those 0 program ∙ sym (length-map program (λ b. b % 64));
      bursts = map ends those;
      apart = apart_from (length program / 192 + 1) 0 0 (generator seed) (omega arith);
      equal = λ p lt none.
          let within : p < length program = omega (arith, lt, length-map program (λ b. b % 64)) in
          let here : get_or changed p 0 ≡ get_or program p 0 =
          changed_at those 0 program p within
          ∙ ap (λ q. bit_xor (get_or program p 0) (change_at those q)) (first_place p)
          ∙ ap (bit_xor (get_or program p 0)) (nothing_at those p none) ∙ xor_zero_r (get_or program p 0) in
          ap (λ l. get_or (symbols_of l) p 0) is
          ∙ get_or-map (λ b. b % 64) changed p 0 0 (omega (arith, within, length-changed those 0 program))
          ∙ ap (λ b. b % 64) here
          ∙ sym (get_or-map (λ b. b % 64) program p 0 0 within);
    }

pub lead_in_stays : (lead_in seed : ℕ) (bytes : List ℕ)
    → take (96 * lead_in) (scratched lead_in seed bytes) ≡ take (96 * lead_in) bytes
unfolding scratched
lead_in_stays lead_in seed bytes =
    let k : ℕ = 96 * lead_in in
    let program : List ℕ = drop k bytes in
    let those = bursts (length program / 192 + 1) 0 (generator seed) in
    let changed = map (scratched_byte those) (enumerate_from 0 program) in
    elim (cases_lt (length bytes) k) [
      | inl short ↦
          let none : program ≡ [] = drop_all k bytes (omega (arith, short)) in
          let nothing : changed ≡ [] =
          nil_from_length changed (length-map (enumerate_from 0 program) (scratched_byte those)
          ∙ length-enumerate_from 0 program ∙ ap length none) in
          take_all k (take k bytes ++ changed)
          (omega (arith, length-append (take k bytes) changed, ap length nothing, length-take k bytes, short))
          ∙ ap (λ l. take k bytes ++ l) nothing ∙ append-nil (take k bytes)
      | inr long ↦
          let size : length (take k bytes) + 0 ≡ k = ap (λ n. n + 0) (length-take k bytes)
          ∙ omega (arith, long) in
          ap (λ n. take n (take k bytes ++ changed)) (sym size) ∙ take-append-add (take k bytes) changed 0
          ∙ append-nil (take k bytes)
    ]

high_bits : (byte change : ℕ) → change < 64 → (64 * (byte / 64) + bit_xor (byte % 64) change) / 64 ≡ byte / 64
high_bits byte change lt =
    let low : bit_xor (byte % 64) change < 64 = xor_lt 6 (byte % 64) change (mod-lt byte (lit< tt)) lt in
    omega (arith, low)

high_bits_stay : (those : List Burst) (p : ℕ) (xs : List ℕ) → ((q : ℕ) → change_at those q < 64)
    → map (λ byte. byte / 64) (map (scratched_byte those) (enumerate_from p xs)) ≡ map (λ byte. byte / 64) xs
high_bits_stay those p [] lt = refl
high_bits_stay those p (x ∷ xs) lt =
    ap₂ (λ (a : ℕ) (l : List ℕ). a ∷ l) (high_bits x (change_at those p) (lt p))
    (high_bits_stay those (p + 1) xs lt)

pub channels_stay : (lead_in seed : ℕ) (bytes : List ℕ)
    → map (λ byte. byte / 64) (scratched lead_in seed bytes) ≡ map (λ byte. byte / 64) bytes
unfolding scratched
channels_stay lead_in seed bytes =
    let k : ℕ = 96 * lead_in in
    let program : List ℕ = drop k bytes in
    let count : ℕ = length program / 192 + 1 in
    let those = bursts count 0 (generator seed) in
    let changed = map (scratched_byte those) (enumerate_from 0 program) in
    map-append (λ byte. byte / 64) (take k bytes) changed
    ∙ ap (λ l. map (λ byte. byte / 64) (take k bytes) ++ l)
    (high_bits_stay those 0 program (change_at-lt count 0 (generator seed)))
    ∙ sym (map-append (λ byte. byte / 64) (take k bytes) program)
    ∙ ap (map (λ byte. byte / 64)) (take-append-drop k bytes)
