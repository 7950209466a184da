-- Fields that are out of their ranges.
use Rattle.std.proofs.Common.{◌≡◌, ℕ, ◌+◌, ◌-◌, ◌*◌, ◌<◌, ◌≤◌, List, [], length, get_or, refl, sym, ap, subst, arith, inl, inr, Result, Ok, Err}
use Rattle.std.specs.Prelude.{IsErrAnd, MatchResult}
use Rattle.std.specs.List.{AllByRecursion}
use Rattle.std.proofs.lemmas.Bool.Decides.{leb_tells}
use Rattle.cdg_checkpoint.specs.Table.{Slots, Check, IsBadAt, IsCheckpointFile, IsFirstOut, IsFieldInRange, IsOutOfPart, IsPartInRange, body_parts, all_parts, empty_symbols, number, Program, IsFirstAbove}

slot_byte : (file : List ℕ) (k j : ℕ) → 24 + k ≡ j → number file Slots k ≡ get_or file j 0
slot_byte file k j e =
    let place : 24 + 1 * k ≡ j = omega (arith, e) in
    let same : get_or file (24 + 1 * k) 0 ≡ get_or file j 0 = ap (λ i. get_or file i 0) place in
    omega (arith, same)

module _ (file : List ℕ) (empty : ℕ) (e : empty ≡ empty_symbols (number file Program 0)) (most : empty ≤ 168)
    (none : (k : ℕ) → k < empty → get_or file (24 + k) 0 < 1) where
  empty_slot : (k : ℕ) → k < empty → IsFieldInRange file Slots k
  empty_slot k lt =
      let zero_there : number file Slots k ≡ 0 = omega (arith, slot_byte file k (24 + k) refl, none k lt) in
      (omega (arith, zero_there), λ _. zero_there)

  full_slot : (k : ℕ) → empty ≤ k → get_or file (24 + empty + (k - empty)) 0 < 64
      → IsFieldInRange file Slots k
  full_slot k le small = (
    omega (arith, slot_byte file k (24 + empty + (k - empty)) (omega (arith, le)), small),
    λ lt. absurd (omega (arith, e, lt, le)),
  )

  any_slot : (k : ℕ) → ((j : ℕ) → empty + j ≡ k → get_or file (24 + empty + j) 0 < 64)
      → IsFieldInRange file Slots k
  any_slot k small = elim (leb_tells empty k) [
    | inl past ↦ full_slot k past.1 (small (k - empty) (omega (arith, past.1)))
    | inr before ↦ empty_slot k (omega (arith, before.1))
  ]

  pub slots_checked : (r : Result (Unit {0}) ℕ)
      → MatchResult r (λ _. (k : ℕ) → k < 168 - empty → get_or file (24 + empty + k) 0 < 64)
      (IsFirstAbove file (24 + empty) (168 - empty) 64)
      → MatchResult r (λ _. IsPartInRange file Slots) (IsOutOfPart file Slots)
  slots_checked (Ok done) all = λ k lt. any_slot k (λ j e'. all j (omega (arith, e', lt, most)))
  slots_checked (Err byte) out = record {
    k = empty + out.k;
    field = omega (arith, out.within, most);
    byte_is = omega (arith, out.byte_is);
    out = λ good. omega
        (arith, good.0, slot_byte file (empty + out.k) (24 + empty + out.k) (omega arith), out.above);
    earlier = λ j lt. any_slot j (λ i e'. out.earlier i (omega (arith, e', lt)));
  }

-- ---- all parts

pub all_checked : (file : List ℕ) (r : Result (Unit {0}) ℕ) → AllByRecursion (IsPartInRange file) body_parts
    → MatchResult r (λ _. IsPartInRange file Check) (IsOutOfPart file Check)
    → MatchResult r (λ _. AllByRecursion (IsPartInRange file) all_parts) (IsFirstOut file)
all_checked file (Ok done) (a, (b, (d, (e, (f, (g, (h, (i, (j, (k, (l, (m, n)))))))))))) last =
    (a, (b, (d, (e, (f, (g, (h, (i, (j, (k, (l, (m, (last, tt)))))))))))))
all_checked file (Err byte) before out =
    record { early = body_parts; part = Check; late = []; order = refl; earlier = before; here = out }

-- a file of the full length is a checkpoint if all its parts are in range
pub file_checked : (file : List ℕ) (r : Result (Unit {0}) ℕ) → length file ≡ 65045
    → MatchResult r (λ _. AllByRecursion (IsPartInRange file) all_parts) (IsFirstOut file)
    → MatchResult r (λ _. IsCheckpointFile file) (IsBadAt file)
file_checked file (Ok done) size all = record { size = size; ranges = all }
file_checked file (Err byte) size out = record {
  short = λ lt. absurd (omega (arith, size, lt));
  long = λ lt. absurd (omega (arith, size, lt));
  field = λ e. out;
}

-- the first part that is out of its range is the answer
pub exits : (file : List ℕ) (r : Result (Unit {0}) ℕ) (byte : ℕ) → IsErrAnd r (λ e. e ≡ byte)
    → IsFirstOut file byte
    → MatchResult r (λ _. AllByRecursion (IsPartInRange file) all_parts) (IsFirstOut file)
exits file (Ok done) byte h out = absurd h
exits file (Err e) byte h out = subst (IsFirstOut file) (sym h) out
