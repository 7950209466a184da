-- Idle packs one after another.
use Rattle.std.proofs.Common.{◌≡◌, ℕ, zero, suc, ◌+◌, ◌-◌, ◌<◌, ◌≤◌, List, [], ◌∷◌, ◌++◌, length, drop, replicate, Some, refl, sym, ap, subst, ◌∙◌, append_assoc, arith}
use Rattle.std.proofs.lemmas.List.{get_or-replicate, length-append, length-drop, length-replicate, append-nil, drop-append-le}
use Rattle.rw_code.specs.Codeword.{IsCodeword}
use Rattle.rw_interleave.specs.Interleave.{swapped}
use Rattle.rw_interleave.specs.Spreading.{spread_next, spread_gives, spread_over, spread_symbol}
use Rattle.rw_code.specs.Packs.{idle_pack}
use Rattle.cdg_io.specs.Change.{from_to}
use Rattle.cdg_io.specs.Run.{run_state}
use Rattle.stream_writer.specs.Given.{symbols_from, AreQuiet, TakesPack, TakesPacks}

one_more : (n : ℕ) → replicate n idle_pack ++ idle_pack ∷ [] ≡ replicate (n + 1) idle_pack
one_more zero = refl
one_more (suc n) =
    let next : suc (n + 1) ≡ suc n + 1 = omega arith in
    ap (λ xs. idle_pack ∷ xs) (one_more n) ∙ ap (λ k. replicate k idle_pack) next

length-next : (packs : List (List ℕ)) (pack : List ℕ) → length packs ≤ 7 → length (spread_next packs pack) ≤ 7
unfolding spread_next
length-next packs pack few = omega (
  arith,
  length-drop (length (packs ++ pack ∷ []) - 7) (packs ++ pack ∷ []),
  length-append packs (pack ∷ []),
)

-- none of the last packs is known to be idle
pub none_quiet : (packs : List (List ℕ)) → length packs ≤ 7 → AreQuiet packs 0
none_quiet packs few = record { few = few; before = packs; idle = sym (append-nil packs) }

pub start_quiet : (packs : List (List ℕ)) → packs ≡ [] → AreQuiet packs 0
start_quiet packs none = none_quiet packs (omega (arith, ap length none))

pub loud : (packs : List (List ℕ)) (quiet : ℕ) (pack : List ℕ) → AreQuiet packs quiet
    → AreQuiet (spread_next packs pack) 0
loud packs quiet pack are = none_quiet (spread_next packs pack) (length-next packs pack are.few)

-- one more idle pack
pub one_quiet : (packs : List (List ℕ)) (quiet : ℕ) → AreQuiet packs quiet → quiet < 7
    → AreQuiet (spread_next packs idle_pack) (quiet + 1)
unfolding spread_next
one_quiet packs quiet are lt =
    let all : packs ++ idle_pack ∷ [] ≡ are.before ++ replicate (quiet + 1) idle_pack =
    ap (λ (xs : List (List ℕ)). xs ++ idle_pack ∷ []) are.idle
    ∙ append_assoc are.before (replicate quiet idle_pack) (idle_pack ∷ [])
    ∙ ap (λ (xs : List (List ℕ)). are.before ++ xs) (one_more quiet) in
    let size : length packs ≡ length are.before + quiet =
    ap length are.idle
    ∙ length-append are.before (replicate quiet idle_pack)
    ∙ ap (λ n. length are.before + n) (length-replicate quiet idle_pack) in
    let cut : ℕ = length (packs ++ idle_pack ∷ []) - 7 in
    let within : cut ≤ length are.before =
    omega (arith, are.few, size, length-append packs (idle_pack ∷ [])) in
    record {
      few = length-next packs idle_pack are.few;
      before = drop cut are.before;
      idle = ap (drop cut) all ∙ drop-append-le cut are.before (replicate (quiet + 1) idle_pack) within;
    }

-- all of the last seven packs are idle
all_quiet : (packs : List (List ℕ)) (quiet : ℕ) → AreQuiet packs quiet → 7 ≤ quiet
    → packs ≡ replicate 7 idle_pack
all_quiet packs quiet are most =
    let size : length packs ≡ length are.before + quiet =
    ap length are.idle
    ∙ length-append are.before (replicate quiet idle_pack)
    ∙ ap (λ n. length are.before + n) (length-replicate quiet idle_pack) in
    let seven : quiet ≡ 7 = omega (arith, size, are.few, most) in
    let none : are.before ≡ [] = nothing are.before (omega (arith, size, are.few, most)) in
    are.idle
    ∙ ap (λ (xs : List (List ℕ)). xs ++ replicate quiet idle_pack) none
    ∙ ap (λ n. replicate n idle_pack) seven
  where
    nothing : (xs : List (List ℕ)) → length xs ≡ 0 → xs ≡ []
    nothing [] e = refl
    nothing (x ∷ xs) e = absurd (omega (arith, e))

idle_next : spread_next (replicate 7 idle_pack) idle_pack ≡ replicate 7 idle_pack
unfolding spread_next
idle_next = refl

idle_gives : spread_gives (replicate 7 idle_pack) idle_pack ≡ Some idle_pack
unfolding spread_gives spread_over spread_symbol swapped
idle_gives = refl

-- after seven idle packs, another idle pack has a slot of zeros and changes nothing
pub still_quiet : (Comes : ℕ → List ℕ → Type 0) (packs : List (List ℕ)) (quiet : ℕ) → AreQuiet packs quiet
    → 7 ≤ quiet → Comes 0 idle_pack → IsCodeword idle_pack
    → TakesPack Comes packs packs idle_pack idle_pack
still_quiet Comes packs quiet are most comes codeword =
    let all = all_quiet packs quiet are most in
    record {
      comes = comes;
      codeword = codeword;
      after_is = all ∙ sym idle_next ∙ ap (λ (xs : List (List ℕ)). spread_next xs idle_pack) (sym all);
      slot_is = sym idle_gives ∙ ap (λ (xs : List (List ℕ)). spread_gives xs idle_pack) (sym all);
    }

four_next : run_state spread_next (replicate 7 idle_pack) (replicate 4 idle_pack) ≡ replicate 7 idle_pack
unfolding spread_next
four_next = refl

four_give : symbols_from (replicate 7 idle_pack) (replicate 4 idle_pack) ≡ replicate 96 0
unfolding spread_next spread_gives spread_over spread_symbol swapped
four_give = refl

-- after seven idle packs, four idle packs have a block of zeros and change nothing
pub quiet_block : (Comes : ℕ → List ℕ → Type 0) (packs : List (List ℕ)) (quiet : ℕ) → AreQuiet packs quiet
    → 7 ≤ quiet → ((k : ℕ) → k < 4 → Comes k idle_pack) → IsCodeword idle_pack
    → TakesPacks Comes 4 (from_to packs packs) (replicate 96 0) (replicate 4 idle_pack)
quiet_block Comes packs quiet are most come codeword =
    let all = all_quiet packs quiet are most in
    let idles : List (List ℕ) = replicate 4 idle_pack in
    record {
      given_are = record {
        count = refl;
        each = λ k lt.
            let there : k ≡ 0 + k = omega arith in
            subst (λ (pack : List ℕ). Comes (0 + k) pack) (sym (get_or-replicate 4 k idle_pack [] lt))
            (subst (λ n. Comes n idle_pack) there (come k lt));
        codewords = λ k d lt. subst IsCodeword (sym (get_or-replicate 4 k idle_pack d lt)) codeword;
      };
      symbols_are = sym four_give ∙ ap (λ (xs : List (List ℕ)). symbols_from xs idles) (sym all);
      after_is =
          all ∙ sym four_next ∙ ap (λ (xs : List (List ℕ)). run_state spread_next xs idles) (sym all);
    }
