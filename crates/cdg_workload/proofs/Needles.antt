-- A needle makes exactly the bursts of its generator.
use Rattle.std.proofs.Common.{◌≡◌, ◌⊎◌, ℕ, zero, suc, ◌+◌, ◌-◌, ◌*◌, ◌%◌, ◌<◌, ◌≤◌, Bool, false, ◌&&◌, ◌==◌, cond, List, [], ◌∷◌, length, bit_xor, Some, refl, sym, ap, ap₂, ◌∙◌, inl, inr, arith}
use Rattle.std.proofs.lemmas.Bool.{cases_lt, ne_eqb, le-leb, lt-leb, lt-ltb, le-ltb}
use Rattle.std.specs.Prelude.{nat_lt}
use Rattle.rand_pcg.specs.Lcg.{Lcg}
use Rattle.rand_pcg.specs.Pcg.{pcg32}
use Rattle.cdg_io.specs.Run.{give, run_gives}
use Rattle.cdg_workload.specs.Scratches.{Burst, bursts, change_at, gap_of, size_of, change_of}
use Rattle.cdg_workload.specs.Steps.{next_needle, ready, change_now, past_byte, byte_next, byte_gives}
use Rattle.cdg_workload.specs.declared.needle.Needle.{Needle}

-- ---- One symbol.

abbrev pub at : ℕ → ℕ → ℕ → Lcg → Needle
at gap left change words = record { gap = gap; left = left; change = change; words = words }

not_zero : (n : ℕ) → (suc n == 0) ≡ false
not_zero n = ne_eqb (suc n) 0 (λ e. omega arith)

less_one : (n : ℕ) → suc n - 1 ≡ n
less_one n = omega arith

ready_before : (g l c : ℕ) (w : Lcg) → ready (at (suc g) l c w) ≡ at (suc g) l c w
unfolding ready
ready_before g l c w = ap (λ t. cond (t && (l == 0)) (next_needle w) (at (suc g) l c w)) (not_zero g)

pub ready_stays : (g l c : ℕ) (w : Lcg) → 0 < g → ready (at g l c w) ≡ at g l c w
ready_stays zero l c w some = absurd (omega (arith, some))
ready_stays (suc g) l c w some = ready_before g l c w

ready_within : (l c : ℕ) (w : Lcg) → ready (at 0 (suc l) c w) ≡ at 0 (suc l) c w
unfolding ready
ready_within l c w = ap (λ t. cond t (next_needle w) (at 0 (suc l) c w)) (not_zero l)

pub next_before : (g l c : ℕ) (w : Lcg) (b : ℕ) → byte_next (at (suc g) l c w) b ≡ at g l c w
unfolding byte_next past_byte
next_before g l c w b =
    ap past_byte (ready_before g l c w)
    ∙ ap (λ t. cond t (at (suc g) (l - 1) c w) (at (suc g - 1) l c w)) (not_zero g)
    ∙ ap (λ n. at n l c w) (less_one g)

pub gives_before : (g l c : ℕ) (w : Lcg) (b : ℕ) → byte_gives (at (suc g) l c w) b ≡ Some (bit_xor b 0)
unfolding byte_gives change_now
gives_before g l c w b =
    ap (λ n. Some (bit_xor b (change_now n))) (ready_before g l c w)
    ∙ ap (λ t. Some (bit_xor b (cond t c 0))) (not_zero g)

pub next_within : (l c : ℕ) (w : Lcg) (b : ℕ) → byte_next (at 0 (suc l) c w) b ≡ at 0 l c w
unfolding byte_next past_byte
next_within l c w b = ap past_byte (ready_within l c w) ∙ ap (λ n. at 0 n c w) (less_one l)

pub gives_within : (l c : ℕ) (w : Lcg) (b : ℕ) → byte_gives (at 0 (suc l) c w) b ≡ Some (bit_xor b c)
unfolding byte_gives change_now
gives_within l c w b = ap (λ n. Some (bit_xor b (change_now n))) (ready_within l c w)

-- the number of places before the next burst, minus one
abbrev gap_less : Lcg → ℕ
gap_less words = 191 + (pcg32 words).0 % 64

drawn_is : (w : Lcg)
    → next_needle w ≡ at (suc (gap_less w)) (size_of (pcg32 w).0) (change_of (pcg32 w).0) (pcg32 w).1
unfolding next_needle
drawn_is w =
    let e : 192 + (pcg32 w).0 % 64 ≡ suc (191 + (pcg32 w).0 % 64) = omega arith in
    ap (λ n. at n (size_of (pcg32 w).0) (change_of (pcg32 w).0) (pcg32 w).1) e

-- after a burst, at least 192 symbols are unchanged
pub ready_gap : (t : Needle) → t.gap ≡ 0 → t.left ≡ 0 → 192 ≤ (ready t).gap
unfolding ready next_needle
ready_gap t none ended =
    let drawn : ready t ≡ next_needle t.words =
    ap₂ (λ (g l : ℕ). cond ((g == 0) && (l == 0)) (next_needle t.words) t) none ended in
    let gap : (ready t).gap ≡ gap_of (pcg32 t.words).0 = ap (λ (n : Needle). n.gap) drawn in
    omega (arith, gap)

-- a needle that is ready is unchanged by `ready`
pub ready_again : (g l c : ℕ) (w : Lcg) → ready (ready (at g l c w)) ≡ ready (at g l c w)
ready_again (suc g) l c w = ap ready (ready_before g l c w)
ready_again zero (suc l) c w = ap ready (ready_within l c w)
ready_again zero zero c w =
    let r : Needle = ready (at 0 0 c w) in
    ready_stays r.gap r.left r.change r.words (omega (arith, ready_gap (at 0 0 c w) refl refl))

-- a needle that is ready has symbols before or in a burst
pub ready_some : (g l c : ℕ) (w : Lcg) → 0 < (ready (at g l c w)).gap + (ready (at g l c w)).left
ready_some (suc g) l c w = omega (arith, ap (λ (n : Needle). n.gap) (ready_before g l c w))
ready_some zero (suc l) c w = omega (arith, ap (λ (n : Needle). n.left) (ready_within l c w))
ready_some zero zero c w = omega (arith, ready_gap (at 0 0 c w) refl refl)

ready_drawn : (c : ℕ) (w : Lcg)
    → ready (at 0 0 c w) ≡ ready
    (at (suc (gap_less w)) (size_of (pcg32 w).0) (change_of (pcg32 w).0) (pcg32 w).1)
unfolding ready
ready_drawn c w = drawn_is w
    ∙ sym (ready_before (gap_less w) (size_of (pcg32 w).0) (change_of (pcg32 w).0) (pcg32 w).1)

next_drawn : (c : ℕ) (w : Lcg) (b : ℕ)
    → byte_next (at 0 0 c w) b ≡ byte_next
    (at (suc (gap_less w)) (size_of (pcg32 w).0) (change_of (pcg32 w).0) (pcg32 w).1) b
unfolding byte_next
next_drawn c w b = ap past_byte (ready_drawn c w)

gives_drawn : (c : ℕ) (w : Lcg) (b : ℕ)
    → byte_gives (at 0 0 c w) b ≡ byte_gives
    (at (suc (gap_less w)) (size_of (pcg32 w).0) (change_of (pcg32 w).0) (pcg32 w).1) b
unfolding byte_gives
gives_drawn c w b = ap (λ n. Some (bit_xor b (change_now n))) (ready_drawn c w)

-- ---- Changes at places.

skips : (b : Burst) (rest : List Burst) (q : ℕ) → (q < b.first) ⊎ (b.first + b.size ≤ q)
    → change_at (b ∷ rest) q ≡ change_at rest q
unfolding change_at
skips b rest q (inl early) = ap (λ t. cond (t && nat_lt q (b.first + b.size)) b.change (change_at rest q))
    (lt-leb b.first q early)
skips b rest q (inr late) =
    elim (cases_lt q b.first) [
      | inl early ↦ ap (λ t. cond (t && nat_lt q (b.first + b.size)) b.change (change_at rest q))
          (lt-leb b.first q early)
      | inr from ↦ ap₂ (λ (s t : Bool). cond (s && t) b.change (change_at rest q)) (le-leb b.first q from)
          (le-ltb q (b.first + b.size) late)
    ]

holds : (b : Burst) (rest : List Burst) (q : ℕ) → b.first ≤ q → q < b.first + b.size
    → change_at (b ∷ rest) q ≡ b.change
unfolding change_at
holds b rest q from to = ap₂ (λ (s t : Bool). cond (s && t) b.change (change_at rest q))
    (le-leb b.first q from) (lt-ltb q (b.first + b.size) to)

-- no burst begins within 192 places
bursts_later : (n e : ℕ) (w : Lcg) (q : ℕ) → q < e + 192 → change_at (bursts n e w) q ≡ 0
unfolding bursts change_at
bursts_later zero e w q lt = refl
bursts_later (suc n) e w q lt =
    let word = (pcg32 w).0 in
    let first = e + gap_of word in
    skips (record { first = first; size = size_of word; change = change_of word })
    (bursts n (first + size_of word) (pcg32 w).1) q (inl (omega arith))
    ∙ bursts_later n (first + size_of word) (pcg32 w).1 q (omega arith)

-- the bytes from place p on, with the changes of the bursts
unfoldable pub changed_from : List Burst → ℕ → List ℕ → List ℕ
changed_from those p [] = []
changed_from those p (x ∷ xs) = bit_xor x (change_at those p) ∷ changed_from those (p + 1) xs

changed_same : (those others : List Burst) (p : ℕ) (xs : List ℕ)
    → ((q : ℕ) → p ≤ q → change_at those q ≡ change_at others q)
    → changed_from those p xs ≡ changed_from others p xs
unfolding changed_from
changed_same those others p [] same = refl
changed_same those others p (x ∷ xs) same =
    ap₂ (λ c (l : List ℕ). bit_xor x c ∷ l) (same p (omega arith))
    (changed_same those others (p + 1) xs (λ q from. same q (omega arith)))

-- ---- The run of a needle.

-- the bursts of a needle at place p, of which n more follow after this one
abbrev pub bursts_at : ℕ → ℕ → ℕ → ℕ → ℕ → Lcg → List Burst
bursts_at p n g l c w = record { first = p + g; size = l; change = c } ∷ bursts n (p + g + l) w

abbrev pub run : Needle → List ℕ → List ℕ
run needle xs = run_gives byte_next byte_gives needle xs

before_burst : (x : ℕ) (xs : List ℕ) (p n g l c : ℕ) (w : Lcg)
    → run (at g l c w) xs ≡ changed_from (bursts_at (p + 1) n g l c w) (p + 1) xs
    → run (at (suc g) l c w) (x ∷ xs) ≡ changed_from (bursts_at p n (suc g) l c w) p (x ∷ xs)
unfolding changed_from
before_burst x xs p n g l c w rest =
    let e : p + 1 + g ≡ p + suc g = omega arith in
    let none : change_at (bursts_at p n (suc g) l c w) p ≡ 0 =
    skips (record { first = p + suc g; size = l; change = c }) (bursts n (p + suc g + l) w) p
    (inl (omega arith)) ∙ bursts_later n (p + suc g + l) w p (omega arith) in
    ap (λ o. give o (run (byte_next (at (suc g) l c w) x) xs)) (gives_before g l c w x)
    ∙ ap (λ h. bit_xor x 0 ∷ run h xs) (next_before g l c w x)
    ∙ ap₂ (λ m (ys : List ℕ). bit_xor x m ∷ ys) (sym none) (rest
    ∙ ap (λ f. changed_from (record { first = f; size = l; change = c } ∷ bursts n (f + l) w) (p + 1) xs) e)

first_burst : (n e f : ℕ) (w : Lcg) → e + gap_of (pcg32 w).0 ≡ f
    → bursts (suc n) e w ≡ record { first = f; size = size_of (pcg32 w).0; change = change_of (pcg32 w).0 }
    ∷ bursts n (f + size_of (pcg32 w).0) (pcg32 w).1
unfolding bursts
first_burst n e f w at =
    ap (λ (k : ℕ). record { first = k; size = size_of (pcg32 w).0; change = change_of (pcg32 w).0 } ∷ bursts n
    (k + size_of (pcg32 w).0) (pcg32 w).1) at

pub scratches : (xs : List ℕ) (p n g l c : ℕ) (w : Lcg) → length xs ≤ g + l + 192 * n
    → run (at g l c w) xs ≡ changed_from (bursts_at p n g l c w) p xs
unfolding changed_from
scratches [] p n g l c w room = refl
scratches (x ∷ xs) p n (suc g) l c w room =
    before_burst x xs p n g l c w (scratches xs (p + 1) n g l c w (omega arith))
scratches (x ∷ xs) p n zero (suc l) c w room =
    let e : p + 1 + 0 + l ≡ p + 0 + suc l = omega arith in
    let here : change_at (bursts_at p n 0 (suc l) c w) p ≡ c =
    holds (record { first = p + 0; size = suc l; change = c }) (bursts n (p + 0 + suc l) w) p (omega arith)
    (omega arith) in
    let others : (q : ℕ) → p + 1 ≤ q
    → change_at (bursts_at (p + 1) n 0 l c w) q ≡ change_at (bursts_at p n 0 (suc l) c w) q = λ q from.
    elim (cases_lt q (p + suc l)) [
      | inl within ↦
          holds (record { first = p + 1 + 0; size = l; change = c }) (bursts n (p + 1 + 0 + l) w) q
          (omega arith) (omega arith)
          ∙ sym (holds (record { first = p + 0; size = suc l; change = c }) (bursts n (p + 0 + suc l) w) q
          (omega arith) (omega arith))
      | inr after ↦
          skips (record { first = p + 1 + 0; size = l; change = c }) (bursts n (p + 1 + 0 + l) w) q
          (inr (omega arith))
          ∙ ap (λ f. change_at (bursts n f w) q) e
          ∙ sym (skips (record { first = p + 0; size = suc l; change = c }) (bursts n (p + 0 + suc l) w) q
          (inr (omega arith)))
    ] in
    ap (λ o. give o (run (byte_next (at 0 (suc l) c w) x) xs)) (gives_within l c w x)
    ∙ ap (λ h. bit_xor x c ∷ run h xs) (next_within l c w x)
    ∙ ap₂ (λ m (ys : List ℕ). bit_xor x m ∷ ys) (sym here) (scratches xs (p + 1) n 0 l c w (omega arith)
    ∙ changed_same _ _ (p + 1) xs others)
scratches (x ∷ xs) p zero zero zero c w room = absurd (omega arith)
scratches (x ∷ xs) p (suc n) zero zero c w room =
    let word = (pcg32 w).0 in
    let g = gap_less w in
    let l = size_of word in
    let d = change_of word in
    let w' = (pcg32 w).1 in
    let e : p + 0 + 0 + gap_of word ≡ p + suc g = omega arith in
    let same : bursts (suc n) (p + 0 + 0) w ≡ bursts_at p n (suc g) l d w' =
    first_burst n (p + 0 + 0) (p + suc g) w e in
    ap (λ o. give o (run (byte_next (at 0 0 c w) x) xs)) (gives_drawn c w x)
    ∙ ap (λ h. give (byte_gives (at (suc g) l d w') x) (run h xs)) (next_drawn c w x)
    ∙ before_burst x xs p n g l d w' (scratches xs (p + 1) n g l d w' (omega arith))
    ∙ changed_same (bursts_at p n (suc g) l d w') (bursts_at p (suc n) 0 0 c w) p (x ∷ xs)
    (λ q from. ap (λ those. change_at those q) (sym same)
    ∙ sym (skips (record { first = p + 0; size = 0; change = c }) (bursts (suc n) (p + 0 + 0) w) q
    (inr (omega arith))))

-- a needle before its first byte makes the bursts of its generator
pub scratches_all : (xs : List ℕ) (n : ℕ) (w : Lcg) → length xs ≤ 192 * n
    → run (at 0 0 0 w) xs ≡ changed_from (bursts n 0 w) 0 xs
scratches_all xs n w room =
    scratches xs 0 n 0 0 0 w (omega arith)
    ∙ changed_same (bursts_at 0 n 0 0 0 w) (bursts n 0 w) 0 xs
    (λ q from. skips (record { first = 0; size = 0; change = 0 }) (bursts n 0 w) q (inr (omega arith)))
