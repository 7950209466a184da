-- Runs of idle items: the state stays, and each item has the same output.
use Rattle.std.proofs.Common.{◌≡◌, ℕ, zero, suc, ◌+◌, ◌*◌, ◌≤◌, List, [], ◌∷◌, ◌++◌, length, take, drop, Some, refl, sym, ap, ◌∙◌, arith, ◌-◌, ◌/◌}
use Rattle.std.proofs.Math.Nat.{mul-suc, mul_comm, mul-le-mul_right, div-mul-le_self}
use Rattle.std.proofs.lemmas.List.{drop-drop, length-replicate, length-take-le, replicate-append-replicate, take-append-drop}
use Rattle.std.proofs.lemmas.Slice.{take-put_mid, drop-put_mid}
use borrow.Rule.Slice.PartMut.{put_mid}
use Rattle.std.specs.List.{concat}
use Rattle.std.specs.Prelude.{All, replicate}
use Rattle.std.specs.Simd.{first_chunks}
use Rattle.std.specs.declared.option.Option.{Option}
use Rattle.bit_lists.specs.Counting.{parts}
use Rattle.cdg_io.specs.Change.{from_to}
use Rattle.cdg_io.specs.Pump.{Works, units_of}
use Rattle.cdg_io.specs.Run.{give, run_state, run_gives}
use Rattle.cdg_io.proofs.Frames.{machine_of, moving}
use Rattle.cdg_io.proofs.Units.{units_of-append}

first_of : {X : Type 0} (P : X → Type 0) (x : X) (xs : List X) → All P (x ∷ xs) → P x
first_of P x xs all = all 0 x (omega arith)

others_of : {X : Type 0} (P : X → Type 0) (x : X) (xs : List X) → All P (x ∷ xs) → All P xs
others_of P x xs all = λ k d below. all (suc k) d (omega (arith, below))

state_stays : {S I : Type 0} (next : S → I → S) (s : S) (xs : List I) → All (λ x. next s x ≡ s) xs
    → run_state next s xs ≡ s
state_stays next s [] stays = refl
state_stays next s (x ∷ xs) stays =
    ap (λ t. run_state next t xs) (first_of (λ y. next s y ≡ s) x xs stays)
    ∙ state_stays next s xs (others_of (λ y. next s y ≡ s) x xs stays)

gives_same : {S I O : Type 0} (next : S → I → S) (gives : S → I → Option O) (s : S) (idle : Option O) (o : O)
    (xs : List I) → idle ≡ Some o → All (λ x. next s x ≡ s) xs → All (λ x. gives s x ≡ idle) xs
    → run_gives next gives s xs ≡ replicate (length xs) o
gives_same next gives s idle o [] is stays gave = refl
gives_same next gives s idle o (x ∷ xs) is stays gave =
    ap (λ given. give given (run_gives next gives (next s x) xs))
    (first_of (λ y. gives s y ≡ idle) x xs gave ∙ is)
    ∙ ap (λ t. o ∷ run_gives next gives t xs) (first_of (λ y. next s y ≡ s) x xs stays)
    ∙ ap (λ rest. o ∷ rest) (gives_same next gives s idle o xs is
    (others_of (λ y. next s y ≡ s) x xs stays) (others_of (λ y. gives s y ≡ idle) x xs gave))

zeros_joined : (size n : ℕ) → concat (replicate n (replicate size 0)) ≡ replicate (size * n) 0
zeros_joined size zero = let none : 0 ≡ size * 0 = omega arith in ap (λ (k : ℕ). replicate k 0) none
zeros_joined size (suc n) =
    let more : size + size * n ≡ size * suc n = omega (arith, mul-suc size n) in
    ap (λ rest. replicate size 0 ++ rest) (zeros_joined size n)
    ∙ replicate-append-replicate size (size * n) 0
    ∙ ap (λ (k : ℕ). replicate k 0) more

chunks_are_parts : {X : Type 0} (size n : ℕ) (xs : List X) → first_chunks size n xs ≡ parts n size xs
chunks_are_parts size zero xs = refl
chunks_are_parts size (suc n) xs = ap (λ rest. take size xs ∷ rest) (chunks_are_parts size n (drop size xs))

length-parts : {X : Type 0} (size n : ℕ) (xs : List X) → length (parts n size xs) ≡ n
length-parts size zero xs = refl
length-parts size (suc n) xs = ap suc (length-parts size n (drop size xs))

take-parts : {X : Type 0} (size m n : ℕ) (xs : List X) → m ≤ n → take m (parts n size xs) ≡ parts m size xs
take-parts size zero n xs few = refl
take-parts size (suc m) zero xs few = absurd (omega (arith, few))
take-parts size (suc m) (suc n) xs few =
    ap (λ rest. take size xs ∷ rest) (take-parts size m n (drop size xs) (omega (arith, few)))

-- the first chunks of a list are its first units
pub first_units : (size m n all : ℕ) (xs : List ℕ) (chunks : List (List ℕ))
    → chunks ≡ first_chunks size all xs
    → m ≤ n → n ≤ all → take m (take n chunks) ≡ units_of size m xs
first_units size m n all xs chunks are few within =
    ap (λ l. take m (take n l)) (are ∙ chunks_are_parts size all xs)
    ∙ ap (take m) (take-parts size n all xs within)
    ∙ take-parts size m n xs few

-- Idle units were passed over, and zeros, their output, were written.
pub run_passes : {S : Type 0} (next : S → List ℕ → S) (gives : S → List ℕ → Option (List ℕ)) (s : S)
    (idle : Option (List ℕ)) (row row' old new : List ℕ) (units : List (List ℕ))
    (size count zeros start end : ℕ) → idle ≡ Some (replicate zeros 0) → size * count ≤ length row
    → row' ≡ drop (size * count) row → units ≡ units_of size count row
    → All (λ unit. next s unit ≡ s) units → All (λ unit. gives s unit ≡ idle) units
    → take end new ≡ take start old ++ replicate (zeros * count) 0
    → Works size (machine_of next gives) (moving (from_to (Some row) (Some row')) (from_to s s)
    (from_to (Some (take start old)) (Some (take end new)))) count (take (size * count) row)
run_passes next gives s idle row row' old new units size count zeros start end is fits left are stays gave
    put =
    let taken = take (size * count) row in
    let same : units ≡ units_of size count taken =
    are
    ∙ ap (units_of size count) (sym (take-append-drop (size * count) row))
    ∙ units_of-append size count taken (drop (size * count) row)
    (omega (arith, length-take-le (size * count) row fits)) in
    let counted : length units ≡ count = ap length are ∙ length-parts size count row in
    let given : concat (run_gives next gives s units) ≡ replicate (zeros * count) 0 =
    ap concat (gives_same next gives s idle (replicate zeros 0) units is stays gave
    ∙ ap (λ n. replicate n (replicate zeros 0)) counted)
    ∙ zeros_joined zeros count in
    record {
      taken_from = sym (take-append-drop (size * count) row) ∙ ap (λ rest. taken ++ rest) (sym left);
      units = length-take-le (size * count) row fits ∙ mul_comm size count;
      state = sym (state_stays next s units stays) ∙ ap (run_state next s) same;
      put =
          put
          ∙ ap (λ l. take start old ++ l) (sym given ∙ ap (λ us. concat (run_gives next gives s us)) same);
    }

-- whole units that fit
pub units_fit : (size n : ℕ) (row : List ℕ) → n ≤ length row / size → size * n ≤ length row
units_fit size n row few =
    omega (arith, mul_comm size n, mul-le-mul_right size few, div-mul-le_self (length row) size)

-- A part of a buffer became zeros: they are behind the bytes before it, and the bytes behind it are unchanged.
pub zeros_behind : (buffer ys : List ℕ) (start m size : ℕ) → start ≤ length buffer → ys ≡ replicate m 0
    → length ys ≡ size
    → take (start + size) (put_mid start (start + size - start) buffer ys)
    ≡ take start buffer ++ replicate size 0
zeros_behind buffer ys start m size within are long =
    let count : m ≡ size = omega (arith, ap length are, length-replicate {A = ℕ} m 0, long) in
    take-put_mid start (start + size - start) buffer ys (start + size) (omega (arith, long)) within
    ∙ ap (λ l. take start buffer ++ l) (are ∙ ap (λ (k : ℕ). replicate k 0) count)

pub rest_kept : (buffer ys : List ℕ) (start size : ℕ) → start ≤ length buffer → length ys ≡ size
    → drop (start + size) (put_mid start (start + size - start) buffer ys) ≡ drop (start + size) buffer
rest_kept buffer ys start size within long =
    drop-put_mid start (start + size - start) buffer ys (start + size) (omega arith) within
    (omega (arith, long))

-- lists that agree from one place agree from each later place
pub same_behind : (xs ys : List ℕ) (m n : ℕ) → m ≤ n → drop m xs ≡ drop m ys → drop n xs ≡ drop n ys
same_behind xs ys m n later same =
    let split : n ≡ m + (n - m) = omega (arith, later) in
    ap (λ k. drop k xs) split
    ∙ sym (drop-drop (n - m) m xs)
    ∙ ap (drop (n - m)) same
    ∙ drop-drop (n - m) m ys
    ∙ ap (λ k. drop k ys) (sym split)
