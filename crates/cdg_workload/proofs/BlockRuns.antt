-- The run of the stage over the blocks of a stream.
use Rattle.std.proofs.Common.{◌≡◌, ℕ, zero, suc, ◌+◌, ◌-◌, ◌*◌, ◌/◌, ◌%◌, ◌^◌, ◌<◌, ◌≤◌, ◌==◌, cond, Bool, true, false, List, [], ◌∷◌, ◌++◌, length, get_or, set, take, drop, map, bit_xor, Some, Result, Ok, Err, refl, sym, ap, ap₂, ◌∙◌, subst, length-drop, drop-drop, drop-set-lt, append_assoc, lit<, arith}
use Rattle.std.proofs.Math.Seq.{take-nil, drop-nil, take-add, take-append-add, drop-append-add, take-append_seam, drop-append_seam}
use Rattle.std.proofs.lemmas.Bool.{ne_eqb}
use Rattle.std.proofs.lemmas.List.{append-nil, get_or-drop, map-append, take_more, take_more_set, length-take, take-append-drop, take-map, take-take}
use Rattle.std.proofs.lemmas.Nat.{xor_block}
use Rattle.std.specs.Int.Bits.{xor_zero_r}
use Rattle.std.specs.List.{concat, enumerate_from, AllByRecursion}
use Rattle.rand_pcg.specs.Lcg.{Lcg}
use Rattle.rand_pcg.specs.Pcg.{pcg32}
use Rattle.cdg_io.specs.Change.{Moved}
use Rattle.cdg_io.specs.Pump.{Pumps, given, units_of}
use Rattle.cdg_io.specs.Run.{give, run_state, run_gives}
use Rattle.cdg_io.specs.Streams.{Streams}
use Rattle.cdg_io.specs.declared.pumping.Pumped.{Pumped}
use Rattle.cdg_io.specs.declared.pumping.PumpStop.{PumpStop}
use Rattle.cdg_io.proofs.Frames.{machine_of}
use Rattle.cdg_io.proofs.Runs.{run_state-append, run_gives-append}
use Rattle.cdg_io.proofs.Streaming.{IsWhole, bytes_of, streams_done, streams_stop}
use Rattle.cdg_workload.specs.Generator.{generator}
use Rattle.cdg_workload.specs.Scratches.{Burst, bursts, change_at, scratched_byte, scratched, scratching, IsScratched, gap_of, size_of, change_of}
use Rattle.cdg_workload.specs.Steps.{ready, change_now, past_byte, byte_next, byte_gives, block_next, block_gives, fresh_scratches}
use Rattle.cdg_workload.specs.declared.needle.Needle.{Needle}
use Rattle.cdg_workload.specs.declared.scratching.Scratches.{Scratches}
use Rattle.cdg_workload.proofs.Needles.{at, ready_again, ready_some, run, changed_from, scratches_all, next_before, gives_before, next_within, gives_within}

-- ---- One block, byte by byte.

abbrev pub state : Needle → List ℕ → Needle
state needle xs = run_state byte_next needle xs

-- ---- All blocks.

abbrev pub stage : ℕ → Needle → Scratches
stage l needle = record { lead_in = l; needle = needle }

abbrev texts : Scratches → List (List ℕ) → List (List ℕ)
texts s blocks = run_gives block_next block_gives s blocks

program_blocks : (h : Needle) (blocks : List (List ℕ))
    → concat (texts (stage 0 h) blocks) ≡ run h (concat blocks)
unfolding block_next block_gives
program_blocks h [] = refl
program_blocks h (b ∷ bs) = ap (λ l. run h b ++ l) (program_blocks (state h b) bs)
    ∙ sym (run_gives-append byte_next byte_gives h b (concat bs))

lead_in_block : (l : ℕ) (h : Needle) (b : List ℕ) (bs : List (List ℕ))
    → texts (stage (suc l) h) (b ∷ bs) ≡ b ∷ texts (stage l h) bs
unfolding block_next block_gives
lead_in_block l h b bs =
    let more : (suc l == 0) ≡ false = ne_eqb (suc l) 0 (λ e. omega arith) in
    let less : suc l - 1 ≡ l = omega arith in
    ap₂ (λ (t u : Bool). give (cond t (Some (run h b)) (Some b))
    (texts (cond u (stage (suc l) (state h b)) (stage (suc l - 1) h)) bs)) more more
    ∙ ap (λ n. b ∷ texts (stage n h) bs) less

pub stream_blocks : (l k : ℕ) (h : Needle) (blocks : List (List ℕ)) → k ≡ 96 * l
    → AllByRecursion (λ (b : List ℕ). length b ≡ 96) blocks
    → concat (texts (stage l h) blocks) ≡ take k (concat blocks) ++ run h (drop k (concat blocks))
stream_blocks zero k h blocks at all =
    let none : 0 ≡ k = omega arith in
    program_blocks h blocks ∙ ap (λ n. take n (concat blocks) ++ run h (drop n (concat blocks))) none
stream_blocks (suc l) k h [] at all = sym (ap₂ (λ (a b : List ℕ). a ++ run h b) (take-nil k) (drop-nil k))
stream_blocks (suc l) k h (b ∷ bs) at all =
    let size : length b + 96 * l ≡ k = omega (arith, all.0) in
    ap concat (lead_in_block l h b bs)
    ∙ ap (λ t. b ++ t) (stream_blocks l (96 * l) h bs refl all.1)
    ∙ sym (append_assoc b (take (96 * l) (concat bs)) (run h (drop (96 * l) (concat bs))))
    ∙ ap₂ (λ (a c : List ℕ). a ++ run h c) (sym (take-append-add b (concat bs) (96 * l)))
    (sym (drop-append-add b (concat bs) (96 * l)))
    ∙ ap (λ n. take n (b ++ concat bs) ++ run h (drop n (b ++ concat bs))) size

program_state : (h : Needle) (blocks : List (List ℕ))
    → run_state block_next (stage 0 h) blocks ≡ stage 0 (state h (concat blocks))
unfolding block_next
program_state h [] = refl
program_state h (b ∷ bs) = program_state (state h b) bs
    ∙ ap (stage 0) (sym (run_state-append byte_next h b (concat bs)))

lead_in_next : (l : ℕ) (h : Needle) (b : List ℕ) → block_next (stage (suc l) h) b ≡ stage l h
unfolding block_next
lead_in_next l h b =
    let more : (suc l == 0) ≡ false = ne_eqb (suc l) 0 (λ e. omega arith) in
    let less : suc l - 1 ≡ l = omega arith in
    ap (λ (t : Bool). cond t (stage (suc l) (state h b)) (stage (suc l - 1) h)) more
    ∙ ap (λ n. stage n h) less

-- the stage after some blocks: the rest of the lead-in, and the needle after each byte behind it
pub stream_state : (l k : ℕ) (h : Needle) (blocks : List (List ℕ)) → k ≡ 96 * l
    → AllByRecursion (λ (b : List ℕ). length b ≡ 96) blocks
    → run_state block_next (stage l h) blocks
    ≡ stage (l - length blocks) (state h (drop k (concat blocks)))
stream_state zero k h blocks at all =
    let none : 0 ≡ k = omega arith in
    let less : 0 ≡ 0 - length blocks = omega arith in
    program_state h blocks ∙ ap₂ (λ n m. stage n (state h (drop m (concat blocks)))) less none
stream_state (suc l) k h [] at all =
    let less : suc l ≡ suc l - 0 = omega arith in
    ap₂ (λ n (rest : List ℕ). stage n (state h rest)) less (sym (drop-nil k))
stream_state (suc l) k h (b ∷ bs) at all =
    let size : length b + 96 * l ≡ k = omega (arith, all.0) in
    let less : l - length bs ≡ suc l - length (b ∷ bs) = omega arith in
    ap (λ s. run_state block_next s bs) (lead_in_next l h b)
    ∙ stream_state l (96 * l) h bs refl all.1
    ∙ ap₂ (λ n (rest : List ℕ). stage n (state h rest)) less (sym (drop-append-add b (concat bs) (96 * l))
    ∙ ap (λ n. drop n (b ++ concat bs)) size)

pub units_joined : (n k : ℕ) (bytes : List ℕ) → k ≡ n * 96 → concat (units_of 96 n bytes) ≡ take k bytes
units_joined zero k bytes at = let none : 0 ≡ k = omega arith in ap (λ m. take m bytes) none
units_joined (suc n) k bytes at =
    let more : 96 + n * 96 ≡ k = omega arith in
    ap (λ t. take 96 bytes ++ t) (units_joined n (n * 96) (drop 96 bytes) refl)
    ∙ sym (take-add 96 (n * 96) bytes) ∙ ap (λ m. take m bytes) more

pub units_sized : (n : ℕ) (bytes : List ℕ) → n * 96 ≤ length bytes
    → AllByRecursion (λ (b : List ℕ). length b ≡ 96) (units_of 96 n bytes)
units_sized zero bytes fits = tt
units_sized (suc n) bytes fits = (
  length-take 96 bytes
      ∙ omega arith,
  units_sized n (drop 96 bytes) (omega (arith, length-drop 96 bytes)),
)

pub units_counted : (n : ℕ) (bytes : List ℕ) → length (units_of 96 n bytes) ≡ n
units_counted zero bytes = refl
units_counted (suc n) bytes = ap suc (units_counted n (drop 96 bytes))

-- ---- Changes keep the P and Q bits.

one_of : (t : Bool) (a b : ℕ) → a < 64 → b < 64 → cond t a b < 64
one_of true a b a_lt b_lt = a_lt
one_of false a b a_lt b_lt = b_lt

pub change_at-lt : (n e : ℕ) (w : Lcg) (q : ℕ) → change_at (bursts n e w) q < 64
unfolding bursts change_at
change_at-lt zero e w q = lit< tt
change_at-lt (suc n) e w q =
    let word = (pcg32 w).0 in
    let first = e + gap_of word in
    let rest : change_at (bursts n (first + size_of word) (pcg32 w).1) q < 64 =
    change_at-lt n (first + size_of word) (pcg32 w).1 q in
    one_of _ (change_of word) _ (omega arith) rest

-- one byte
changed_byte : (x c : ℕ) → c < 64 → bit_xor x c ≡ 64 * (x / 64) + bit_xor (x % 64) c
changed_byte x c lt =
    let low : x % 64 < 64 = omega arith in
    let split : x ≡ x / 64 * 2 ^ 6 + x % 64 = omega arith in
    let none : c ≡ 0 * 2 ^ 6 + c = omega arith in
    let turned : x / 64 * 2 ^ 6 + bit_xor (x % 64) c ≡ 64 * (x / 64) + bit_xor (x % 64) c = omega arith in
    ap₂ bit_xor split none ∙ xor_block 6 (x / 64) 0 (x % 64) c low lt
    ∙ ap (λ h. h * 2 ^ 6 + bit_xor (x % 64) c) (xor_zero_r (x / 64)) ∙ turned

pub changed_is : (those : List Burst) (p : ℕ) (xs : List ℕ) → ((q : ℕ) → change_at those q < 64)
    → changed_from those p xs ≡ map (scratched_byte those) (enumerate_from p xs)
unfolding changed_from
changed_is those p [] lt = refl
changed_is those p (x ∷ xs) lt =
    ap₂ (λ (a : ℕ) (l : List ℕ). a ∷ l) (changed_byte x (change_at those p) (lt p))
    (changed_is those (p + 1) xs lt)

-- ---- The text.

pub blocks_text : (lead_in seed n : ℕ) (bytes : List ℕ) → n * 96 ≤ length bytes
    → given 96 (machine_of block_next block_gives) (fresh_scratches lead_in seed) bytes n
    ≡ scratched lead_in seed (take (n * 96) bytes)
unfolding scratched
blocks_text lead_in seed n bytes fits =
    let all : List ℕ = take (n * 96) bytes in
    let program : List ℕ = drop (96 * lead_in) all in
    let w = generator seed in
    let count : ℕ = length program / 192 + 1 in
    stream_blocks lead_in (96 * lead_in) (at 0 0 0 w) (units_of 96 n bytes) refl (units_sized n bytes fits)
    ∙ ap (λ (l : List ℕ). take (96 * lead_in) l ++ run (at 0 0 0 w) (drop (96 * lead_in) l))
    (units_joined n (n * 96) bytes refl)
    ∙ ap (λ l. take (96 * lead_in) all ++ l)
    (scratches_all program count w (omega arith)
    ∙ changed_is (bursts count 0 w) 0 program (change_at-lt count 0 w))

text_of : (lead_in seed n : ℕ) (bytes : List ℕ) → IsWhole 96 n bytes
    → IsScratched lead_in seed bytes (record { units = n })
    (given 96 (machine_of block_next block_gives) (fresh_scratches lead_in seed) bytes n)
text_of lead_in seed n bytes whole =
    let count : n ≡ length bytes / 96 = omega (arith, whole.fits, whole.rest) in
    record {
      blocks = count;
      text_is = blocks_text lead_in seed n bytes whole.fits
          ∙ ap (λ k. scratched lead_in seed (take (k * 96) bytes)) count;
    }

text_from : (lead_in seed : ℕ) (s : Scratches) (n : ℕ) (bytes : List ℕ) → s ≡ fresh_scratches lead_in seed
    → IsWhole 96 n bytes
    → IsScratched lead_in seed bytes (record { units = n })
    (given 96 (machine_of block_next block_gives) s bytes n)
text_from lead_in seed s n bytes begins whole =
    subst (λ (t : Scratches). IsScratched lead_in seed bytes (record { units = n })
    (given 96 (machine_of block_next block_gives) t bytes n)) (sym begins)
    (text_of lead_in seed n bytes whole)

streams_from : (lead_in seed : ℕ) (moved : Moved Scratches) (result : Result Pumped PumpStop) (taken : List ℕ)
    → moved.state.before ≡ fresh_scratches lead_in seed
    → Pumps (scratching lead_in seed).cut (machine_of block_next block_gives) moved result taken
    → Streams (scratching lead_in seed) (bytes_of moved) result taken
streams_from lead_in seed moved (Ok pumped) taken begins pumps =
    streams_done (scratching lead_in seed) (machine_of block_next block_gives) moved taken pumped pumped
    (lit< tt)
    (λ bytes n few whole.
    (record { units = n }, text_from lead_in seed moved.state.before n bytes begins whole)) pumps
    (λ whole. text_from lead_in seed moved.state.before pumped.units taken begins whole)
streams_from lead_in seed moved (Err stop) taken begins pumps =
    streams_stop (scratching lead_in seed) (machine_of block_next block_gives) moved taken stop stop (lit< tt)
    (record { fault_kept = λ e. e; fault_only = λ e. e; torn_only = λ unit e. e })
    (λ bytes n few whole.
    (record { units = n }, text_from lead_in seed moved.state.before n bytes begins whole)) pumps

-- a pump of the stage does what the clauses of the call say
pub streams : (lead_in seed : ℕ) (moved : Moved Scratches) (result : Result Pumped PumpStop) (taken : List ℕ)
    → moved.state.before ≡ fresh_scratches lead_in seed
    → Pumps (scratching lead_in seed).cut (machine_of block_next block_gives) moved result taken
    → Streams (scratching lead_in seed) (bytes_of moved) result taken
streams lead_in seed moved result taken begins pumps =
    streams_from lead_in seed moved result taken begins pumps

-- ---- Runs of unchanged symbols.

pass_run : (ys : List ℕ) (g l c : ℕ) (w : Lcg) → length ys ≤ g
    → (at (g - length ys) l c w ≡ state (at g l c w) ys) × (ys ≡ run (at g l c w) ys)
pass_run [] g l c w fits = let none : g - 0 ≡ g = omega arith in (ap (λ n. at n l c w) none, refl)
pass_run (y ∷ ys) zero l c w fits = absurd (omega arith)
pass_run (y ∷ ys) (suc g) l c w fits =
    let (after, given) = pass_run ys g l c w (omega arith) in
    let less : suc g - length (y ∷ ys) ≡ g - length ys = omega arith in (
      ap (λ n. at n l c w) less ∙ after ∙ ap (λ u. state u ys) (sym (next_before g l c w y)),
      ap₂ (λ m (zs : List ℕ). m ∷ zs) (sym (xor_zero_r y)) given
          ∙ ap (λ h. bit_xor y 0 ∷ run h ys) (sym (next_before g l c w y))
          ∙ ap (λ o. give o (run (byte_next (at (suc g) l c w) y) ys)) (sym (gives_before g l c w y)),
    )

-- a block before the next burst is unchanged
pub skipped : (s t : Needle) (block : List ℕ) → length block ≡ 96 → 96 ≤ s.gap
    → t ≡ record s { gap = s.gap - 96 } → (t ≡ state s block) × (block ≡ run s block)
skipped s t block size before is =
    let (after, given) = pass_run block s.gap s.left s.change s.words (omega (arith, size, before)) in
    (is ∙ ap (λ n. at (s.gap - n) s.left s.change s.words) (sym size) ∙ after, given)

-- and so is the output of the stage for it
pub block_skipped : (s : Scratches) (t : Needle) (block : List ℕ) → s.lead_in ≡ 0 → length block ≡ 96
    → 96 ≤ s.needle.gap → t ≡ record s.needle { gap = s.needle.gap - 96 }
    → (stage s.lead_in t ≡ block_next s block) × (Some block ≡ block_gives s block)
unfolding block_next block_gives
block_skipped s t block none size before is =
    let (after, given) = skipped s.needle t block size before is in
    let program : (s.lead_in == 0) ≡ true = ap (λ n. n == 0) none in (
      ap (stage s.lead_in) after
          ∙ sym (ap (λ u. cond u (stage s.lead_in (state s.needle block)) (stage (s.lead_in - 1) s.needle))
          program),
      ap (λ (l : List ℕ). Some l) given
          ∙ sym (ap (λ u. cond u (Some (run s.needle block)) (Some block)) program),
    )

-- ---- Runs of symbols that a burst changes.

-- sixteen symbols are changed, and those that must not change are restored
pub combined_few : (old mid kept : List ℕ) (from to n c : ℕ) → length mid ≡ length old → n ≡ 16
    → from ≤ to → to ≤ from + 16 → to + 16 ≤ length old
    → take (from + 16) mid ≡ take from old
    ++ map (λ byte. bit_xor byte c) (take (from + 16 - from) (drop from old))
    → drop (from + 16) mid ≡ drop (from + 16) old
    → kept ≡ take 16 (drop to old)
    → (take to (take to mid ++ (kept ++ drop n (drop to mid)))
    ≡ take from old ++ map (λ byte. bit_xor byte c) (take (to - from) (drop from old)))
    × (drop to (take to mid ++ (kept ++ drop n (drop to mid))) ≡ drop to old)
combined_few old mid kept from to n c size sixteen order few within changed rest kept_is =
    let f : ℕ → ℕ = λ byte. bit_xor byte c in
    let front : List ℕ = take from old in
    let m : ℕ = to - from in
    let struck : List ℕ = map f (take (from + 16 - from) (drop from old)) in
    let count : length (take to mid) ≡ to = length-take to mid ∙ omega (arith, size, within) in
    let place : to ≡ length front + m = omega (arith, length-take from old, order, within) in
    let shorter : take m (take (from + 16 - from) (drop from old)) ≡ take m (drop from old) =
    take-take m (from + 16 - from) (drop from old) (omega (arith, few, order)) in
    let before : take to mid ≡ front ++ map f (take m (drop from old)) =
    sym (take-take to (from + 16) mid few) ∙ ap (take to) changed
    ∙ ap (λ k. take k (front ++ struck)) place ∙ take-append-add front struck m
    ∙ ap (λ (l : List ℕ). front ++ l) (take-map f m (take (from + 16 - from) (drop from old))
    ∙ ap (map f) shorter) in
    let step : to + 16 ≡ from + 16 + m = omega (arith, order) in
    let behind : drop n (drop to mid) ≡ drop 16 (drop to old) =
    ap (λ k. drop k (drop to mid)) sixteen ∙ drop-drop 16 to mid ∙ ap (λ k. drop k mid) step
    ∙ sym (drop-drop m (from + 16) mid) ∙ ap (drop m) rest
    ∙ drop-drop m (from + 16) old ∙ ap (λ k. drop k old) (sym step) ∙ sym (drop-drop 16 to old) in
    let after : List ℕ = kept ++ drop n (drop to mid) in (
      ap (λ k. take k (take to mid ++ after)) (sym count)
          ∙ take-append_seam (take to mid) after ∙ before,
      ap (λ k. drop k (take to mid ++ after)) (sym count)
          ∙ drop-append_seam (take to mid) after
          ∙ ap₂ (λ (l r : List ℕ). l ++ r) kept_is behind ∙ take-append-drop 16 (drop to old),
    )

-- lists that agree from a place have the same byte there
first_same : (i : ℕ) (now old : List ℕ) → drop i now ≡ drop i old → get_or now i 0 ≡ get_or old i 0
first_same i now old rest =
    let place : i ≡ i + 0 = omega arith in
    ap (λ k. get_or now k 0) place ∙ sym (get_or-drop i now 0 0) ∙ ap (λ (l : List ℕ). get_or l 0 0) rest
    ∙ get_or-drop i old 0 0 ∙ ap (λ k. get_or old k 0) (sym place)

-- no symbol has been changed
pub combined_none : (old : List ℕ) (from n c : ℕ) → n ≡ 0
    → take from old ≡ take from old ++ map (λ byte. bit_xor byte c) (take n (drop from old))
combined_none old from n c none =
    sym (ap (λ k. take from old ++ map (λ byte. bit_xor byte c) (take k (drop from old))) none
    ∙ append-nil (take from old))

-- one more symbol is changed
pub combined_more : (old now : List ℕ) (from i c : ℕ) → length now ≡ length old → from ≤ i → i < length old
    → take i now ≡ take from old ++ map (λ byte. bit_xor byte c) (take (i - from) (drop from old))
    → drop i now ≡ drop i old
    → (take (i + 1) (set now i (bit_xor (get_or now i 0) c)) ≡ take from old ++ map (λ byte. bit_xor byte c)
    (take (i + 1 - from) (drop from old)))
    × (drop (i + 1) (set now i (bit_xor (get_or now i 0) c)) ≡ drop (i + 1) old)
combined_more old now from i c size begun lt changed rest =
    let f : ℕ → ℕ = λ byte. bit_xor byte c in
    let x = get_or now i 0 in
    let ys : List ℕ = drop from old in
    let n : ℕ = i - from in
    let place : i ≡ from + n = omega (arith, begun) in
    let same : x ≡ get_or ys n 0 = first_same i now old rest ∙ ap (λ k. get_or old k 0) place
    ∙ sym (get_or-drop from old n 0) in
    let more : take (n + 1) ys ≡ take n ys ++ get_or ys n 0 ∷ [] =
    take_more ys n 0 (omega (arith, length-drop from old, place, lt)) in
    let count : n + 1 ≡ i + 1 - from = omega (arith, begun) in (
      take_more_set now i (f x) (omega (arith, size, lt)) ∙ ap (λ (l : List ℕ). l ++ f x ∷ []) changed
          ∙ append_assoc (take from old) (map f (take n ys)) (f x ∷ [])
          ∙ ap (λ (l : List ℕ). take from old ++ l)
          (ap (λ y. map f (take n ys) ++ f y ∷ []) same ∙ sym (map-append f (take n ys) (get_or ys n 0 ∷ []))
          ∙ ap (map f) (sym more) ∙ ap (λ k. map f (take k ys)) count),
      drop-set-lt (i + 1) now i (f x) (omega arith) ∙ sym (drop-drop 1 i now) ∙ ap (drop 1) rest
          ∙ drop-drop 1 i old,
    )

within_run : (ys : List ℕ) (l c : ℕ) (w : Lcg) → length ys ≤ l
    → (at 0 (l - length ys) c w ≡ state (at 0 l c w) ys)
    × (map (λ byte. bit_xor byte c) ys ≡ run (at 0 l c w) ys)
within_run [] l c w fits = let none : l - 0 ≡ l = omega arith in (ap (λ n. at 0 n c w) none, refl)
within_run (y ∷ ys) zero c w fits = absurd (omega arith)
within_run (y ∷ ys) (suc l) c w fits =
    let (after, given) = within_run ys l c w (omega arith) in
    let less : suc l - length (y ∷ ys) ≡ l - length ys = omega arith in (
      ap (λ n. at 0 n c w) less ∙ after ∙ ap (λ u. state u ys) (sym (next_within l c w y)),
      ap (λ (zs : List ℕ). bit_xor y c ∷ zs) given
          ∙ ap (λ h. bit_xor y c ∷ run h ys) (sym (next_within l c w y))
          ∙ ap (λ o. give o (run (byte_next (at 0 (suc l) c w) y) ys)) (sym (gives_within l c w y)),
    )

struck_run : (ys : List ℕ) (g l c : ℕ) (w : Lcg) → length ys ≤ l → (0 < length ys → g ≡ 0)
    → (at g (l - length ys) c w ≡ state (at g l c w) ys)
    × (map (λ byte. bit_xor byte c) ys ≡ run (at g l c w) ys)
struck_run [] g l c w fits begun = let none : l - 0 ≡ l = omega arith in (ap (λ n. at g n c w) none, refl)
struck_run (y ∷ ys) zero l c w fits begun = within_run (y ∷ ys) l c w fits
struck_run (y ∷ ys) (suc g) l c w fits begun = absurd (omega (arith, begun (omega arith)))

-- a needle that is ready for the next symbol continues as before
ready_run : (t : Needle) (ys : List ℕ) → 0 < length ys
    → (state (ready t) ys ≡ state t ys) × (run (ready t) ys ≡ run t ys)
unfolding byte_next byte_gives
ready_run t [] some = absurd (omega (arith, some))
ready_run t (y ∷ ys) some =
    let same : ready (ready t) ≡ ready t = ready_again t.gap t.left t.change t.words in (
      ap (λ n. state (past_byte n) ys) same,
      ap (λ n. give (Some (bit_xor y (change_now n))) (run (past_byte n) ys)) same,
    )

-- m symbols before a burst and n symbols in it, from a needle that is ready
burst_run : (r t u : Needle) (ys zs : List ℕ) → length ys ≤ r.gap → t ≡ record r { gap = r.gap - length ys }
    → length zs ≤ t.left → (0 < length zs → t.gap ≡ 0) → u ≡ record t { left = t.left - length zs }
    → (u ≡ state r (ys ++ zs)) × (ys ++ map (λ byte. bit_xor byte u.change) zs ≡ run r (ys ++ zs))
burst_run r t u ys zs before passed few begun struck =
    let (after, given) = pass_run ys r.gap r.left r.change r.words before in
    let (after', given') = struck_run zs t.gap t.left t.change t.words few begun in
    let now : t ≡ state r ys = passed ∙ after in
    let change : u.change ≡ t.change = ap (λ (n : Needle). n.change) struck in (
      struck ∙ after' ∙ ap (λ n. state n zs) now ∙ sym (run_state-append byte_next r ys zs),
      ap (λ c. ys ++ map (λ byte. bit_xor byte c) zs) change
          ∙ ap₂ (λ (l k : List ℕ). l ++ k) given (given' ∙ ap (λ n. run n zs) now)
          ∙ sym (run_gives-append byte_next byte_gives r ys zs),
    )

-- m symbols before a burst and n symbols in it, from a place
pub burst_at : (r t u : Needle) (old new : List ℕ) (i m n : ℕ) → i + m + n ≤ length old
    → m ≤ r.gap → t ≡ record r { gap = r.gap - m }
    → n ≤ t.left → (0 < n → t.gap ≡ 0) → u ≡ record t { left = t.left - n }
    → take (i + m + n) new
    ≡ take (i + m) old ++ map (λ byte. bit_xor byte u.change) (take (i + m + n - (i + m)) (drop (i + m) old))
    → (u ≡ state r (take (i + m + n - i) (drop i old)))
    × (take (i + m + n) new ≡ take i old ++ run r (take (i + m + n - i) (drop i old)))
burst_at r t u old new i m n fits before passed few begun struck changed =
    let f : ℕ → ℕ = λ byte. bit_xor byte u.change in
    let ys : List ℕ = take m (drop i old) in
    let zs : List ℕ = take n (drop (i + m) old) in
    let size : m ≡ length ys = sym (length-take m (drop i old) ∙ omega (arith, length-drop i old, fits)) in
    let size' : n ≡ length zs =
    sym (length-take n (drop (i + m) old) ∙ omega (arith, length-drop (i + m) old, fits)) in
    let (after, given) = burst_run r t u ys zs (omega (arith, size, before))
    (passed ∙ ap (λ k. at (r.gap - k) r.left r.change r.words) size)
    (omega (arith, size', few)) (λ more. begun (omega (arith, size', more)))
    (struck ∙ ap (λ k. at t.gap (t.left - k) t.change t.words) size') in
    let part : take (i + m + n - i) (drop i old) ≡ ys ++ zs =
    ap (λ k. take k (drop i old)) (omega arith) ∙ take-add m n (drop i old)
    ∙ ap (λ l. ys ++ take n l) (drop-drop m i old) in
    let count : i + m + n - (i + m) ≡ n = omega arith in (
      after ∙ ap (state r) (sym part),
      changed ∙ ap₂ (λ l k. l ++ map f (take k (drop (i + m) old))) (take-add i m old) count
          ∙ append_assoc (take i old) ys (map f zs)
          ∙ ap (λ (l : List ℕ). take i old ++ l) (given ∙ ap (run r) (sym part)),
    )

-- some more symbols, after those before them
pub run_more : (s t r u : Needle) (block old new : List ℕ) (i k : ℕ) → i < k → k ≤ length block
    → r ≡ ready t → u ≡ state r (take (k - i) (drop i old))
    → take k new ≡ take i old ++ run r (take (k - i) (drop i old)) → drop k new ≡ drop k old
    → t ≡ state s (take i block) → take i old ≡ run s (take i block) → drop i old ≡ drop i block
    → (u ≡ state s (take k block)) × (take k new ≡ run s (take k block)) × (drop k new ≡ drop k block)
run_more s t r u block old new i k further fits is after given kept now done rest =
    let first : List ℕ = take i block in
    let part : List ℕ = take (k - i) (drop i block) in
    let step : i + (k - i) ≡ k = omega (arith, further) in
    let size : length part ≡ k - i =
    length-take (k - i) (drop i block) ∙ omega (arith, length-drop i block, fits) in
    let (same, alike) = ready_run t part (omega (arith, size, further)) in
    let mid : take (k - i) (drop i old) ≡ part = ap (take (k - i)) rest in
    let whole : take k block ≡ first ++ part = ap (λ n. take n block) (sym step) ∙ take-add i (k - i) block in
    let later : (xs : List ℕ) → drop k xs ≡ drop (k - i) (drop i xs) = λ xs.
    sym (drop-drop (k - i) i xs ∙ ap (λ n. drop n xs) step) in (
      after ∙ ap₂ state is mid ∙ same ∙ ap (λ h. state h part) now
          ∙ sym (ap (state s) whole ∙ run_state-append byte_next s first part),
      given ∙ ap₂ (λ (l k : List ℕ). l ++ k) done (ap₂ run is mid ∙ alike ∙ ap (λ h. run h part) now)
          ∙ sym (ap (run s) whole ∙ run_gives-append byte_next byte_gives s first part),
      kept ∙ later old ∙ ap (drop (k - i)) rest ∙ sym (later block),
    )

-- the same for all symbols before a burst and the whole burst
pub whole_burst : (r : Needle) (old new : List ℕ) (i : ℕ) → i + r.gap + r.left ≤ length old
    → take (i + r.gap + r.left) new ≡ take (i + r.gap) old
    ++ map (λ byte. bit_xor byte r.change) (take (i + r.gap + r.left - (i + r.gap)) (drop (i + r.gap) old))
    → (at 0 0 r.change r.words ≡ state r (take (i + r.gap + r.left - i) (drop i old)))
    × (take (i + r.gap + r.left) new ≡ take i old ++ run r (take (i + r.gap + r.left - i) (drop i old)))
whole_burst r old new i fits changed =
    let none : (n : ℕ) → 0 ≡ n - n = λ n. omega arith in
    burst_at r (at 0 r.left r.change r.words) (at 0 0 r.change r.words) old new i r.gap r.left fits
    (omega arith) (ap (λ n. at n r.left r.change r.words) (none r.gap)) (omega arith) (λ some. refl)
    (ap (λ n. at 0 n r.change r.words) (none r.left)) changed

-- a needle that is ready has symbols before or in a burst
pub some_ready : (t r : Needle) → r ≡ ready t → 0 < r.gap + r.left
some_ready t r is =
    subst (λ (n : Needle). 0 < n.gap + n.left) (sym is) (ready_some t.gap t.left t.change t.words)
