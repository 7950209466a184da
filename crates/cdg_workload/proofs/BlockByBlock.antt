-- Scratches in a stream with no lead-in, block by block.
use Rattle.std.proofs.Common.{◌≡◌, ℕ, suc, ◌+◌, ◌*◌, ◌/◌, ◌≤◌, List, [], ◌∷◌, ◌++◌, length, take, drop, Some, refl, sym, ap, ◌∙◌, arith, length-drop}
use Rattle.std.proofs.Math.Seq.{take-add, drop-append_seam, take-append_seam}
use Rattle.std.proofs.lemmas.List.{take-append-drop, length-take-le}
use Rattle.cdg_io.specs.Run.{run_state}
use Rattle.cdg_io.proofs.Runs.{run_state-append, run_gives-append}
use Rattle.cdg_workload.specs.Generator.{generator}
use Rattle.cdg_workload.specs.Scratches.{bursts, scratched}
use Rattle.cdg_workload.specs.Steps.{byte_next, byte_gives, block_next, block_gives, scratches_after}
use Rattle.cdg_workload.specs.declared.needle.Needle.{Needle}
use Rattle.cdg_workload.proofs.Needles.{at, run, scratches_all}
use Rattle.cdg_workload.proofs.BlockRuns.{changed_is, change_at-lt}

abbrev state : Needle → List ℕ → Needle
state needle xs = run_state byte_next needle xs

-- a needle before its first byte
abbrev fresh : ℕ → Needle
fresh seed = at 0 0 0 (generator seed)

length-run : (h : Needle) (xs : List ℕ) → length (run h xs) ≡ length xs
unfolding byte_gives
length-run h [] = refl
length-run h (x ∷ xs) = ap suc (length-run (byte_next h x) xs)

-- the stream with scratches is the output of a needle for all its bytes
scratched_is_run : (seed : ℕ) (bytes : List ℕ) → scratched 0 seed bytes ≡ run (fresh seed) bytes
unfolding scratched
scratched_is_run seed bytes =
    let w = generator seed in
    let count : ℕ = length bytes / 192 + 1 in
    sym (scratches_all bytes count w (omega arith)
    ∙ changed_is (bursts count 0 w) 0 bytes (change_at-lt count 0 w))

-- a part of a run is the run from the state before it
part_of_run : (h : Needle) (bytes : List ℕ) (k m : ℕ) → k + m ≤ length bytes
    → take m (drop k (run h bytes)) ≡ run (state h (take k bytes)) (take m (drop k bytes))
part_of_run h bytes k m fits =
    let first = take k bytes in
    let part = take m (drop k bytes) in
    let rest = drop m (drop k bytes) in
    let after = state h first in
    let size : length (run h first) ≡ k = length-run h first ∙ length-take-le k bytes (omega arith) in
    let part_size : length (run after part) ≡ m =
    length-run after part ∙ length-take-le m (drop k bytes) (omega (arith, length-drop k bytes)) in
    let whole : run h bytes ≡ run h first ++ (run after part ++ run (state after part) rest) =
    ap (run h) (sym (take-append-drop k bytes))
    ∙ run_gives-append byte_next byte_gives h first (drop k bytes)
    ∙ ap (λ l. run h first ++ l)
    (ap (run after) (sym (take-append-drop m (drop k bytes)))
    ∙ run_gives-append byte_next byte_gives after part rest) in
    ap (λ l. take m (drop k l)) whole
    ∙ ap (λ n. take m (drop n (run h first ++ (run after part ++ run (state after part) rest)))) (sym size)
    ∙ ap (take m) (drop-append_seam (run h first) (run after part ++ run (state after part) rest))
    ∙ ap (λ n. take n (run after part ++ run (state after part) rest)) (sym part_size)
    ∙ take-append_seam (run after part) (run (state after part) rest)

pub next_block : (seed b : ℕ) (bytes : List ℕ) → 96 * b + 96 ≤ length bytes
    → scratches_after seed bytes (b + 1) ≡ block_next (scratches_after seed bytes b)
    (take 96 (drop (96 * b) bytes))
unfolding block_next
next_block seed b bytes fits =
    let more : 96 * (b + 1) ≡ 96 * b + 96 = omega arith in
    ap (λ h. record { lead_in = 0; needle = h })
    (ap (λ n. state (fresh seed) (take n bytes)) more ∙ ap (state (fresh seed)) (take-add (96 * b) 96 bytes)
    ∙ run_state-append byte_next (fresh seed) (take (96 * b) bytes) (take 96 (drop (96 * b) bytes)))

pub gives_block : (seed b : ℕ) (bytes : List ℕ) → 96 * b + 96 ≤ length bytes
    → Some (take 96 (drop (96 * b) (scratched 0 seed bytes)))
    ≡ block_gives (scratches_after seed bytes b) (take 96 (drop (96 * b) bytes))
unfolding block_gives
gives_block seed b bytes fits =
    ap (λ l. Some (take 96 (drop (96 * b) l))) (scratched_is_run seed bytes)
    ∙ ap (λ (l : List ℕ). Some l) (part_of_run (fresh seed) bytes (96 * b) 96 fits)
