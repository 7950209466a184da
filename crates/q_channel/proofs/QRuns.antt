-- The lines and the counts of the stage for Q frames.
use Rattle.std.proofs.Common.{◌≡◌, ℕ, ◌+◌, ◌^◌, ◌<◌, ◌≤◌, Bool, true, false, List, [], ◌∷◌, ◌++◌, length, map, refl, ap, ap₂, ◌∙◌, arith}
use Rattle.std.specs.Prelude.{min, Result, is_err, count_by, if◌then◌else◌}
use Rattle.std.specs.List.{concat}
use Rattle.std.proofs.lemmas.List.{length-map}
use Rattle.std.proofs.lemmas.List.Sums.{sum_by-cons}
use Rattle.cdg_io.specs.Run.{run_state, run_gives}
use Rattle.raw_subcode.specs.Channels.{q_bits, channel_bit}
use Rattle.q_channel.specs.QLine.{q_line}
use Rattle.q_channel.specs.ReadingOf.{reading_of}
use Rattle.q_channel.proofs.ReadingLaws.{is_reading}
use Rattle.q_channel.specs.declared.frame.QFrame.{QFrame}
use Rattle.q_channel.specs.declared.frame.QFault.{QFault}
use Rattle.bit_lists.specs.Counting.{counted}
use Rattle.q_channel.specs.QSteps.{q_next, q_give}
use Rattle.q_channel.specs.QList.{q_lines, AreQReadings}

abbrev pub reading_at : List ℕ → Result QFrame QFault
reading_at block = reading_of (q_bits block)

-- the lines of blocks, from the number of the next block
pub lines_run : (block bad : ℕ) (blocks : List (List ℕ)) → block + length blocks ≤ 1000000
    → concat (run_gives q_next q_give (record { block = block; bad = bad }) blocks)
    ≡ q_lines block (map reading_at blocks)
unfolding q_next q_give
lines_run block bad [] few = refl
lines_run block bad (b ∷ blocks) few =
    let here : min block 999999 ≡ block = omega arith in
    let next : counted block ≡ block + 1 = omega arith in
    let bad' : ℕ = if is_err (reading_at b) then counted bad else bad in
    ap₂ (λ x xs. x ++ xs) (ap (λ n. q_line n (reading_at b)) here)
    (ap (λ n. concat (run_gives q_next q_give (record { block = n; bad = bad' }) blocks)) next
    ∙ lines_run (block + 1) bad' blocks (omega arith))

one_more : (refused : Bool) (bad : ℕ) → bad + 1 < 2 ^ 32
    → (if refused then counted bad else bad) ≡ bad + (if refused then 1 else 0)
one_more true bad few = omega arith
one_more false bad few = omega arith

at_most_one : (refused : Bool) → (if refused then 1 else 0) ≤ 1
at_most_one true = omega arith
at_most_one false = omega arith

-- the count does not saturate for a small number of blocks
pub counts_run : (block bad : ℕ) (blocks : List (List ℕ)) → bad + length blocks < 2 ^ 32
    → (run_state q_next (record { block = block; bad = bad }) blocks).bad
    ≡ bad + count_by is_err (map reading_at blocks)
unfolding q_next
counts_run block bad [] few = omega arith
counts_run block bad (b ∷ blocks) few =
    let refused : Bool = is_err (reading_at b) in
    let one : ℕ = if refused then 1 else 0 in
    let step : (if refused then counted bad else bad) ≡ bad + one = one_more refused bad (omega arith) in
    let whole : count_by is_err (map reading_at (b ∷ blocks))
    ≡ one + count_by is_err (map reading_at blocks) =
    sum_by-cons (λ (r : Result QFrame QFault). if is_err r then 1 else 0) (reading_at b)
    (map reading_at blocks) in
    ap (λ n. (run_state q_next (record { block = counted block; bad = n }) blocks).bad) step
    ∙ counts_run (counted block) (bad + one) blocks (omega (arith, few, at_most_one refused))
    ∙ omega (arith, whole)

-- each list has 96 elements
abbrev pub Sized : List (List ℕ) → Type 0
Sized [] = Unit {0}
Sized (x ∷ xs) = (length x ≡ 96) × Sized xs

pub readings_are : (blocks : List (List ℕ)) → Sized blocks → AreQReadings blocks (map reading_at blocks)
readings_are [] sized = refl
readings_are (b ∷ blocks) sized =
    (is_reading (q_bits b) (length-map b (channel_bit 1) ∙ sized.0), readings_are blocks sized.1)
