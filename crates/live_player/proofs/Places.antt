-- Places in a stream, at equal distances in blocks or packs.
use Rattle.std.proofs.Common.{◌≡◌, ℕ, ◌+◌, ◌-◌, ◌*◌, ◌/◌, ◌%◌, ◌<◌, ◌≤◌, List, ◌++◌, drop, map, min, reverse, take, ap, ◌∙◌, arith}
use Rattle.std.proofs.Math.Nat.{mul-le-mul_right}
use Rattle.std.proofs.Math.Seq.{take-add}
use Rattle.std.proofs.lemmas.Grind.{div_ceil_times}
use Rattle.std.proofs.lemmas.List.{map-append, reverse-append}
use Rattle.live_player.specs.Lives.{Given}
use Rattle.live_player.specs.Marks.{given_first}

times : (every part : ℕ) → (part + 1) * every ≡ every * part + every
times every part = grind arith

again : (every part : ℕ) → every * (part + 1) ≡ every * part + every
again every part = grind arith

-- each part before the last place begins before it
pub before_end : (to every part : ℕ) → 0 < every → part < to / every + min 1 (to % every)
    → every * part < to
before_end to every part some lt =
    let ceiling : ℕ = to / every + min 1 (to % every) in
    let bound : ceiling * every < to + every = (div_ceil_times to every some).1 in
    let more : (part + 1) * every ≤ ceiling * every = mul-le-mul_right every (omega (arith, lt)) in
    omega (arith, bound, more, times every part)

-- and the last part ends there
pub at_end : (to every part : ℕ) → 0 < every → to / every + min 1 (to % every) ≤ part
    → min to (every * part) ≡ to
at_end to every part some past =
    let ceiling : ℕ = to / every + min 1 (to % every) in
    let bound : to ≤ ceiling * every = (div_ceil_times to every some).0 in
    let more : ceiling * every ≤ part * every = mul-le-mul_right every past in
    let turned : part * every ≡ every * part = grind arith in
    omega (arith, bound, more, turned)

pub next_end : (to every part : ℕ) → every * part < to
    → min to (every * (part + 1)) ≡ every * part + min every (to - every * part)
next_end to every part lt = omega (arith, lt, again every part)

pub here : (to every part : ℕ) → every * part ≤ to → min to (every * part) ≡ every * part
here to every part le = omega (arith, le)

-- the first blocks or packs, and `more` of them
pub given_on : (gives : List ℕ → Given) (units : List (List ℕ)) (from more : ℕ)
    → given_first gives (from + more) units
    ≡ map gives (reverse (take more (drop from units))) ++ given_first gives from units
given_on gives units from more =
    ap (λ (l : List (List ℕ)). map gives (reverse l)) (take-add from more units)
    ∙ ap (map gives) (reverse-append (take from units) (take more (drop from units)))
    ∙ map-append gives (reverse (take more (drop from units))) (reverse (take from units))
