use Rattle.std.proofs.Common.{◌≡◌, ◌+◌, ◌-◌, ◌*◌, ℕ, ◌≤◌, refl, length, take, drop, ap, arith, length-take, length-drop}
use Rattle.rw_mend.proofs.Under.{under}
use Rattle.rw_mend.proofs.words.Words.are_all_mended.Goals as goal

pub returns : goal.returns
returns c all =
    let words = c.args.self.now in
    let first : ℕ = 4 * c.args.b - (4 * words.lead_in + 7) in
    let fits : first + 11 ≤ words.count = omega (arith, c.if-self-first.false) in
    let n : ℕ = first + 11 - first in
    let eleven : n ≡ 11 = omega arith in
    let size : length (take n (drop first words.sources.now)) ≡ 11 =
    omega (
      arith,
      length-take n (drop first words.sources.now),
      length-drop first words.sources.now,
      fits,
      c.requires.sources,
    ) in
    under words c.args.b first (take n (drop first words.sources.now)) c.if-slot-start.false refl fits
    (ap (λ m. take m (drop first words.sources.now)) eleven)
    (λ j lt. c.are_found.ensures all j (omega (arith, lt, size)))
