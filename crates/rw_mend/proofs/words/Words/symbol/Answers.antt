use Rattle.std.proofs.Common.{◌≡◌, ◌<◌, ◌+◌, ◌-◌, ◌*◌, ◌/◌, ◌%◌, ℕ, get_or, sym, ap, ◌∙◌, arith}
use Rattle.std.specs.Prelude.{Some}
use Rattle.rw_interleave.specs.Interleave.{swapped}
use Rattle.rw_interleave.proofs.Places.{swapped-lt}
use Rattle.rw_mend.proofs.Standing.{none_before, none_there, symbol_there}
use Rattle.rw_mend.proofs.words.Words.symbol.Goals as goal
use Rattle.rw_mend.proofs.words.Words.symbol.Goals.{then-n-self-via-then-n-self, then-n-self-via-else-n-self+then-self-n}

pub returns-then-slot-first : goal.returns-then-slot-first
returns-then-slot-first c =
    sym (none_before c.args.self.now c.args.text.now c.args.p (omega (arith, c.if-slot-first.true)))

pub returns-then-n-self : goal.returns-then-n-self
returns-then-n-self c =
    let words = c.args.self.now in
    let p = c.args.p in
    let n : ℕ = p / 24 - (4 * words.lead_in + p % 24 % 8) in
    let slot : p / 24 ≡ 4 * words.lead_in + p % 24 % 8 + n = omega (arith, c.if-slot-first.false) in
    elim c.then-n-self.branch [
      | then-n-self-via-then-n-self w ↦
          sym (none_there words c.args.text.now p n slot
          (λ within. absurd (omega (arith, within, w.if-n-self.true))))
      | then-n-self-via-else-n-self+then-self-n w ↦
          sym (none_there words c.args.text.now p n slot (λ within. w.if-self-n.true))
    ]

pub returns : goal.returns
returns c =
    let words = c.args.self.now in
    let text = c.args.text.now in
    let p = c.args.p in
    let n : ℕ = p / 24 - (4 * words.lead_in + p % 24 % 8) in
    let slot : p / 24 ≡ 4 * words.lead_in + p % 24 % 8 + n = omega (arith, c.if-slot-first.false) in
    let small : swapped (p % 24) < 24 = swapped-lt (p % 24) (omega arith) in
    let place : c.place.result % 24 ≡ swapped (p % 24) = omega (arith, c.place.ensures, small) in
    ap (λ i. Some (get_or text (24 * n + i) 0 % 64)) place
    ∙ sym (symbol_there words text p n slot (omega (arith, c.if-n-self.false)) c.if-self-n.false)
