use Rattle.std.proofs.Common.{◌≡◌, ◌<◌, ◌+◌, length, get_or, ap, subst, sym, ◌∙◌, inl, inr, arith}
use Rattle.std.proofs.lemmas.Bool.Decides.{eqb_tells}
use Rattle.rw_code.specs.Codeword.{IsWord}
use Rattle.rw_merge.proofs.Readings.{no_penalty, penalty_differ, penalty_wrong, penalty_right}
use Rattle.rw_merge.proofs.counting.penalty.Goals as goal

pub loop-i-init : goal.loop-i-init
loop-i-init c = record { count = no_penalty; few = omega arith }

pub loop-i-preserved : goal.loop-i-preserved
loop-i-preserved c =
    let xs = c.args.first.now in
    let ys = c.args.second.now in
    let ws = c.args.word.now in
    let i = c.loop-i.i in
    let before = c.loop-i.invariant in
    let x_at = ap (λ l. get_or l i 0) c.bytes-first.ensures.same in
    let y_at = ap (λ l. get_or l i 0) c.bytes-second.ensures.same in
    let w_at = ap (λ l. get_or l i 0) c.bytes-word.ensures.same in
    let x_24 : length xs ≡ 24 =
    ap length (sym c.bytes-first.ensures.same) ∙ c.bytes-first.ensures.word.size in
    let y_24 : length ys ≡ 24 =
    ap length (sym c.bytes-second.ensures.same) ∙ c.bytes-second.ensures.word.size in
    let w_24 : length ws ≡ 24 = ap length (sym c.bytes-word.ensures.same) ∙ c.bytes-word.ensures.word.size in
    let y_size : length xs ≡ length ys = x_24 ∙ sym y_24 in
    let w_size : length xs ≡ length ws = x_24 ∙ sym w_24 in
    let lt : i < length xs = omega (arith, c.loop-i-test.true, x_24) in
    let xb = get_or c.bytes-first.result i 0 in
    let yb = get_or c.bytes-second.result i 0 in
    let wb = get_or c.bytes-word.result i 0 in
    elim (eqb_tells xb yb) [
      | inr (differ, apart) ↦
          let one = c.symbol_penalty-penalty.ensures.apart apart in
          let step = penalty_differ xs ys ws i y_size w_size lt (λ same. apart (x_at ∙ same ∙ sym y_at)) in
          record {
            count = ap (λ n. c.loop-i.penalty + n) one ∙ ap (λ n. n + 1) before.count ∙ sym step;
            few = omega (arith, one, before.few);
          }
      | inl (equal, same) ↦
          elim (eqb_tells xb wb) [
            | inr (differ, wrong) ↦
                let two = c.symbol_penalty-penalty.ensures.wrong same wrong in
                let step =
                penalty_wrong xs ys ws i y_size w_size lt (sym x_at ∙ same ∙ y_at)
                (λ right. wrong (x_at ∙ right ∙ sym w_at)) in
                record {
                  count = ap (λ n. c.loop-i.penalty + n) two ∙ ap (λ n. n + 2) before.count ∙ sym step;
                  few = omega (arith, two, before.few);
                }
            | inl (equal', right) ↦
                let none = c.symbol_penalty-penalty.ensures.right same right in
                let step =
                penalty_right xs ys ws i y_size w_size lt (sym x_at ∙ same ∙ y_at)
                (sym x_at ∙ right ∙ w_at) in
                record {
                  count = ap (λ n. c.loop-i.penalty + n) none ∙ omega arith ∙ before.count ∙ sym step;
                  few = omega (arith, none, before.few);
                }
          ]
    ]

pub returns-clause-first : goal.returns-clause-first
returns-clause-first c = subst IsWord c.bytes-first.ensures.same c.bytes-first.ensures.word

pub returns-clause-second : goal.returns-clause-second
returns-clause-second c = subst IsWord c.bytes-second.ensures.same c.bytes-second.ensures.word
