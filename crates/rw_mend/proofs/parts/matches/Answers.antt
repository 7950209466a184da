use Rattle.std.proofs.Common.{◌≡◌, ◌+◌, ◌<◌, ℕ, Bool, true, false, get_or, take, sym, ap, ◌∙◌, arith}
use Rattle.std.specs.Prelude.{None, count_by}
use Rattle.std.proofs.lemmas.List.{take_all}
use Rattle.std.proofs.lemmas.List.FromFn.{get_or-range_with_len, length-range_with_len}
use Rattle.std.proofs.lemmas.List.Sums.{count_by_more_no, count_by_more_yes}
use Rattle.bit_lists.specs.Counting.{below}
use Rattle.rw_mend.specs.Chosen.{has_symbol, matches_of}
use Rattle.rw_mend.proofs.parts.matches.Goals as goal
use Rattle.rw_mend.proofs.parts.matches.Goals.{then-has_symbol, else-has_symbol}

number : (k : ℕ) → k < 96 → get_or (below 96) k 0 ≡ k
number k lt =
    let same : 0 + k ≡ k = omega arith in
    get_or-range_with_len 0 96 k 0 lt ∙ same

one_more : (p : ℕ → Bool) (k count : ℕ) → k < 96 → count ≡ count_by p (take k (below 96)) → p k ≡ true
    → count + 1 ≡ count_by p (take (k + 1) (below 96))
one_more p k count lt is has =
    omega (
      arith,
      is,
      count_by_more_yes p (below 96) k 0 (omega (arith, lt, length-range_with_len 0 96))
          (ap p (number k lt) ∙ has),
    )

none_more : (p : ℕ → Bool) (k count : ℕ) → k < 96 → count ≡ count_by p (take k (below 96)) → p k ≡ false
    → count ≡ count_by p (take (k + 1) (below 96))
none_more p k count lt is lacks =
    is
    ∙ sym (count_by_more_no p (below 96) k 0 (omega (arith, lt, length-range_with_len 0 96))
    (ap p (number k lt) ∙ lacks))

pub loop-k-preserved : goal.loop-k-preserved
loop-k-preserved c =
    let p : ℕ → Bool = λ (k : ℕ). has_symbol (get_or c.args.known.now k None) (get_or c.args.block.now k 0) in
    let k = c.loop-k.k in
    let lt : k < 96 = omega (arith, c.loop-k-test.true) in
    elim c.if-has_symbol.branch [
      | then-has_symbol w ↦ record {
        few = omega (arith, w.matches-is, c.loop-k.invariant.few);
        count =
            w.matches-is ∙ one_more p k c.loop-k.matches lt c.loop-k.invariant.count
            (sym c.has_symbol.ensures ∙ w.if-has_symbol.true);
      }
      | else-has_symbol w ↦ record {
        few = omega (arith, w.matches-is, c.loop-k.invariant.few);
        count =
            w.matches-is ∙ none_more p k c.loop-k.matches lt c.loop-k.invariant.count
            (sym c.has_symbol.ensures ∙ w.if-has_symbol.false);
      }
    ]

pub returns-clause-value : goal.returns-clause-value
unfolding matches_of
returns-clause-value c =
    let p : ℕ → Bool = λ (k : ℕ). has_symbol (get_or c.args.known.now k None) (get_or c.args.block.now k 0) in
    c.loop-k.invariant.count
    ∙ ap (count_by p)
    (take_all c.loop-k.k (below 96) (omega (arith, length-range_with_len 0 96, c.loop-k-test.false)))
