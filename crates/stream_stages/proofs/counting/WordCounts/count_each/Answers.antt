use Rattle.std.proofs.Common.{◌≡◌, ◌∙◌, ◌+◌, ◌≤◌, ap, ap₂, sym, subst, arith, rules}
use Rattle.std.proofs.lemmas.List.{take_all}
use Rattle.stream_stages.specs.CheckSteps.{count_after, counts_next, with_near, near_counted}
use Rattle.stream_stages.specs.declared.counting.NearIdle.{NearIdle}
use Rattle.stream_stages.proofs.Counted.{count_step, counted_none_yet, near_none, near_step, other_step, near_few}
use Rattle.stream_stages.proofs.counting.WordCounts.count_each.Goals.{then-wrong-le-MOST_WRONG, else-wrong-le-MOST_WRONG}
use Rattle.stream_stages.proofs.counting.WordCounts.count_each.Goals as goal

pub loop-word-init : goal.loop-word-init
loop-word-init c =
    let s = c.args.self.now in
    record {
      counted =
          ap (with_near s) c.none-near.ensures
          ∙ near_none s (search rules) (search rules) (search rules) c.counts_fit.ensures
          ∙ counted_none_yet s;
      few = search rules;
    }

pub loop-word-preserved : goal.loop-word-preserved
loop-word-preserved c =
    let start = c.args.self.now in
    let s = c.loop-word.self in
    let near = c.loop-word.near in
    let words = c.as_slice-word-items.result.now in
    let i = c.loop-word.word-index in
    elim c.if-wrong-le-MOST_WRONG.branch [
      | then-wrong-le-MOST_WRONG w ↦
          let now : c.if-wrong-le-MOST_WRONG.near ≡ near_counted near c.weight-wrong.result =
          w.near-is ∙ w.count.ensures in
          record {
            counted =
                count_step words i _ start (with_near s near) _ (omega arith) c.word-item.is
                c.loop-word.invariant.counted
                (ap₂ with_near w.self-is now
                ∙ near_step s near _ c.weight-wrong.result c.requires c.weight-wrong.ensures.word
                c.weight-wrong.ensures.count w.if-wrong-le-MOST_WRONG.true);
            few =
                subst (λ (n : NearIdle). n.clean + n.one + n.two ≤ i + 1) (sym now)
                (near_few near c.weight-wrong.result i w.if-wrong-le-MOST_WRONG.true
                c.loop-word.invariant.few);
          }
      | else-wrong-le-MOST_WRONG w ↦ record {
        counted =
            count_step words i _ start (with_near s near) _ (omega arith) c.word-item.is
            c.loop-word.invariant.counted
            (ap₂ with_near w.self-is w.near-is ∙ other_step s _ near _ w.count_corrected.ensures);
        few =
            let before = c.loop-word.invariant.few in
            subst (λ (n : NearIdle). n.clean + n.one + n.two ≤ i + 1) (sym w.near-is) (omega (arith, before));
      }
    ]

pub returns : goal.returns
unfolding counts_next
returns c =
    c.count_near.ensures
    ∙ c.loop-word.invariant.counted
    ∙ ap (count_after c.args.self.now) (take_all c.loop-word.word-index c.as_slice-word-items.result.now
    (omega arith)
    ∙ c.as_slice-word-items.ensures.value)
