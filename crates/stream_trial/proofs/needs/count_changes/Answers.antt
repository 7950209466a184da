use Rattle.std.proofs.Common.{◌≡◌, ℕ, ◌+◌, ◌<◌, List, length, ap, ap₂, sym, ◌∙◌, arith}
use Rattle.std.specs.Prelude.{sum_by, slice_index_or}
use Rattle.std.proofs.lemmas.List.Sums.{sum_by_push}
use Rattle.bit_lists.specs.Counting.{below}
use Rattle.picture_script.specs.Script.{Drawing, pictures}
use Rattle.pack_schedule.specs.PlannedChange.{planned_change}
use Rattle.pack_schedule.specs.Survey.{IsSurvey, nothing_planned}
use Rattle.pack_schedule.specs.declared.surveys.PlannedChange.{PlannedChange}
use Rattle.stream_trial.specs.Trial.{all_changes}
use Rattle.stream_trial.proofs.Plays.{below_more}
use Rattle.stream_trial.proofs.needs.count_changes.Goals as goal

-- the change of one more picture
one_need : (script : List Drawing) (planned : List PlannedChange) (k sum need : ℕ) → IsSurvey script planned
    → k < pictures script → sum ≡ sum_by (λ k. length (planned_change script k)) (below k)
    → need ≡ (slice_index_or planned k nothing_planned).need
    → sum + need ≡ sum_by (λ k. length (planned_change script k)) (below (k + 1))
one_need script planned k sum need surveyed lt so_far is =
    let change : need ≡ length (planned_change script k) = is ∙ (surveyed.each k lt).need_is in
    ap₂ (λ a b. a + b) so_far change ∙ sym (sum_by_push (λ k. length (planned_change script k)) (below k) k)
    ∙ ap (sum_by (λ k. length (planned_change script k))) (sym (below_more k))

all_needs : (script : List Drawing) (k sum : ℕ) → k ≡ pictures script
    → sum ≡ sum_by (λ k. length (planned_change script k)) (below k) → sum ≡ all_changes script
unfolding all_changes
all_needs script k sum last so_far = so_far
    ∙ ap (λ n. sum_by (λ k. length (planned_change script k)) (below n)) last

pub loop-k-preserved : goal.loop-k-preserved
loop-k-preserved c = record {
  sum = one_need c.args.script.now c.args.planned.now c.loop-k.k c.loop-k.sum c.from-sum.result
      c.requires (omega arith) c.loop-k.invariant.sum (c.from-sum.ensures ∙ c.need.ensures);
  small = omega (arith, c.loop-k.invariant.small, c.from-sum.ensures, c.need.type_inv);
}

pub returns : goal.returns
returns c =
    all_needs c.args.script.now c.loop-k.k c.loop-k.sum (omega arith) c.loop-k.invariant.sum
