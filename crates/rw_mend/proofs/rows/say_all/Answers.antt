use Rattle.std.proofs.Common.{◌≡◌, ◌∙◌, ◌<◌, Bool, ap, arith, length, get_or, below_more}
use Rattle.std.proofs.Math.ListN.{set, length-set}
use Rattle.std.proofs.lemmas.List.{get_or_default, get_or-set_other, get_or-set_same}
use Rattle.std.specs.List.{list_any}
use Rattle.rw_mend.specs.Choice.{candidate_of_reading}
use Rattle.rw_mend.specs.Silences.{no_silence, said_after}
use Rattle.rw_mend.specs.Candidates.{is_quiet_candidate}
use Rattle.rw_mend.specs.declared.candidates.Candidate.TheVariants.{Silent}
use Rattle.rw_mend.proofs.rows.say_all.Goals as goal

pub loop-r-preserved : goal.loop-r-preserved
loop-r-preserved c =
    let r = c.loop-r.r in
    let said = c.loop-r.said in
    let new = c.say.result in
    let row = c.args.row.now in
    let silences = c.args.silences.now in
    let some : Bool = list_any is_quiet_candidate row in
    let long : r < length said =
    omega (arith, c.loop-r.invariant.size, c.loop-r-test.true, c.requires.said) in
    let here : c.index-row-r.result ≡ candidate_of_reading row r =
    c.index-row-r.is ∙ get_or_default row r c.index-row-r.result Silent c.loop-r-test.true in
    record {
      size = length-set said r new ∙ c.loop-r.invariant.size;
      each = below_more
          (λ k. candidate_of_reading (set said r new) k
          ≡ said_after some (get_or silences k no_silence) (candidate_of_reading row k)) r
          (λ k lt. get_or-set_other said r k new Silent (λ e. omega (arith, e, lt))
          ∙ c.loop-r.invariant.each k lt)
          (get_or-set_same said r new Silent long ∙ c.say.ensures
          ∙ ap (λ b. said_after b (get_or silences r no_silence) c.index-row-r.result)
          c.requires.some
          ∙ ap (λ v. said_after some (get_or silences r no_silence) v) here);
    }
