use Rattle.std.proofs.Common.{◌++◌, [], length, sym, ap, ◌∙◌, refl, subst, arith}
use Rattle.std.specs.Prelude.{Bool}
use Rattle.std.specs.Io.KnownBytes.{Appends}
use Rattle.cdg_io.proofs.Stops.{later_since, rose_since}
use Rattle.rw_merge.proofs.Faults.{counted_at_end, counted_last}
use Rattle.rw_merge.proofs.Ends.{block_more}
use Rattle.rw_merge.proofs.Stops.{at_ends_after, first_at_end, second_at_end, write_answer}
use Rattle.rw_merge.proofs.MergeReads.{both_ended, read_all, stopped, write_failed}
use Rattle.rw_merge.proofs.Working.{answer_at_end, bad_fits, works_kept, both_of_whole, pair_found, pair_of_whole, skipped_as, works_more, works_none}
use Rattle.rw_merge.proofs.merge.Merger.merge_pairs.Goals as goal
use Rattle.rw_merge.proofs.merge.Merger.merge_pairs.Goals.{then-block-lead_in+in-Ok, else-block-lead_in}

pub loop-block-init : goal.loop-block-init
loop-block-init g c = record {
  same = ap length (c.requires.first ∙ sym c.requires.second);
  works = ([], [], works_none c.args.lead_in _ _ _ _ _ c.requires.first c.requires.second);
  no_first_fault = refl;
  no_second_fault = refl;
  no_write_fault = refl;
  first_reported = refl;
  second_reported = refl;
  first_rooms = ((λ _. refl), λ some. absurd (omega (arith, some)));
  second_rooms = ((λ _. refl), λ some. absurd (omega (arith, some)));
}

pub returns-in-Ok-false-clause-merges : goal.returns-in-Ok-false-clause-merges
returns-in-Ok-false-clause-merges g c =
    let before = c.loop-block.invariant in
    let (xs, ys, worked) = before.works in
    both_ended worked _ c.in-Ok-false.ensures.keeps before.first_reported before.second_reported
    before.first_rooms before.second_rooms _ _ _ _ _ _ _ _ c.saturating_sub.result
    c.saturating_sub.ensures c.loop-block-test.true
    (rw c.in-Ok-false.field-0-test at c.in-Ok-false.ensures.pair)

pub returns-in-Ok-false-clause-answer : goal.returns-in-Ok-false-clause-answer
returns-in-Ok-false-clause-answer g c =
    let (xs, ys, works) = c.loop-block.invariant.works in
    let pair = rw c.in-Ok-false.field-0-test at c.in-Ok-false.ensures.pair in
    let read = pair.said.0 in
    both_of_whole c.args.lead_in c.loop-block.block _ c.loop-block.bad _ _ _ _ _ _ _ _ _ _ _ xs ys _ _ works
    pair.took pair.other_took read.0 read.1 read.2 read.3 (omega (arith, c.loop-block-test.true))
    c.saturating_sub.ensures

pub returns-in-Err-clause-merges : goal.returns-in-Err-clause-merges
returns-in-Err-clause-merges g c =
    let before = c.loop-block.invariant in
    let (xs, ys, worked) = before.works in
    stopped worked _ c.in-Err.ensures.keeps before.first_reported before.second_reported before.first_rooms
    before.second_rooms _ _ _ _ _ _ _ _ c.in-Err.stop c.loop-block-test.true c.in-Err.ensures.pair

pub returns-in-Err-clause-answer : goal.returns-in-Err-clause-answer
returns-in-Err-clause-answer g c =
    let (xs, ys, works) = c.loop-block.invariant.works in
    let pair = c.in-Err.ensures.pair in
    pair_of_whole c.args.lead_in c.loop-block.block _ _ _ _ _ _ _ _ _ _ _ xs ys _ _ c.in-Err.stop works
    pair.took pair.other_took pair.said.0 c.loop-block-test.true

pub returns-clause-merges : goal.returns-clause-merges
returns-clause-merges g c =
    let before = c.loop-block.invariant in
    let (xs, ys, worked) = before.works in
    read_all worked _ c.pass_waiting.ensures.bytes before.first_reported before.second_reported
    before.first_rooms before.second_rooms _ _ _ _ _ _ c.end_merge.result _ c.end_merge.ensures.merged
    (omega (arith, c.loop-block.auto.block-end, c.loop-block-test.false)) refl c.end_merge.ensures.end

pub returns-clause-answer : goal.returns-clause-answer
returns-clause-answer g c =
    let (xs, ys, works) = c.loop-block.invariant.works in
    let pair = c.end_merge.ensures.end in
    answer_at_end c.args.lead_in c.loop-block.block _ _ _ _ _ _ _ _ _ _ _ _ xs ys _ _ c.end_merge.result
    works pair.took pair.other_took c.end_merge.ensures.merged pair.said
    (omega (arith, c.loop-block.auto.block-end, c.loop-block-test.false)) refl

pub returns-in-Err-put_all-clause-merges : goal.returns-in-Err-put_all-clause-merges
returns-in-Err-put_all-clause-merges g c =
    let before = c.loop-block.invariant in
    let (xs, ys, worked) = before.works in
    let pair = rw c.in-Ok-true.field-0-test at c.in-Ok-true.ensures.pair in
    let (u_is, v_is) = pair.said.1 refl in
    let (u_size, v_size) = pair.said.0 in
    let found =
    pair_found c.loop-block.self.first c.loop-block.self.second c.next_pair.new.one c.next_pair.new.other _
    _ _ _ c.merge.new.self.first c.merge.new.self.second c.merge.new.packs.bytes c.bytes.result.now
    c.merge.new.packs.bad u_is v_is u_size v_size refl refl c.bytes.ensures.bytes
    c.merge.ensures.first c.merge.ensures.second c.merge.ensures.packs in
    write_failed worked _ c.in-Ok-true.ensures.keeps before.first_reported before.second_reported
    before.first_rooms before.second_rooms _ _ _ _ _ _ _ _ _ _ _ _ _ c.if-block-lead_in.true
    c.loop-block-test.true pair found c.in-Err-put_all.ensures.part

pub loop-block-preserved : goal.loop-block-preserved
loop-block-preserved g c =
    let before = c.loop-block.invariant in
    let (xs, ys, worked) = before.works in
    let works = works_kept _ _ _ _ _ _ _ _ _ _ _ _ _ _ worked c.in-Ok-true.ensures.keeps in
    let pair = rw c.in-Ok-true.field-0-test at c.in-Ok-true.ensures.pair in
    let us = pair.taken in
    let vs = pair.other_taken in
    let (read, whole) = pair.said in
    let (u_is, v_is) = whole refl in
    let first_rooms = block_more c.loop-block.block us _ _ _ read.0 before.first_rooms pair.filled in
    let second_rooms = block_more c.loop-block.block vs _ _ _ read.1 before.second_rooms pair.other_filled in
    elim c.if-block-lead_in.branch [
      | then-block-lead_in+in-Ok w ↦
          let first_is = ap (λ s. s.first) w.self-is in
          let second_is = ap (λ s. s.second) w.self-is in
          let found =
          pair_found c.loop-block.self.first c.loop-block.self.second c.next_pair.new.one
          c.next_pair.new.other us vs _ _ c.if-block-lead_in.self.first c.if-block-lead_in.self.second
          w.merge.new.packs.bytes w.bytes.result.now w.merge.new.packs.bad u_is v_is read.0 read.1 first_is
          second_is
          w.bytes.ensures.bytes
          w.merge.ensures.first w.merge.ensures.second w.merge.ensures.packs in
          let held = ap g.K.Sink.held w.out-is in
          let put =
          subst (λ h. Appends (g.K.Sink.held c.next_pair.new.out) h w.bytes.result.now) (sym held)
          w.in-Ok.ensures.ok in
          record {
            same = ap length first_is ∙ w.merge.ensures.same ∙ sym (ap length second_is);
            works = (
              xs ++ us,
              ys ++ vs,
              works_more c.args.lead_in c.loop-block.block _ _ _ _ _ _ _ _ _ _ _ _ _ _ _ xs ys us vs _ works
                  pair.took pair.other_took read.0 read.1 w.if-block-lead_in.true found put
                  c.if-block-lead_in.bad w.bad-is,
            );
            no_first_fault = c.in-Ok-true.ensures.faults.0 ∙ before.no_first_fault;
            no_second_fault = c.in-Ok-true.ensures.faults.1 ∙ before.no_second_fault;
            no_write_fault =
                ap g.K.Sink.faults w.out-is
                ∙ w.in-Ok.ensures.cause.same
                ∙ (c.in-Ok-true.ensures.no_write_fault ∙ before.no_write_fault);
            first_reported = pair.ended.0 ∙ before.first_reported;
            second_reported = pair.ended.1 ∙ before.second_reported;
            first_rooms = first_rooms;
            second_rooms = second_rooms;
          }
      | else-block-lead_in w ↦
          let held = ap g.K.Sink.held w.out-is in
          record {
            same =
                ap (λ s. length s.first) w.self-is ∙ before.same ∙ sym (ap (λ s. length s.second) w.self-is);
            works = (
              xs ++ us,
              ys ++ vs,
              skipped_as c.args.lead_in c.loop-block.block _ _ _ _ _ _ _ _ _ _ _ _ _ xs ys us vs works
                  pair.took
                  pair.other_took read.0 read.1 w.if-block-lead_in.false held w.self-is w.bad-is,
            );
            no_first_fault = c.in-Ok-true.ensures.faults.0 ∙ before.no_first_fault;
            no_second_fault = c.in-Ok-true.ensures.faults.1 ∙ before.no_second_fault;
            no_write_fault =
                ap g.K.Sink.faults w.out-is ∙ (c.in-Ok-true.ensures.no_write_fault ∙ before.no_write_fault);
            first_reported = pair.ended.0 ∙ before.first_reported;
            second_reported = pair.ended.1 ∙ before.second_reported;
            first_rooms = first_rooms;
            second_rooms = second_rooms;
          }
    ]

pub returns-in-Ok-false-clause-faults : goal.returns-in-Ok-false-clause-faults
returns-in-Ok-false-clause-faults g c =
    let (first, second) = c.in-Ok-false.ensures.faults in (
      first ∙ c.loop-block.invariant.no_first_fault,
      second ∙ c.loop-block.invariant.no_second_fault,
      (c.in-Ok-false.ensures.no_write_fault ∙ c.loop-block.invariant.no_write_fault),
    )

pub returns-in-Ok-false-clause-at_ends : goal.returns-in-Ok-false-clause-at_ends
returns-in-Ok-false-clause-at_ends g c =
    let pair = rw c.in-Ok-false.field-0-test at c.in-Ok-false.ensures.pair in
    (pair.said.0.2, pair.said.0.3)

pub returns-in-Err-clause-faults : goal.returns-in-Err-clause-faults
returns-in-Err-clause-faults g c =
    counted_last Bool _ _ _ _ _ _ _ _ c.in-Err.stop c.loop-block.invariant.no_first_fault
    c.loop-block.invariant.no_second_fault
    (c.in-Err.ensures.no_write_fault ∙ c.loop-block.invariant.no_write_fault) c.in-Err.ensures.faults

pub returns-in-Err-clause-at_ends : goal.returns-in-Err-clause-at_ends
returns-in-Err-clause-at_ends g c =
    let read = c.in-Err.ensures.pair.said.0 in (
      first_at_end c.loop-block.block _ _ c.in-Err.stop _ read,
      second_at_end c.loop-block.block _ _ c.in-Err.stop _ read,
    )

pub returns-clause-faults : goal.returns-clause-faults
returns-clause-faults g c =
    counted_at_end _ _ _ _ _ _ _ _ c.end_merge.result c.loop-block.invariant.no_first_fault
    c.loop-block.invariant.no_second_fault
    (c.pass_waiting.ensures.no_fault ∙ c.loop-block.invariant.no_write_fault) c.end_merge.ensures.faults

pub returns-clause-at_ends : goal.returns-clause-at_ends
returns-clause-at_ends g c = at_ends_after _ _ c.end_merge.result _ _ c.end_merge.ensures.end.said

pub returns-in-Err-put_all-clause-faults : goal.returns-in-Err-put_all-clause-faults
returns-in-Err-put_all-clause-faults g c =
    let (first, second) = c.in-Ok-true.ensures.faults in
    let cause = c.in-Err-put_all.ensures.cause in (
      first ∙ c.loop-block.invariant.no_first_fault,
      second ∙ c.loop-block.invariant.no_second_fault,
      (
        later_since (c.in-Ok-true.ensures.no_write_fault ∙ c.loop-block.invariant.no_write_fault) cause.later,
        rose_since (c.in-Ok-true.ensures.no_write_fault ∙ c.loop-block.invariant.no_write_fault) cause.failed,
      ),
    )

pub returns-in-Err-put_all-clause-at_ends : goal.returns-in-Err-put_all-clause-at_ends
returns-in-Err-put_all-clause-at_ends g c = (tt, tt)

pub returns-in-Err-put_all-clause-answer : goal.returns-in-Err-put_all-clause-answer
returns-in-Err-put_all-clause-answer g c = write_answer c.args.lead_in _ _

pub merge-requires : goal.merge-requires
merge-requires g c = c.loop-block.invariant.same

pub overflow_add-bad : goal.overflow_add-bad
overflow_add-bad g c =
    let (xs, ys, works) = c.loop-block.invariant.works in
    let (others, all, bytes_are, more_is, four) = c.merge.ensures.packs in
    bad_fits c.loop-block.block c.loop-block.bad c.merge.new.packs.bad works.found others works.bad_is
    works.is_found.few more_is four c.loop-block-test.true
