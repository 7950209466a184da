use Rattle.std.proofs.Common.{◌∙◌, sym}
use Rattle.cdg_workload.specs.Scratches.{scratched}
use Rattle.stream_trial.proofs.Plays.{begins}
use Rattle.stream_trial.proofs.course.Course.start.Goals as goal

pub returns-clause-gone_over : goal.returns-clause-gone_over
returns-clause-gone_over c = λ script bytes.
    let replay = c.in_ok-start in
    let gallery = c.in_ok-start-2 in
    record {
      scratches = c.start.ensures ∙ sym (c.scratches_go_block_by_block.ensures.start c.args.seed bytes);
      gather = c.new.ensures;
      shown = begins script (scratched 0 c.args.seed bytes) replay.field-0 gallery.field-0
          replay.ensures.screen
          replay.ensures.counts gallery.ensures.counts;
    }
