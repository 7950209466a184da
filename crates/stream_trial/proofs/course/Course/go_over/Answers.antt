use Rattle.stream_trial.specs.declared.course.Course.{Course}
use Rattle.std.proofs.Common.{◌+◌, refl}
use Rattle.stream_trial.proofs.Courses.{gone_over}
use Rattle.stream_trial.proofs.course.Course.go_over.Goals as goal

pub returns-clause-gone_over : goal.returns-clause-gone_over
returns-clause-gone_over c =
    let script = c.args.script.now in
    let times = c.times_rise_and_colours_are_in_range.ensures in
    let scratches = c.scratches_go_block_by_block.ensures in
    let new : Course = record {
      scratches = c.scratch.new.self;
      gather = c.push_block-words.new.self;
      replay = c.take_words.new.self;
      gallery = c.look.new.self;
      blocks = c.args.self.now.blocks + 1;
    } in
    gone_over c.gather_gives_words.ensures c.scheduled_pictures_are_shown.ensures
    c.scratches_are_bursts.ensures.channels
    scratches.next scratches.gives script (record { held = times.held; later = times.later })
    (record { border = times.borders; colour = times.colours }) c.args.self.now new c.args.block.now
    c.scratch.new.block
    c.push_block-words.result.items refl c.scratch.ensures.next c.scratch.ensures.gives
    c.push_block-words.ensures.next
    c.push_block-words.ensures.gives (c.take_words.ensures.taken script) c.look.ensures.waits
    c.look.ensures.looks
