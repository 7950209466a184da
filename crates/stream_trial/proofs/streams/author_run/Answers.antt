use Rattle.std.proofs.Common.{arith}
use Rattle.std.proofs.Math.Logic.{∥∥₁_elim}
use Rattle.stream_trial.proofs.Room.{accepted_so, room_left, rose_some, size_so, allocations_counted}
use Rattle.stream_trial.proofs.streams.author_run.Goals as goal

pub returns-clause-stop : goal.returns-clause-stop
returns-clause-stop c =
    allocations_counted c.author_planned.result c.author_planned.ensures.stop (λ failed.
    let (seed, script_is) = c.requires.script in
    let sheet = c.args.sheet.now in
    let script = c.args.script.now in
    let audio = c.count_audio-audio.result in
    let begun = c.args.run.now in
    let run = c.author_planned.new.out in
    let (n, given, put) = c.author_planned.ensures.written.part failed in
    let times = c.times_rise_and_colours_are_in_range.ensures in
    let accepted =
    accepted_so sheet script _ audio c.args.pictures c.requires.sheet script_is c.count_audio-audio.ensures
    (c.trial_sheet_is_read.ensures.accepted seed c.args.pictures c.requires.few) in
    let (bytes, packs, written, (m, within, appended)) =
    c.accepted_scripts_have_streams.ensures.part sheet script 0 audio n given _ _
    c.tracks_are_in_order.ensures
    (record { held = times.held; later = times.later })
    (record { border = times.borders; colour = times.colours }) times.pixels (omega arith) accepted put in
    let size =
    size_so c.trial_sheet_is_read.ensures.blocks sheet script audio c.args.pictures bytes packs
    c.requires.sheet c.count_audio-audio.ensures written.authored in
    let full =
    run.full (rose_some begun.faults run.faults (c.author_planned.ensures.written.write_fault.rose failed)) in
    ∥∥₁_elim run.known (λ x y. absurd x) (λ known.
    room_left begun.seed begun.pictures run.seed run.pictures begun.history.bytes run.history.bytes bytes m
    run.course.blocks run.filled c.args.pictures c.requires.begun within size c.requires.few appended
    known.size full))
