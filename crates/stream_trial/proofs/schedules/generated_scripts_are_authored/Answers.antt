use Rattle.cdg_workload.specs.Generated.{generated_drawings}
use Rattle.stream_trial.proofs.Ready.{TimesAreKnown, accepted, author_stop}
use Rattle.stream_trial.proofs.schedules.generated_scripts_are_authored.Goals as goal

pub returns-clause-accepted : goal.returns-clause-accepted
returns-clause-accepted c sheet seed count lead_in audio layout enough room =
    let t = c.generated_scripts_have_times.ensures in
    let times : TimesAreKnown = record { count = t.pictures; ready = t.ready; hold = t.hold } in
    accepted times sheet seed count lead_in audio (c.generated_scripts_are_ready.ensures.ready seed count)
    layout enough room

pub returns-clause-stop : goal.returns-clause-stop
returns-clause-stop c sheet seed count lead_in audio stop layout enough room is =
    let t = c.generated_scripts_have_times.ensures in
    let times : TimesAreKnown = record { count = t.pictures; ready = t.ready; hold = t.hold } in
    let good = accepted times sheet seed count lead_in audio
    (c.generated_scripts_are_ready.ensures.ready seed count) layout enough room in
    author_stop sheet (generated_drawings seed count) lead_in audio stop good is
