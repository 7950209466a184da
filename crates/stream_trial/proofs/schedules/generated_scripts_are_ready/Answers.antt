use Rattle.cdg_workload.specs.Generated.{generated_drawings}
use Rattle.stream_trial.proofs.Pixels.{colours_small, pixels_small}
use Rattle.stream_trial.proofs.Ready.{TimesAreKnown, enough_free, all_ready, not_past_end, survey_stop}
use Rattle.stream_trial.proofs.schedules.generated_scripts_are_ready.Goals as goal

pub returns-clause-pixels : goal.returns-clause-pixels
returns-clause-pixels c = pixels_small

pub returns-clause-free : goal.returns-clause-free
returns-clause-free c seed count k lt =
    let t = c.generated_scripts_have_times.ensures in
    let times : TimesAreKnown = record { count = t.pictures; ready = t.ready; hold = t.hold } in
    enough_free times seed count k lt

pub returns-clause-ready : goal.returns-clause-ready
returns-clause-ready c seed count =
    let t = c.generated_scripts_have_times.ensures in
    let times : TimesAreKnown = record { count = t.pictures; ready = t.ready; hold = t.hold } in
    all_ready times c.needs_are_fewest.ensures.change seed count (colours_small seed count)
    (pixels_small seed count)
    (λ k. c.planned_changes_are_changes.ensures.few (generated_drawings seed count) k
    (pixels_small seed count))

pub returns-clause-end : goal.returns-clause-end
returns-clause-end c =
    let t = c.generated_scripts_have_times.ensures in
    let times : TimesAreKnown = record { count = t.pictures; ready = t.ready; hold = t.hold } in
    not_past_end times

pub returns-clause-survey : goal.returns-clause-survey
returns-clause-survey c seed count blocks stop enough is =
    let t = c.generated_scripts_have_times.ensures in
    let times : TimesAreKnown = record { count = t.pictures; ready = t.ready; hold = t.hold } in
    let ready = all_ready times c.needs_are_fewest.ensures.change seed count (colours_small seed count)
    (pixels_small seed count)
    (λ k. c.planned_changes_are_changes.ensures.few (generated_drawings seed count) k
    (pixels_small seed count)) in
    survey_stop times seed count blocks stop ready enough is
