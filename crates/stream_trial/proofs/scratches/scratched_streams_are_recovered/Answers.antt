use Rattle.raw_subcode.specs.declared.form.Form.TheVariants.{Raw}
use Rattle.stream_trial.proofs.Scratched.{same_size, stream_damaged, packs_found}
use Rattle.stream_trial.proofs.scratches.scratched_streams_are_recovered.Goals as goal

pub returns-clause-size : goal.returns-clause-size
returns-clause-size c lead_in seed bytes =
    same_size lead_in seed bytes (c.scratches_are_bursts.ensures.channels lead_in seed bytes)

pub returns-clause-damaged : goal.returns-clause-damaged
returns-clause-damaged c sheet script lead_in audio seed bytes packs is =
    stream_damaged c.scratches_are_damage.ensures sheet script lead_in audio seed bytes packs is

pub returns-clause-found : goal.returns-clause-found
returns-clause-found c sheet script lead_in audio seed bytes packs found is recovered =
    packs_found (c.packs_are_recovered.ensures Raw) c.scratches_are_damage.ensures sheet script lead_in audio
    seed bytes packs found is recovered
