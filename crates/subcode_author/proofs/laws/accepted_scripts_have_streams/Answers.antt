use Rattle.subcode_author.proofs.Existing.{has_stream}
use Rattle.subcode_author.proofs.StreamParts.{part_is_prefix}
use Rattle.subcode_author.proofs.Prompt.{are_prompt}
use Rattle.subcode_author.proofs.Written.{ChangesAreWritten}
use Rattle.subcode_author.proofs.laws.accepted_scripts_have_streams.Goals as goal

pub returns-clause-stream : goal.returns-clause-stream
returns-clause-stream c sheet script lead_in audio is_sheet order colours pixels few accepted =
    let known : ChangesAreWritten = record {
      planned = c.planned_changes_are_changes.ensures.planned;
      written = c.changes_can_be_written.ensures;
    } in
    has_stream c.spread_carries.ensures c.needs_are_fewest.ensures.change
    c.packs_are_a_schedule.ensures.schedule known sheet script lead_in audio is_sheet order colours pixels few
    accepted

pub returns-clause-part : goal.returns-clause-part
returns-clause-part c sheet script lead_in audio n given held after is_sheet order colours pixels few accepted
    part =
    let known : ChangesAreWritten = record {
      planned = c.planned_changes_are_changes.ensures.planned;
      written = c.changes_can_be_written.ensures;
    } in
    let (bytes, packs, authored) =
    has_stream c.spread_carries.ensures c.needs_are_fewest.ensures.change
    c.packs_are_a_schedule.ensures.schedule known sheet script lead_in audio is_sheet order colours pixels few
    accepted in (
      bytes,
      packs,
      authored,
      part_is_prefix c.spread_carries.ensures sheet script lead_in audio n bytes packs given held after
          accepted.disc (are_prompt c.needs_are_fewest.ensures.change script colours pixels accepted.ready)
          order
          authored part,
    )
