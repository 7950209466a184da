use Rattle.cdg_press.proofs.Existing.{has_stream, part_is_prefix}
use Rattle.cdg_press.proofs.laws.pressable_files_have_streams.Goals as goal

pub returns-clause-stream : goal.returns-clause-stream
returns-clause-stream c sheet file lead_in audio =
    has_stream sheet file lead_in audio c.spread_carries.ensures

pub returns-clause-part : goal.returns-clause-part
returns-clause-part c sheet file lead_in audio n bytes packs given held pressed part =
    part_is_prefix sheet file lead_in audio bytes packs pressed c.spread_carries.ensures n given held part
