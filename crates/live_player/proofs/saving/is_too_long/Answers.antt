use Rattle.live_player.proofs.Saves.{long_lead_in, many_blocks}
use Rattle.live_player.proofs.saving.is_too_long.Goals as goal

pub returns-then-is_above-clause-refused : goal.returns-then-is_above-clause-refused
returns-then-is_above-clause-refused c long player same_lead_in same_blocks =
    long_lead_in player _ same_lead_in c.is_above.ensures.fits c.files_are_read_back.ensures.to_come
    c.files_are_read_back.ensures.lead_in (c.is_above.ensures.above.0 c.if-is_above.true)

pub returns-else-is_above-clause-refused : goal.returns-else-is_above-clause-refused
returns-else-is_above-clause-refused c far player same_lead_in same_blocks =
    many_blocks player _ same_blocks c.is_above-else-is_above.ensures.fits
    c.files_are_read_back.ensures.lead_in c.files_are_read_back.ensures.program
    (c.is_above-else-is_above.ensures.above.0 far)
