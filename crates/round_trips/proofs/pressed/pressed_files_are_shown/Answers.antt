use Rattle.round_trips.proofs.Shown.{file_text, none_bad}
use Rattle.round_trips.proofs.pressed.pressed_files_are_shown.Goals as goal

pub returns-clause-text : goal.returns-clause-text
returns-clause-text c form lead_in time others press text bad in_audio screen =
    file_text form lead_in others press c.packs_are_recovered.ensures time text bad in_audio screen
    c.each_pack_has_a_meaning.ensures.only c.instructions_in_turn.ensures

pub returns-clause-bad : goal.returns-clause-bad
returns-clause-bad c form lead_in time others press text bad in_audio screen =
    none_bad form lead_in others press c.packs_are_recovered.ensures time text bad in_audio screen
    c.found_packs_are_the_text.ensures.bad
