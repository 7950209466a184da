use Rattle.pack_schedule.proofs.Pictures.{pictures_shown}
use Rattle.pack_schedule.proofs.laws.scheduled_pictures_are_shown.Goals as goal

pub returns : goal.returns
returns c script blocks packs k time instrs order schedule picture ready held meant =
    pictures_shown c.instructions_in_turn.ensures c.only_one_meaning.ensures c.read_of_written.ensures.only
    script blocks packs k time instrs order schedule picture ready held meant
