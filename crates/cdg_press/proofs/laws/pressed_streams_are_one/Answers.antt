use Rattle.cdg_press.proofs.Existing.{same_pressed_bytes, same_pressed_packs}
use Rattle.cdg_press.proofs.laws.pressed_streams_are_one.Goals as goal

pub returns-clause-packs : goal.returns-clause-packs
returns-clause-packs c sheet file lead_in audio one other packs others =
    same_pressed_packs sheet file lead_in audio one other packs others

pub returns-clause-bytes : goal.returns-clause-bytes
returns-clause-bytes c sheet file lead_in audio one other packs others =
    same_pressed_bytes sheet file lead_in audio one other packs others
