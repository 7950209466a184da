use Rattle.cdg_screen.specs.Texts.{pixmap, state_text}
use Rattle.stream_stages.proofs.OneText.{one_conversion, one_showing, one_check, one_q_list, one_text_list}
use Rattle.stream_stages.proofs.played.one_text_is_written.Goals as goal

pub returns-clause-converted : goal.returns-clause-converted
returns-clause-converted c = one_conversion c.each_word_has_one_finding.ensures.only

pub returns-clause-screen : goal.returns-clause-screen
returns-clause-screen c =
    one_showing c.each_word_has_one_finding.ensures.only c.only_one_meaning.ensures pixmap

pub returns-clause-state : goal.returns-clause-state
returns-clause-state c =
    one_showing c.each_word_has_one_finding.ensures.only c.only_one_meaning.ensures state_text

pub returns-clause-checked : goal.returns-clause-checked
returns-clause-checked c = one_check c.each_word_has_one_finding.ensures.only c.readings_are_functions.ensures

pub returns-clause-frames : goal.returns-clause-frames
returns-clause-frames c = one_q_list c.readings_are_functions.ensures

pub returns-clause-texts : goal.returns-clause-texts
returns-clause-texts c = one_text_list
