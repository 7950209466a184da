use Rattle.live_player.proofs.LiveViews.{idle_words_counted, idle_words_drawn}
use Rattle.live_player.proofs.drawing.idle_words_draw_nothing.Goals as goal

pub returns-clause-drawn : goal.returns-clause-drawn
returns-clause-drawn c = idle_words_drawn _ c.what_stands_is_whole.ensures c.idle_is_codeword.ensures

pub returns-clause-bad : goal.returns-clause-bad
returns-clause-bad c = idle_words_counted c.idle_is_codeword.ensures
