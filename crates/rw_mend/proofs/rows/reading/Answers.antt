use Rattle.rw_mend.specs.Words.{reading_at}
use Rattle.rw_mend.proofs.rows.reading.Goals as goal

pub returns : goal.returns
unfolding reading_at
returns c = cc (c.word_at.ensures, c.coverage.ensures c.args.program.now c.requires.history)
