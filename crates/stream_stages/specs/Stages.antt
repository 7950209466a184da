-- The parts of a stage: the one that gathers words, and the one that uses them.
use Rattle.cdg_io.specs.declared.stage.Then.{Then}
use Rattle.stream_stages.specs.declared.block_words.BlockWords.{BlockWords}
use Rattle.stream_stages.specs.declared.painting.Painting.{Painting}
use Rattle.stream_stages.specs.declared.counting.WordCounts.{WordCounts}

-- the part that gathers words
abbrev pub words_of : {G : Type 0} → Then BlockWords G → BlockWords
words_of s = s.first

-- the part that draws the packs
abbrev pub painting_of : Then BlockWords Painting → Painting
painting_of s = s.second

-- the part that counts the words
abbrev pub counts_of : Then BlockWords WordCounts → WordCounts
counts_of s = s.second
