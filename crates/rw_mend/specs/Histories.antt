-- What is known of the blocks under a word while a stream is mended.
use Rattle.std.specs.Prelude.{◌≡◌, ◌≢◌, ℕ, ◌+◌, ◌/◌, ◌%◌, ◌<◌, ◌≤◌, List}
use Rattle.rw_mend.specs.Words.{block_at, is_blank_block, is_unread_block}
use Rattle.rw_mend.specs.declared.cover.BlockHistory.{BlockHistory}

-- The history says whether each of the two or three blocks under word n is unread, and whether all its symbols are 0.
pub record IsHistory (program : List ℕ) (n : ℕ) (history : BlockHistory) : Type 0 where
  pub first : history.first ≡ is_unread_block (block_at program (n / 4))
  pub second : history.second ≡ is_unread_block (block_at program (n / 4 + 1))
  pub third : n % 4 ≢ 0 → history.third ≡ is_unread_block (block_at program (n / 4 + 2))
  pub first_blank : history.first_blank ≡ is_blank_block (block_at program (n / 4))
  pub second_blank : history.second_blank ≡ is_blank_block (block_at program (n / 4 + 1))
  pub third_blank : n % 4 ≢ 0 → history.third_blank ≡ is_blank_block (block_at program (n / 4 + 2))

-- From block `from` to before block `blocks`, the blocks of a program equal those of the first reading.
pub record AreSameFrom (first program : List ℕ) (blocks from : ℕ) : Type 0 where
  pub each : (b : ℕ) → from ≤ b → b < blocks → block_at program b ≡ block_at first b
