-- The steps of a stage that draws the packs of a stream.
use Rattle.std.specs.Prelude.{◌≡◌, ℕ, ◌+◌, ◌*◌, ◌<◌, ◌≤◌, List, length, Result, Err, IfOk, ◌≢◌}
use Rattle.std.specs.Io.KnownBytes.{Consumes, IsAtEnd}
use Rattle.cdg_io.specs.Change.{Fed}
use Rattle.cdg_io.specs.Pump.{units_of}
use Rattle.cdg_io.specs.Run.{run_state, then_second}
use Rattle.cdg_io.specs.declared.pumping.Pumped.{Pumped}
use Rattle.cdg_io.specs.declared.pumping.PumpStop.{PumpStop}
use Rattle.cdg_io.specs.declared.pumping.PumpStop.TheVariants.{WriteFault, Torn}
use Rattle.cdg_io.specs.declared.stage.Then.{Then}
use Rattle.raw_subcode.specs.Sizes.{block_bytes}
use Rattle.stream_stages.specs.Steps.{words_next, words_give}
use Rattle.stream_stages.specs.Drawn.{painting_next}
use Rattle.stream_stages.specs.declared.block_words.BlockWords.{BlockWords}
use Rattle.stream_stages.specs.declared.painting.Painting.{Painting}

-- the words of a stream and the screen that they draw, after a block
abbrev pub words_drawn : Then BlockWords Painting → List ℕ → Then BlockWords Painting
words_drawn s block = record {
  first = words_next s.first block;
  second = then_second painting_next s.second (words_give s.first block);
}

-- These bytes were read. If they are whole blocks to the end, the stage is in the last state of its run over them.
pub record TracksBlocks {S : Type 0} (limit : ℕ) (next : S → List ℕ → S) (fed : Fed S)
    (result : Result Pumped PumpStop) (taken : List ℕ) : Type 0 where
  pub taken_from : Consumes fed.left.before fed.left.after taken
  pub within : length taken ≤ limit * block_bytes + 1
  pub done : IfOk result
      (λ p. IsAtEnd fed.left.after × (length taken ≡ p.units * block_bytes) × (p.units ≤ limit)
      × (fed.state.after ≡ run_state next fed.state.before (units_of block_bytes p.units taken)))
  pub torn : (unit : ℕ) → result ≡ Err (Torn unit) → IsAtEnd fed.left.after × (unit < limit)
  pub no_write : result ≢ Err WriteFault
