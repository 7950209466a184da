use Rattle.std.proofs.Common.{refl, arith}
use Rattle.cdg_checkpoint.specs.Checkpoint.{kept}
use Rattle.cdg_checkpoint.proofs.checkpointer.Checkpointer.keep.Goals as goal

pub returns : goal.returns
returns c =
    record {
      checkpoint = kept _ c.symbols-slots.result c.args.self.now.words.second.screen;
      to_come_is = omega (arith, c.min-read.ensures);
      lead_in_is = c.min-read.ensures;
      program_is = omega (arith, c.min-read.ensures);
      bad_is = refl;
      slots_are = c.symbols-slots.ensures;
      stands = refl;
      file_is = c.compose.ensures;
    }
