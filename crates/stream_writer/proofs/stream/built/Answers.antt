use Rattle.std.proofs.Common.{sym, subst, ◌∙◌}
use Rattle.q_channel.specs.QFrame.{IsFrame}
use Rattle.stream_writer.specs.Blocks.{bits_of_frame, IsBuilt}
use Rattle.stream_writer.proofs.Built.{made_of}
use Rattle.stream_writer.proofs.stream.built.Goals as goal

pub returns-clause-bytes : goal.returns-clause-bytes
unfolding bits_of_frame
returns-clause-bytes c =
    c.bytes.ensures.bytes
    ∙ made_of c.args.p (bits_of_frame c.args.frame.now) c.args.symbols.now c.build.result c.bytes.ensures.size
    c.bytes.ensures.small
    c.build.ensures.p (c.build.ensures.q ∙ c.encode.ensures.spelling) c.build.ensures.symbols

pub returns-clause-built : goal.returns-clause-built
returns-clause-built c =
    subst (λ block. IsBuilt block c.args.p c.args.frame.now c.args.symbols.now) (sym c.bytes.ensures.bytes)
    (record {
      size = c.bytes.ensures.size;
      are_bytes = c.bytes.ensures.small;
      channels = record {
        p = c.build.ensures.p;
        q = subst (IsFrame c.args.frame.now) (sym c.build.ensures.q) c.encode.ensures;
      };
      carried = c.build.ensures.symbols;
    })
