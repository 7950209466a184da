use Rattle.std.proofs.Common.{ℕ, List, subst}
use Rattle.std.proofs.lemmas.Result.{on_err_weaker}
use Rattle.cdg_io.specs.Change.{change}
use Rattle.stream_writer.specs.Given.{PutsStreamPart, framing_of}
use Rattle.subcode_author.specs.Inputs.{PackOf}
use Rattle.subcode_author.proofs.author.StreamInputs.write.Goals as goal

pub returns-clause-part : goal.returns-clause-part
returns-clause-part g c =
    on_err_weaker c.write_stream.result
    (λ part. (
      part.0,
      part.1,
      subst
          (λ (texts : List (List ℕ)). PutsStreamPart
          (framing_of c.args.self.layout texts c.args.lead_in) (PackOf c.args.self.source.weaver)
          (change g.K.Sink.held c.args.out.now c.write_stream.new.out) part.0 part.1)
          c.deref.ensures.value part.2,
    ))
    c.write_stream.ensures.part
