use Rattle.std.proofs.Common.{◌≡◌, ◌*◌, ◌+◌, refl, subst, ◌∙◌, arith}
use Rattle.stream_writer.specs.Given.{ComesLater}
use Rattle.stream_writer.proofs.MadeBlocks.{program_made}
use Rattle.stream_writer.proofs.Pieces.{on_err}
use Rattle.stream_writer.proofs.Slots.{none_later, later_more}
use Rattle.stream_writer.proofs.Quiet.{start_quiet}
use Rattle.stream_writer.proofs.Programs.{none_done, block_more, part_more, all_done}
use Rattle.stream_writer.proofs.stream.put_program.Goals as goal

pub loop-b-init : goal.loop-b-init
loop-b-init g c = record {
  done =
      none_done c.args.layout.now (g.P.PackSource.comes c.args.source.now) (g.K.Sink.held c.args.out.now)
      c.args.spread.now c.requires;
  quiet = start_quiet c.args.spread.now c.requires;
  later = none_later _;
  same = refl;
}

pub returns-in_err-put_all-clause-part : goal.returns-in_err-put_all-clause-part
returns-in_err-put_all-clause-part g c =
    let so_far = c.loop-b.invariant in
    let layout = c.args.layout.now in
    let made =
    program_made layout c.loop-b.b c.p_bit.result c.program_frame.result c.next_symbols.new.symbols
    c.built-block.result c.p_bit.ensures c.program_frame.ensures.frame c.built-block.ensures.bytes
    c.built-block.ensures.built in
    on_err c.from_residual.result _
    (part_more layout (g.P.PackSource.comes c.args.source.now) (g.P.PackSource.comes c.loop-b.source)
    c.loop-b.b (g.K.Sink.held c.args.out.now) (g.K.Sink.held c.loop-b.out) _
    c.loop-b.spread c.next_symbols.new.spread c.next_symbols.new.symbols c.built-block.result
    so_far.done (omega (arith, c.blocks-blocks.ensures.blocks)) so_far.later
    c.next_symbols.ensures.symbols
    made.bytes c.in_err-put_all.ensures.part
    (g.P.PackSource.comes c.next_symbols.new.source) c.next_symbols.ensures.later)

pub loop-b-preserved : goal.loop-b-preserved
loop-b-preserved g c =
    let so_far = c.loop-b.invariant in
    let layout = c.args.layout.now in
    let made =
    program_made layout c.loop-b.b c.p_bit.result c.program_frame.result c.next_symbols.new.symbols
    c.built-block.result c.p_bit.ensures c.program_frame.ensures.frame c.built-block.ensures.bytes
    c.built-block.ensures.built in
    record {
      done =
          block_more layout (g.P.PackSource.comes c.args.source.now) (g.P.PackSource.comes c.loop-b.source)
          c.loop-b.b (g.K.Sink.held c.args.out.now) (g.K.Sink.held c.loop-b.out) _
          c.loop-b.spread c.next_symbols.new.spread c.next_symbols.new.symbols c.built-block.result
          so_far.done so_far.later
          c.next_symbols.ensures.symbols
          made.bytes made.built c.in_ok-put_all.ensures.ok;
      quiet = c.next_symbols.ensures.quiet;
      later =
          later_more (g.P.PackSource.comes c.args.source.now) (g.P.PackSource.comes c.loop-b.source)
          (g.P.PackSource.comes c.next_symbols.new.source) (4 * c.loop-b.b) 4 (4 * (c.loop-b.b + 1))
          so_far.later c.next_symbols.ensures.later (omega arith);
      same = c.in_ok-put_all.ensures.cause.same ∙ so_far.same;
    }

pub returns-clause-ok : goal.returns-clause-ok
returns-clause-ok g c =
    all_done _ _ c.loop-b.b _ _ _ _ c.loop-b.invariant.done (omega (arith, c.blocks-blocks.ensures.blocks))

pub returns-clause-taken : goal.returns-clause-taken
returns-clause-taken g c =
    let all : 4 * c.loop-b.b ≡ 4 * c.args.layout.now.blocks = omega (arith, c.blocks-blocks.ensures.blocks) in
    subst (λ n. ComesLater (g.P.PackSource.comes c.args.source.now) n (g.P.PackSource.comes c.loop-b.source))
    all
    c.loop-b.invariant.later
