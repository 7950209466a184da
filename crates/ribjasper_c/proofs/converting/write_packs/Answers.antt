use Rattle.std.proofs.Common.{◌≡◌, ◌+◌, ◌++◌, ◌∙◌, List, ℕ, ap, drop, length, sym, arith, length-append}
use Rattle.cdg_io.specs.Pump.{given_bytes}
use Rattle.ribjasper_c.proofs.Conversions.{finished, piece_fits, put_more, stages_more, text_more, text_of}
use Rattle.ribjasper_c.proofs.converting.write_packs.Goals as goal

pub put-at-requires : goal.put-at-requires
put-at-requires c =
    let fits = piece_fits c.args.form c.args.lead_in c.args.stream.now c.loop-n.n c.args.units
    (length c.args.packs.now) c.loop-n.stages c.block_at.result c.take_unit.new.given c.requires.whole
    (omega arith)
    c.requires.room
    c.loop-n.invariant.stages c.block_at.ensures c.take_unit.ensures.gives in
    omega (arith, fits, c.loop-n.invariant.at, c.loop-n.auto.packs)

pub loop-n-preserved : goal.loop-n-preserved
loop-n-preserved c =
    let form = c.args.form in
    let lead_in = c.args.lead_in in
    let stream = c.args.stream.now in
    let n = c.loop-n.n in
    let piece = given_bytes c.take_unit.new.given in
    let text = text_of form lead_in stream n in
    let more : text_of form lead_in stream (n + 1) ≡ text ++ piece =
    text_more form lead_in stream n c.loop-n.stages c.block_at.result c.take_unit.new.given
    c.loop-n.invariant.stages
    c.block_at.ensures c.take_unit.ensures.gives in
    let fits = piece_fits form lead_in stream n c.args.units
    (length c.args.packs.now) c.loop-n.stages c.block_at.result c.take_unit.new.given c.requires.whole
    (omega arith) c.requires.room c.loop-n.invariant.stages c.block_at.ensures c.take_unit.ensures.gives in
    let size : length (text ++ piece) ≡ length (text_of form lead_in stream (n + 1)) = ap length (sym more) in
    record {
      stages =
          stages_more form lead_in stream n c.loop-n.stages c.take_unit.new.self c.block_at.result
          c.loop-n.invariant.stages c.block_at.ensures c.take_unit.ensures.next;
      at = omega (arith, c.loop-n.invariant.at, c.put-at.ensures.count, size, length-append text piece);
      packs =
          put_more text piece c.args.packs.now c.loop-n.packs c.put-at.new.packs c.loop-n.at
          c.loop-n.invariant.at fits c.loop-n.invariant.packs c.put-at.ensures.written
          ∙ ap (λ (t : List ℕ). t ++ drop (length t) c.args.packs.now) (sym more);
    }

pub returns : goal.returns
returns c =
    finished c.args.form c.args.lead_in c.args.stream.now c.args.units c.loop-n.n c.loop-n.packs
    c.args.packs.now c.loop-n.stages c.requires.few c.requires.whole (omega arith) c.loop-n.invariant.stages
    c.loop-n.invariant.packs
