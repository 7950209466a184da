use Rattle.std.proofs.Common.{◌≡◌, ◌<◌, ◌≤◌, length, take, refl, sym, ◌∙◌, arith, rules, length-take-le}
use Rattle.cdg_io.proofs.Stops.{if_no_value, on_err}
use Rattle.cdg_io.proofs.ReadStops.{read_failed, read_full, read_of_size}
use Rattle.cdg_io.proofs.PumpSteps.{Consumes-filled}
use Rattle.cdg_io.proofs.pumping.feed_filled.Goals as goal

pub returns-then-filled-SIZE-clause-feeds : goal.returns-then-filled-SIZE-clause-feeds
returns-then-filled-SIZE-clause-feeds g c =
    let read = c.in_ok-filled.ensures in
    let room : length c.fill.new.buf ≡ g.G.UnitStage.SIZE = search (rules, c.SIZE.ensures) in
    let few : c.in_ok-filled.filled < g.G.UnitStage.SIZE =
    omega (arith, c.SIZE-2.ensures, c.if-filled-SIZE.true) in
    let count : length (take c.in_ok-filled.filled c.fill.new.buf) ≡ c.in_ok-filled.filled =
    length-take-le c.in_ok-filled.filled c.fill.new.buf (omega (arith, room, few)) in (
      take c.in_ok-filled.filled c.fill.new.buf,
      count,
      record {
        taken_from = read.ok;
        step = λ whole. absurd (omega (arith, count, whole, few));
        gave = λ whole. absurd (omega (arith, count, whole, few));
        stays = λ short. refl;
        ended = λ short. read.end (omega (arith, room, few));
      },
    )

pub returns-clause-feeds : goal.returns-clause-feeds
returns-clause-feeds g c =
    let room : length c.fill.new.buf ≡ g.G.UnitStage.SIZE = search (rules, c.SIZE.ensures) in
    let full : g.G.UnitStage.SIZE ≤ c.in_ok-filled.filled =
    omega (arith, c.SIZE-2.ensures, c.if-filled-SIZE.false) in (
      c.fill.new.buf,
      room ∙ sym c.SIZE-3.ensures,
      record {
        taken_from = Consumes-filled _ _ _ _ _ room full c.in_ok-filled.ensures.ok;
        step = λ whole. c.take_unit.ensures.next;
        gave = λ whole. c.take_unit.ensures.gives;
        stays = λ short. absurd (omega (arith, room, short));
        ended = λ short. absurd (omega (arith, room, short));
      },
    )

pub returns-in_err-filled-clause-feeds : goal.returns-in_err-filled-clause-feeds
returns-in_err-filled-clause-feeds g c = if_no_value _ c.from_residual.result c.from_residual.ensures.0

pub returns-in_err-filled-clause-stays : goal.returns-in_err-filled-clause-stays
returns-in_err-filled-clause-stays g c = on_err c.from_residual.result refl

pub returns-then-filled-SIZE-clause-stays : goal.returns-then-filled-SIZE-clause-stays
returns-then-filled-SIZE-clause-stays g c = tt

pub returns-clause-stays : goal.returns-clause-stays
returns-clause-stays g c = tt

pub returns-in_err-filled-clause-reads : goal.returns-in_err-filled-clause-reads
returns-in_err-filled-clause-reads g c =
    read_failed _ _ _ _ _ _ c.from_residual.result c.in_err-filled.ensures.reads c.from_residual.ensures.0
    (search (rules, c.SIZE.ensures))

pub returns-then-filled-SIZE-clause-reads : goal.returns-then-filled-SIZE-clause-reads
returns-then-filled-SIZE-clause-reads g c =
    read_of_size _ _ _ _ _ _ c.in_ok-filled.ensures.reads (search (rules, c.SIZE.ensures))

pub returns-clause-reads : goal.returns-clause-reads
returns-clause-reads g c =
    read_full _ _ _ _ _ _ c.SIZE-2.result c.SIZE-3.result c.in_ok-filled.ensures.reads
    (search (rules, c.SIZE.ensures)) c.SIZE-2.ensures c.if-filled-SIZE.false c.SIZE-3.ensures
