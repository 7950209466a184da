use Rattle.std.proofs.Common.{◌≡◌, take, sym, ap, ◌∙◌, subst, arith, rules}
use Rattle.std.specs.Io.KnownBytes.{Consumes}
use Rattle.std.proofs.lemmas.List.{take_all}
use Rattle.rw_merge.proofs.PairReads.{asks_as}
use Rattle.rw_merge.proofs.blocks.next_block.Goals as goal

pub returns-then-feed_at_hand-clause-asks : goal.returns-then-feed_at_hand-clause-asks
returns-then-feed_at_hand-clause-asks g c =
    let fed = c.feed_at_hand.ensures in
    let counts = fed.counts c.if-feed_at_hand.true in
    let (unit, size, consumed, stage_is, given_is) = fed.fed c.if-feed_at_hand.true in
    let whole : take 96 c.feed_at_hand.new.stage.bytes ≡ unit =
    ap (take 96) (ap (λ k. k.bytes) stage_is) ∙ take_all 96 unit (omega (arith, size)) in
    record {
      size_is = search rules;
      within = omega arith;
      took =
          subst (Consumes (g.S.Source.left c.args.source.now) (g.S.Source.left c.feed_at_hand.new.self))
          (sym whole)
          consumed;
      end = λ short. absurd (omega (arith, short));
      part = tt;
      cause = record { later = omega (arith, fed.faults); failed = tt; same = fed.faults };
      counts = record {
        end = record {
          ended = λ short. absurd (omega (arith, short));
          goes_on = λ _. counts.unreported;
          failed = tt;
        };
        room = record {
          full = λ _. counts.full.1 (omega arith);
          short = λ short. absurd (omega (arith, short));
          failed = tt;
        };
      };
    }

pub returns-clause-asks : goal.returns-clause-asks
returns-clause-asks g c =
    let done = c.fill.ensures in
    asks_as g.S.Source _ _ _ c.fill.result 96
    c.args.block.now c.fill.new.buf (c.feed_at_hand.ensures.none c.if-feed_at_hand.false).0 c.told-block
    (c.fill.auto.buf ∙ c.told-block) done.ok done.end done.reads
