use Rattle.std.proofs.Common.{◌≡◌, ◌∙◌, arith}
use Rattle.stream_stages.proofs.Blocks.{raw_state, raw_gives, taken_next, taken_gives}
use Rattle.stream_stages.proofs.block_words.BlockWords.stays_idle.Goals as goal

pub returns-in-Raw : goal.returns-in-Raw
returns-in-Raw c = λ _.
    let yes = c.if-not-stays_idle.false in
    let s = c.args.self.now in
    let block = c.args.block.now in
    let none : s.lead_in ≡ 0 = omega (arith, c.if-self-gt0.false) in (
      taken_next s block s.gather none
          (c.stays_idle.ensures.next yes ∙ raw_state s.form s.gather block c.in-Raw.is c.told-block),
      taken_gives s block _ none
          (c.stays_idle.ensures.gives yes ∙ raw_gives s.form s.gather block c.in-Raw.is c.told-block),
    )
