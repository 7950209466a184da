use Rattle.std.proofs.Common.{◌≡◌, ◌++◌, rules, arith, ◌∙◌, ap, length, length-append}
use Rattle.rw_interleave.specs.Gathering.{gather_gives, gather_next}
use Rattle.rw_interleave.proofs.Windows.{alone_put, joined_at, joined_put, put_symbols, slot_gives, slot_state, slot_symbols, start}
use Rattle.rw_interleave.proofs.gather.Gather.push.Goals as goal

pub returns : goal.returns
returns c =
    let before = c.self.inside.early ++ c.self.inside.late in
    let word = c.alone-block.ensures.word in
    let after =
    alone_put c.row_of-row.result c.alone-block.result c.args.slot.now word c.row_of-row.ensures.block
    c.alone-block.ensures.symbols in
    let moved =
    joined_at c.three_slots-self-inside.result c.four_slots-self-inside.result c.row_of-row.result 24
    (search rules) c.three_slots-self-inside.ensures c.four_slots-self-inside.ensures in
    record {
      next =
          let state =
          slot_state (c.self.inside.early ++ c.self.inside.late) c.row_of-row.result
          (c.three_slots-self-inside.result ++ c.four_slots-self-inside.result) c.args.slot.now
          c.self.inside.count c.self.invariant.few word
          c.row_of-row.ensures.before after moved in
          ap (start (c.three_slots-self-inside.result ++ c.four_slots-self-inside.result)) (search rules)
          ∙ state
          ∙ ap (λ w. gather_next w c.args.slot.now) c.self.view_is;
      gives =
          let put =
          joined_put c.self.inside.early c.self.inside.late c.symbols_of.result c.alone-block.result
          (search rules) (search rules) c.symbols_of.ensures in
          c.last_word-word.ensures
          ∙ slot_gives (c.self.inside.early ++ c.self.inside.late)
          (c.self.inside.early ++ (c.self.inside.late ++ c.symbols_of.result)) c.args.slot.now
          c.self.inside.count c.self.invariant.few word put.before
          (alone_put (c.self.inside.early ++ (c.self.inside.late ++ c.symbols_of.result)) c.alone-block.result
          c.args.slot.now word put.after c.alone-block.ensures.symbols)
          ∙ ap (λ w. gather_gives w c.args.slot.now) c.self.view_is;
    }

pub invariant_of-self : goal.invariant_of-self
invariant_of-self c =
    let word = c.alone-block.ensures.word in
    let after =
    alone_put c.row_of-row.result c.alone-block.result c.args.slot.now word c.row_of-row.ensures.block
    c.alone-block.ensures.symbols in
    let early_size : length c.three_slots-self-inside.result ≡ 72 = search rules in
    let late_size : length c.four_slots-self-inside.result ≡ 96 = search rules in
    let moved =
    joined_at c.three_slots-self-inside.result c.four_slots-self-inside.result c.row_of-row.result 24
    early_size c.three_slots-self-inside.ensures c.four_slots-self-inside.ensures in
    record {
      size = omega (
        arith,
        early_size,
        late_size,
        length-append c.three_slots-self-inside.result c.four_slots-self-inside.result,
      );
      few = omega (arith, c.min-self-inside.ensures);
      symbols =
          slot_symbols (c.self.inside.early ++ c.self.inside.late) c.row_of-row.result
          (c.three_slots-self-inside.result ++ c.four_slots-self-inside.result) c.args.slot.now
          c.self.invariant.symbols word
          c.row_of-row.ensures.before after moved;
      full = λ yes. absurd (cc);
      zeros = λ yes. absurd (cc);
    }

pub last_word-word-requires-clause-symbols : goal.last_word-word-requires-clause-symbols
last_word-word-requires-clause-symbols c =
    let put =
    joined_put c.self.inside.early c.self.inside.late c.symbols_of.result c.alone-block.result (search rules)
    (search rules) c.symbols_of.ensures in
    put_symbols (c.self.inside.early ++ c.self.inside.late)
    (c.self.inside.early ++ (c.self.inside.late ++ c.symbols_of.result)) c.alone-block.result
    c.self.invariant.symbols put
