use Rattle.std.proofs.Common.{◌≡◌, ◌++◌, rules, arith, ◌∙◌, ap, length, length-append}
use Rattle.cdg_io.specs.Run.{run_state}
use Rattle.rw_interleave.specs.Gathering.{gather_next}
use Rattle.rw_interleave.specs.Windows.{slots_in}
use Rattle.rw_interleave.proofs.Windows.{IsPut, start, block_state, joined_moved, joined_put, put_symbols, moved_symbols}
use Rattle.rw_interleave.proofs.gather.Gather.move_up.Goals as goal

pub returns : goal.returns
returns c =
    let put : IsPut (c.self.inside.early ++ c.self.inside.late)
    (c.self.inside.early ++ (c.self.inside.late ++ c.symbols_of-symbols.result)) c.args.block.now =
    joined_put c.self.inside.early c.self.inside.late c.symbols_of-symbols.result c.args.block.now
    (search rules) (search rules) c.symbols_of-symbols.ensures in
    let moved =
    joined_moved c.self.inside.early c.self.inside.late c.last_three-self-inside.result
    c.symbols_of-symbols.result (search rules) (search rules) (search rules)
    c.last_three-self-inside.ensures in
    let state =
    block_state (c.self.inside.early ++ c.self.inside.late)
    (c.self.inside.early ++ (c.self.inside.late ++ c.symbols_of-symbols.result))
    (c.last_three-self-inside.result ++ c.symbols_of-symbols.result) c.args.block.now c.self.inside.count
    c.self.invariant.few put moved in
    ap (start (c.last_three-self-inside.result ++ c.symbols_of-symbols.result)) (search rules)
    ∙ state ∙ ap (λ w. run_state gather_next w (slots_in c.args.block.now 0 4)) c.self.view_is

pub invariant_of-self : goal.invariant_of-self
invariant_of-self c =
    let three_size : length c.last_three-self-inside.result ≡ 72 = search rules in
    let four_size : length c.symbols_of-symbols.result ≡ 96 = search rules in
    let put : IsPut (c.self.inside.early ++ c.self.inside.late)
    (c.self.inside.early ++ (c.self.inside.late ++ c.symbols_of-symbols.result)) c.args.block.now =
    joined_put c.self.inside.early c.self.inside.late c.symbols_of-symbols.result c.args.block.now
    (search rules) (search rules) c.symbols_of-symbols.ensures in
    let moved =
    joined_moved c.self.inside.early c.self.inside.late c.last_three-self-inside.result
    c.symbols_of-symbols.result (search rules) (search rules) (search rules)
    c.last_three-self-inside.ensures in
    record {
      size = omega (
        arith,
        three_size,
        four_size,
        length-append c.last_three-self-inside.result c.symbols_of-symbols.result,
      );
      few = omega (arith, c.min-self-inside.ensures);
      symbols =
          moved_symbols (c.self.inside.early ++ (c.self.inside.late ++ c.symbols_of-symbols.result))
          (c.last_three-self-inside.result ++ c.symbols_of-symbols.result) (put_symbols
          (c.self.inside.early ++ c.self.inside.late)
          (c.self.inside.early ++ (c.self.inside.late ++ c.symbols_of-symbols.result)) c.args.block.now
          c.self.invariant.symbols put) moved;
      full = search rules;
      zeros = search rules;
    }
