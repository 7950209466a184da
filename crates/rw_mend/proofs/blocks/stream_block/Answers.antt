use Rattle.std.proofs.Common.{◌<◌, ◌+◌, ◌*◌, ℕ, ◌∙◌, [], get_or, length, sym, ap, arith, subst}
use Rattle.std.specs.Prelude.{None}
use Rattle.std.proofs.lemmas.List.FromFn.{get_or-map-range_with_len}
use Rattle.raw_subcode.specs.Channels.{symbols_of}
use Rattle.rw_mend.specs.Chosen.{IsChosen, channel_rule, channels_of, completed, symbol_or, symbol_rule}
use Rattle.rw_mend.specs.HeldReadings.{held_blocks}
use Rattle.rw_mend.specs.Symbols.{held_symbol, held_symbols}
use Rattle.rw_mend.proofs.HeldBlocks.{held_count}
use Rattle.rw_mend.proofs.Ranks.{any_symbols, chosen_same}
use Rattle.rw_mend.proofs.Standing.{held_small}
use Rattle.rw_mend.proofs.blocks.stream_block.Goals as goal

pub mixed_block-requires-clause-small : goal.mixed_block-requires-clause-small
mixed_block-requires-clause-small c k n lt =
    let words = c.args.words.now in
    let text = c.args.text.now in
    let b = c.args.b in
    subst (λ s. symbol_or s n < 64)
    (sym
    (ap (λ known. get_or known k None) c.symbols-known.ensures
    ∙ get_or-map-range_with_len (λ (j : ℕ). held_symbol words text (96 * b + j)) 0 96 k k None lt
    (omega arith)))
    (held_small words text (96 * b + k) n)

pub returns-then-are_all_mended : goal.returns-then-are_all_mended
returns-then-are_all_mended c =
    let blocks = held_blocks c.args.readings.now c.args.b in
    let known = held_symbols c.args.words.now c.args.text.now c.args.b in
    let some : 0 < length blocks =
    omega (arith, held_count c.args.readings.now c.args.b, c.requires.held.some) in
    record {
      channels =
          subst (IsChosen (channel_rule blocks) blocks)
          (ap channels_of (sym c.block-framed.ensures.block) ∙ sym (c.mended_block.ensures []).channels)
          c.chosen_channels.ensures.chosen;
      symbols =
          chosen_same (symbol_rule known blocks) blocks _
          (λ r lt. sym (c.mended_block.ensures (get_or blocks r [])).symbols) (any_symbols blocks some);
    }

pub returns : goal.returns
returns c =
    let blocks = held_blocks c.args.readings.now c.args.b in
    record {
      channels =
          subst (IsChosen (channel_rule blocks) blocks)
          (ap channels_of (sym c.block-framed.ensures.block) ∙ sym c.mixed_block.ensures.channels)
          c.chosen_channels.ensures.chosen;
      symbols =
          subst (λ k. IsChosen (symbol_rule k blocks) blocks (symbols_of c.mixed_block.result))
          c.symbols-known.ensures
          (subst (IsChosen (symbol_rule c.symbols-known.result blocks) blocks)
          (ap (completed c.symbols-known.result) (sym c.block-read.ensures.block)
          ∙ sym c.mixed_block.ensures.symbols)
          c.chosen_symbols.ensures.chosen);
    }
