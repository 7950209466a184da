use Rattle.std.proofs.Common.{◌*◌, ◌<◌, ap₂, sym, subst, ◌∙◌, bit_xor, rules}
use Rattle.std.specs.Prelude.{slice_index}
use Rattle.std.specs.Int.{bytes_low_first}
use Rattle.cdg_screen.proofs.Lines.{colour-lt, colour_fits, colours_fit, pixels_are}
use Rattle.cdg_screen.proofs.memory.line_pixels.Goals as goal

pub returns-clause-pixels : goal.returns-clause-pixels
returns-clause-pixels c =
    let small0 : slice_index c.args.colours 0 < 16 = search rules in
    let small1 : slice_index c.args.colours 1 < 16 = search rules in
    pixels_are c.line_bits.result c.line_bits-2.result (slice_index c.args.colours 0)
    (slice_index c.args.colours 1) c.args.line c.to_le_bytes.result c.line_bits.ensures.bound
    c.line_bits.ensures.bits
    c.line_bits-2.ensures.bound c.line_bits-2.ensures.bits small0 small1
    (c.to_le_bytes.ensures
    ∙ ap₂ (λ a b. bytes_low_first 0 8 (bit_xor (c.line_bits.result * a) (c.line_bits-2.result * b)))
    c.from.ensures c.from-2.ensures)

pub returns-clause-range : goal.returns-clause-range
returns-clause-range c i lt =
    let small0 : slice_index c.args.colours 0 < 16 = search rules in
    let small1 : slice_index c.args.colours 1 < 16 = search rules in
    rw (returns-clause-pixels c i lt)
    (colour-lt (slice_index c.args.colours 0) (slice_index c.args.colours 1) c.args.line i small0 small1)

pub overflow_mul-clear : goal.overflow_mul-clear
overflow_mul-clear c =
    let small0 : slice_index c.args.colours 0 < 16 = search rules in
    colour_fits c.line_bits.result c.from.result c.line_bits.ensures.bound
    (subst (λ colour. colour < 16) (sym c.from.ensures) small0)

pub overflow_mul-turned : goal.overflow_mul-turned
overflow_mul-turned c =
    let small0 : slice_index c.args.colours 0 < 16 = search rules in
    let small1 : slice_index c.args.colours 1 < 16 = search rules in
    colours_fit c.line_bits-2.result (slice_index c.args.colours 0) (slice_index c.args.colours 1)
    c.from-2.result c.line_bits-2.ensures.bound small0 small1 c.from-2.ensures
