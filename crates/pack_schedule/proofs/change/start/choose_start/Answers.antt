use Rattle.std.proofs.Common.{arith}
use Rattle.pack_schedule.proofs.SameTileLaws.{all_reported, same_chosen, same_length, same_steps, same_weights, undrawn_same}
use Rattle.pack_schedule.proofs.change.start.choose_start.Goals as goal

pub returns-then-eq-clause-preset : goal.returns-then-eq-clause-preset
returns-then-eq-clause-preset c =
    let pos = c.if-k-gt0-2.true in
    let same =
    all_reported c.args.before.now.pixels c.args.now.now.pixels c.same_tiles-same.result c.eq.result
    c.same_tiles-same.ensures c.eq.ensures c.if-eq.true in
    same_chosen c.args.script.now c.args.k pos
    (same_steps c.args.script.now c.args.k c.args.before.now c.args.now.now (c.requires.before pos)
    c.requires.now same)

pub returns-then-eq-clause-need : goal.returns-then-eq-clause-need
returns-then-eq-clause-need c =
    let pos = c.if-k-gt0-2.true in
    let same =
    all_reported c.args.before.now.pixels c.args.now.now.pixels c.same_tiles-same.result c.eq.result
    c.same_tiles-same.ensures c.eq.ensures c.if-eq.true in
    same_length c.args.script.now c.args.k c.count_settings-beside.result
    c.count_settings-beside.ensures.count
    (same_steps c.args.script.now c.args.k c.args.before.now c.args.now.now (c.requires.before pos)
    c.requires.now same)

pub returns-then-eq-clause-weights : goal.returns-then-eq-clause-weights
returns-then-eq-clause-weights c =
    let pos = c.if-k-gt0-2.true in
    let same =
    all_reported c.args.before.now.pixels c.args.now.now.pixels c.same_tiles-same.result c.eq.result
    c.same_tiles-same.ensures c.eq.ensures c.if-eq.true in
    same_weights c.args.script.now c.args.k c.args.before.now c.args.now.now c.args.weights.now
    (c.requires.before pos) c.requires.now same
    (c.requires.weights pos)

pub returns-then-are_undrawn-clause-preset : goal.returns-then-are_undrawn-clause-preset
returns-then-are_undrawn-clause-preset c =
    let pos = c.if-k-gt0.true in
    same_chosen c.args.script.now c.args.k pos
    (same_steps c.args.script.now c.args.k c.args.before.now c.args.now.now (c.requires.before pos)
    c.requires.now
    (undrawn_same c.args.script.now c.args.k c.args.before.now c.args.now.now c.drawn_rows-drawn.result
    (omega (arith, c.drawn_rows-drawn.type_inv)) (c.requires.before pos) c.requires.now
    c.drawn_rows-drawn.ensures.keeps
    (c.are_undrawn.ensures.0 c.if-are_undrawn.true)))

pub returns-then-are_undrawn-clause-need : goal.returns-then-are_undrawn-clause-need
returns-then-are_undrawn-clause-need c =
    let pos = c.if-k-gt0.true in
    same_length c.args.script.now c.args.k c.count_settings-beside.result
    c.count_settings-beside.ensures.count
    (same_steps c.args.script.now c.args.k c.args.before.now c.args.now.now (c.requires.before pos)
    c.requires.now
    (undrawn_same c.args.script.now c.args.k c.args.before.now c.args.now.now c.drawn_rows-drawn.result
    (omega (arith, c.drawn_rows-drawn.type_inv)) (c.requires.before pos) c.requires.now
    c.drawn_rows-drawn.ensures.keeps
    (c.are_undrawn.ensures.0 c.if-are_undrawn.true)))

pub returns-then-are_undrawn-clause-weights : goal.returns-then-are_undrawn-clause-weights
returns-then-are_undrawn-clause-weights c =
    let pos = c.if-k-gt0.true in
    same_weights c.args.script.now c.args.k c.args.before.now c.args.now.now c.args.weights.now
    (c.requires.before pos) c.requires.now
    (undrawn_same c.args.script.now c.args.k c.args.before.now c.args.now.now c.drawn_rows-drawn.result
    (omega (arith, c.drawn_rows-drawn.type_inv)) (c.requires.before pos) c.requires.now
    c.drawn_rows-drawn.ensures.keeps
    (c.are_undrawn.ensures.0 c.if-are_undrawn.true))
    (c.requires.weights pos)
