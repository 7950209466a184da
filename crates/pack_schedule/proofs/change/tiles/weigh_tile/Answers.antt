use Rattle.std.proofs.Common.{◌≡◌, ◌≢◌, ℕ, ◌+◌, ◌-◌, ◌/◌, ◌%◌, ap, sym, subst, ◌∙◌, arith, get_or}
use Rattle.std.proofs.lemmas.List.{get_or-set_other}
use Rattle.tile_author.specs.Plan.{weight}
use Rattle.picture_script.specs.Board.{tile_of}
use Rattle.picture_script.specs.Script.{picture_tile}
use Rattle.pack_schedule.specs.Weights.{IsWeighed, not_weighed}
use Rattle.pack_schedule.proofs.SameTileLaws.{light_tile, same_picture_tile, steps_self}
use Rattle.pack_schedule.proofs.change.tiles.weigh_tile.Goals as goal
use Rattle.pack_schedule.proofs.change.tiles.weigh_tile.Goals.{else-k-gt0-via-then-k-gt0+else-is_same_tile, else-k-gt0-via-else-k-gt0}

pub returns-then-is_same_tile-clause-taken : goal.returns-then-is_same_tile-clause-taken
returns-then-is_same_tile-clause-taken c pos =
    let script = c.args.script.now in
    let row : ℕ = c.args.i / 48 + 1 in
    let column : ℕ = c.args.i % 48 + 1 in
    let same =
    same_picture_tile script c.args.k row column c.args.before.now c.args.now.now (omega arith) (omega arith)
    (omega arith) (omega arith) (c.requires.before pos) c.requires.now
    (c.is_same_tile.ensures.0 c.if-is_same_tile.true) in
    sym (steps_self (picture_tile script (c.args.k - 1) row column) (picture_tile script c.args.k row column)
    same)

pub returns-then-is_same_tile-clause-kept : goal.returns-then-is_same_tile-clause-kept
returns-then-is_same_tile-clause-kept c =
    let pos = c.if-k-gt0.true in
    let same =
    same_picture_tile c.args.script.now c.args.k (c.args.i / 48 + 1) (c.args.i % 48 + 1) c.args.before.now
    c.args.now.now (omega arith) (omega arith) (omega arith) (omega arith) (c.requires.before pos)
    c.requires.now
    (c.is_same_tile.ensures.0 c.if-is_same_tile.true) in
    subst (λ t. IsWeighed t (get_or c.args.weights.now c.args.i not_weighed)) same (c.requires.kept pos)

pub returns-then-kept-eq1-clause-taken : goal.returns-then-kept-eq1-clause-taken
returns-then-kept-eq1-clause-taken c pos =
    let row : ℕ = c.args.i / 48 + 1 in
    let column : ℕ = c.args.i % 48 + 1 in
    let differ : tile_of c.args.before.now.pixels row column ≢ tile_of c.args.now.now.pixels row column =
    λ same. elim c.else-k-gt0.branch [
      | else-k-gt0-via-then-k-gt0+else-is_same_tile w ↦
          absurd (cc (w.if-is_same_tile.false, w.is_same_tile.ensures.1 same))
      | else-k-gt0-via-else-k-gt0 w ↦ absurd (omega (arith, w.if-k-gt0.false, pos))
    ] in
    let light : weight (tile_of c.args.now.now.pixels row column) ≡ 1 =
    ap weight (sym c.tile-new.ensures.tile) ∙ sym c.weigh-kept.ensures.weight ∙ c.if-kept-eq1.true in
    light_tile c.light_tiles_take_one.ensures c.args.script.now c.args.k row column c.args.before.now
    c.args.now.now (omega arith) (omega arith) (omega arith) (omega arith) (c.requires.before pos)
    c.requires.now differ light

pub returns-then-kept-eq1-clause-others : goal.returns-then-kept-eq1-clause-others
returns-then-kept-eq1-clause-others c m other =
    get_or-set_other c.args.weights.now c.args.i m c.weigh-kept.result not_weighed other

pub returns-clause-others : goal.returns-clause-others
returns-clause-others c m other =
    get_or-set_other c.args.weights.now c.args.i m c.weigh-kept.result not_weighed other
