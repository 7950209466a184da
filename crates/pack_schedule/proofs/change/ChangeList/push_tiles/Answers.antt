use Rattle.std.proofs.Common.{◌≡◌, ◌∙◌, ℕ, ◌+◌, ◌-◌, ◌/◌, ◌%◌, [], ◌++◌, ap, sym, arith, append-nil}
use Rattle.picture_script.specs.Script.{picture_tile}
use Rattle.pack_schedule.specs.Change.{tiles_before}
use Rattle.pack_schedule.proofs.SameTileLaws.{before_none, later_start, plan_self, same_picture_tile, start_none}
use Rattle.tile_author.specs.Plan.{plan}
use Rattle.pack_schedule.proofs.PlanLists.{plans_none, plans_more, plans_all}
use Rattle.pack_schedule.proofs.change.ChangeList.push_tiles.Goals as goal

pub loop-i-init : goal.loop-i-init
loop-i-init c =
    (plans_none c.args.script.now c.args.k c.args.preset c.args.self.now, omega (arith, c.requires.few))

pub loop-i-preserved : goal.loop-i-preserved
loop-i-preserved c =
    let row = c.loop-i.i / 48 + 1 in
    let column = c.loop-i.i % 48 + 1 in (
      plans_more c.args.script.now c.args.k c.loop-i.i c.args.preset c.args.self.now c.loop-i.self
          c.push_tile.new.self c.loop-i.invariant.0
          c.push_tile.ensures.whole,
      omega (arith, c.push_tile.ensures.few, c.loop-i.invariant.1),
    )

pub returns : goal.returns
returns c =
    plans_all c.args.script.now c.args.k c.loop-i.i c.args.preset c.args.self.now c.loop-i.self (omega arith)
    c.loop-i.invariant.0

pub loop-i-preserved-then-is_same_tile : goal.loop-i-preserved-then-is_same_tile
loop-i-preserved-then-is_same_tile c =
    let script = c.args.script.now in
    let k = c.args.k in
    let row : ℕ = c.loop-i.i / 48 + 1 in
    let column : ℕ = c.loop-i.i % 48 + 1 in
    let none = start_none c.args.preset c.is_none.result c.is_none.ensures c.if-is_none.true in
    let pos = later_start k c.args.preset c.requires.start none in
    let same =
    same_picture_tile script k row column c.args.before.now c.args.now.now (omega arith) (omega arith)
    (omega arith) (omega arith) (c.requires.before pos) c.requires.now
    (c.is_same_tile.ensures.0 c.if-is_same_tile.true) in
    let nothing : plan row column (tiles_before script k c.args.preset row column)
    (picture_tile script k row column)
    ≡ [] =
    ap (λ t. plan row column t (picture_tile script k row column))
    (before_none script k row column c.args.preset none)
    ∙ plan_self row column (picture_tile script (k - 1) row column) (picture_tile script k row column)
    same in (
      plans_more script k c.loop-i.i c.args.preset c.args.self.now c.loop-i.self c.loop-i.self
          c.loop-i.invariant.0
          (sym (append-nil c.loop-i.self) ∙ ap (λ xs. c.loop-i.self ++ xs) (sym nothing)),
      omega (arith, c.loop-i.invariant.1),
    )
