use Rattle.std.proofs.Common.{ap, length, arith}
use Rattle.picture_script.proofs.Drawn.{length-all_said, fill_there, fill_small}
use Rattle.picture_script.proofs.script.Script.last_fill.Goals as goal

pub index-requires : goal.index-requires
index-requires c =
    let size = length-all_said c.self.inside.pixels.items c.self.inside.lines.items in
    let same = ap length c.self.view_is in
    omega (arith, size, same, c.requires)

pub returns-in-Filled-clause-fill : goal.returns-in-Filled-clause-fill
returns-in-Filled-clause-fill c =
    let size = length-all_said c.self.inside.pixels.items c.self.inside.lines.items in
    let same = ap length c.self.view_is in
    fill_there c.self.inside.pixels.items c.self.inside.lines.items c.args.self.now _ c.in-Filled.colour
    c.index.result.now c.self.view_is (omega (arith, size, same, c.requires)) c.index.ensures c.in-Filled.is

pub returns-in-Filled-clause-colour : goal.returns-in-Filled-clause-colour
returns-in-Filled-clause-colour c =
    let size = length-all_said c.self.inside.pixels.items c.self.inside.lines.items in
    let same = ap length c.self.view_is in
    fill_small c.self.inside.lines.items (length c.self.inside.pixels.items) _ c.in-Filled.colour
    c.index.result.now c.self.invariant.kept (omega (arith, size, same, c.requires)) c.index.ensures
    c.in-Filled.is
