use Rattle.std.proofs.Common.{◌≤◌, ℕ, ap, sym, subst, arith}
use Rattle.picture_script.specs.Script.{hold_time}
use Rattle.picture_script.proofs.Ranges.{shown_inside, shown_times_at, shown_held, shown_end}
use Rattle.picture_script.proofs.script.Script.ready.Goals as goal

pub index-requires : goal.index-requires
index-requires c =
    let inside =
    shown_inside c.self.inside.pixels.items c.self.inside.lines.items c.self.inside.shown.items
    c.args.self.now c.self.view_is c.self.invariant c.args.k c.requires in
    omega (arith, inside, c.self.inside.shown.ok.0)

pub returns : goal.returns
returns c =
    let times =
    shown_times_at c.self.inside.pixels.items c.self.inside.lines.items c.self.inside.shown.items
    c.args.self.now c.self.view_is c.self.invariant c.args.k c.index.result.now c.requires c.index.ensures in
    let is = ap (λ (t : ℕ × ℕ). t.0) times in
    let held =
    shown_held c.self.inside.pixels.items c.self.inside.lines.items c.self.inside.shown.items c.args.self.now
    c.self.view_is c.self.invariant c.args.k c.requires in
    let ending =
    shown_end c.self.inside.pixels.items c.self.inside.lines.items c.self.inside.shown.items c.args.self.now
    c.self.view_is c.self.invariant c.args.k c.requires in
    record {
      value = is;
      order = subst (λ (n : ℕ). n ≤ hold_time c.args.self.now c.args.k) (sym is) held;
      below = omega (arith, is, held, ending);
    }
