use Rattle.std.proofs.Common.{◌<◌, ◌+◌, ℕ, ap, sym, subst, arith}
use Rattle.disc_time.specs.Counts.{time_count}
use Rattle.picture_script.specs.Script.{ready_time}
use Rattle.picture_script.proofs.Ranges.{shown_inside, shown_times_at, shown_later, shown_end}
use Rattle.picture_script.proofs.script.Script.hold.Goals as goal

pub index-requires : goal.index-requires
index-requires c =
    let inside =
    shown_inside c.self.inside.pixels.items c.self.inside.lines.items c.self.inside.shown.items
    c.args.self.now c.self.view_is c.self.invariant c.args.k c.requires in
    omega (arith, inside, c.self.inside.shown.ok.0)

pub returns : goal.returns
returns c =
    let times =
    shown_times_at c.self.inside.pixels.items c.self.inside.lines.items c.self.inside.shown.items
    c.args.self.now c.self.view_is c.self.invariant c.args.k c.index.result.now c.requires c.index.ensures in
    let is = ap (λ (t : ℕ × ℕ). t.1) times in
    let later =
    shown_later c.self.inside.pixels.items c.self.inside.lines.items c.self.inside.shown.items c.args.self.now
    c.self.view_is c.self.invariant c.args.k in
    let ending =
    shown_end c.self.inside.pixels.items c.self.inside.lines.items c.self.inside.shown.items c.args.self.now
    c.self.view_is c.self.invariant c.args.k c.requires in
    record {
      value = is;
      order = λ lt. subst (λ (n : ℕ). n < ready_time c.args.self.now (c.args.k + 1)) (sym is) (later lt);
      below = subst (λ (n : ℕ). n < time_count) (sym is) ending;
    }
