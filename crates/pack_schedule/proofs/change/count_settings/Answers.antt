use Rattle.std.proofs.Common.{◌+◌, ◌∙◌, ap, ap₂, arith}
use Rattle.std.specs.Prelude.{◌==◌, not}
use mir.Val.{bool_byte}
use Rattle.pack_schedule.proofs.SettingLaws.{settings_differ}
use Rattle.pack_schedule.proofs.change.count_settings.Goals as goal

pub returns-clause-count : goal.returns-clause-count
returns-clause-count c =
    let before = c.requires.before (omega arith) in
    let border =
    c.from.ensures
    ∙ ap₂ (λ m n. bool_byte (not (m == n))) c.border.ensures.value c.border-2.ensures.value in
    let low = c.from-2.ensures ∙ ap bool_byte c.ne-low.ensures in
    let high = c.from-3.ensures ∙ ap bool_byte c.ne-high.ensures in
    ap₂ (λ m n. m + n) (ap₂ (λ m n. m + n) border low) high
    ∙ settings_differ c.args.script.now c.args.k c.args.before.now c.args.now.now c.colours.result
    c.colours-2.result c.colours-3.result c.colours-4.result (omega arith) before c.requires.now
    c.colours.ensures c.colours-2.ensures c.colours-3.ensures c.colours-4.ensures
