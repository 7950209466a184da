use Rattle.std.proofs.Common.{◌≡◌, ap, ◌∙◌}
use Rattle.cdg_screen.specs.Memory.{seen}
use Rattle.cdg_screen.proofs.screen.Screen.changes.Goals as goal

pub returns : goal.returns
returns c =
    let there : seen c.deref.result.now ≡ c.args.self.now = ap seen c.deref.ensures ∙ c.self.view_is in
    rw (← there) c.changes.ensures
