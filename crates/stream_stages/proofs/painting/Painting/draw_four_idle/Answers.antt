use Rattle.std.proofs.Common.{ℕ, ◌∙◌, ap}
use Rattle.stream_stages.specs.declared.painting.Painting.{Painting}
use Rattle.stream_stages.proofs.IdlePacks.{kept}
use Rattle.stream_stages.proofs.Draws.{four_idle_drawn}
use Rattle.stream_stages.proofs.painting.Painting.draw_four_idle.Goals as goal

pub returns : goal.returns
returns c =
    let old : Painting = c.args.self.now in
    ap (λ (n : ℕ). record old { left = n }) c.saturating_sub-self.ensures
    ∙ four_idle_drawn old c.requires (kept c.args.self.now.screen c.what_stands_is_whole.ensures)
