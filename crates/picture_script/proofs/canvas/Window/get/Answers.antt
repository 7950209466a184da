use Rattle.std.proofs.Common.{◌≡◌, ◌+◌, ◌*◌, get_or, arith}
use Rattle.std.proofs.lemmas.List.{get_or_read}
use Rattle.picture_script.proofs.Windows.{get-pixel}
use Rattle.picture_script.proofs.canvas.Window.get.Goals as goal

pub returns-clause-pixel : goal.returns-clause-pixel
returns-clause-pixel c =
    let at : c.index.result.now ≡ get_or c.self.inside.pixels.items (288 * c.args.y + c.args.x) 0 =
    get_or_read c.self.inside.pixels.items _ _ (omega (arith, c.self.invariant.count)) c.index.ensures 0 in
    rw (← c.self.view_is) (get-pixel c.self.inside.pixels.items c.args.x c.args.y c.index.result.now at)
