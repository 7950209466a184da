use Rattle.std.proofs.Common.{◌≡◌, refl, length, arith}
use Rattle.picture_script.proofs.Drafts.{more-sound, row-added}
use Rattle.picture_script.proofs.reader.ScriptDraft.push_row.Goals as goal

pub push_line-requires-clause-sound : goal.push_line-requires-clause-sound
push_line-requires-clause-sound c =
    more-sound c.args.self.now c.push_pixels.new.pixels.items c.args.digits.now c.requires.sound
    c.requires.digits c.in_ok-push_pixels.ensures.ok

pub returns : goal.returns
returns c =
    let start : c.in-Ok.first ≡ length c.args.self.now.pixels.items = omega (arith, c.len.ensures) in
    record {
      ok =
          row-added c.args.self.now _ c.push_line.new.self c.args.x c.args.y c.in-Ok.first _ c.args.digits.now
          c.requires.sound refl c.in_ok-push_pixels.ensures.ok start refl c.in_ok-push_line.ensures.ok;
    }
