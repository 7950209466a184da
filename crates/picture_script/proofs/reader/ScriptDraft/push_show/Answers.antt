use Rattle.std.proofs.Common.{◌≡◌, refl, ap, ◌∙◌, ◌++◌, ◌∷◌, [], length, arith}
use Rattle.picture_script.proofs.Drafts.{show-added}
use Rattle.picture_script.proofs.reader.ScriptDraft.push_show.Goals as goal

pub returns : goal.returns
returns c =
    let place : c.len-place.result ≡ length c.args.self.now.lines.items =
    omega (arith, c.len-place.ensures) in
    record {
      ok =
          show-added c.args.self.now _ c.args.ready c.args.hold c.requires.sound c.requires.order
          c.requires.ending
          c.requires.after c.requires.room c.in_ok-push.ensures.items refl
          (c.in_ok-push-2.ensures.items
          ∙ ap
          (λ n.
          c.args.self.now.shown.items ++ record { place = n; ready = c.args.ready; hold = c.args.hold } ∷ [])
          place);
    }
