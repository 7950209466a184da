use Rattle.std.proofs.Common.{refl}
use Rattle.picture_script.proofs.Drafts.{line-added}
use Rattle.picture_script.proofs.reader.ScriptDraft.push_line.Goals as goal

pub returns : goal.returns
returns c = record {
  ok =
      line-added c.args.self.now _ c.args.line c.requires.sound c.requires.kept c.requires.draws
      c.in_ok-push.ensures.items refl refl;
}
