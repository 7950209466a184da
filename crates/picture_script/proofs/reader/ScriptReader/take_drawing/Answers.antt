use Rattle.std.proofs.Common.{[], ◌∷◌, ◌++◌}
use Rattle.picture_script.specs.Lines.{said}
use Rattle.picture_script.proofs.Drafts.{shows-drawing}
use Rattle.picture_script.proofs.Counted.{same_counted, none_kept, more_kept}
use Rattle.picture_script.proofs.reader.ScriptReader.take_drawing.Goals as goal

pub returns-in-None : goal.returns-in-None
returns-in-None c = λ before read. (
  same_counted before (said [] c.args.line) c.args.self.now _
      (shows-drawing before [] c.args.line c.requires.draws) read.0,
  none_kept _ _ c.in-None.is,
)

pub returns : goal.returns
returns c = λ before read.
    c.let_go.ensures (before ++ said [] c.args.line ∷ [])
    (same_counted before (said [] c.args.line) c.args.self.now _
    (shows-drawing before [] c.args.line c.requires.draws) read.0)
    (more_kept c.push_line-kept.result before (said [] c.args.line) _ c.args.self.now.draft c.in-Some.draft
    c.push_line-kept.new.self c.in-Some.is read.1 (c.requires.alone c.in-Some.draft.pixels.items)
    c.push_line-kept.ensures.ok)
