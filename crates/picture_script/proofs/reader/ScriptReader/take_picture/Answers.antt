use Rattle.std.proofs.Common.{[], ◌∷◌, ◌++◌, refl}
use Rattle.picture_script.specs.Script.{Show}
use Rattle.picture_script.proofs.Counted.{one_counted, none_kept, more_kept}
use Rattle.picture_script.proofs.reader.ScriptReader.take_picture.Goals as goal

pub returns-in-None : goal.returns-in-None
returns-in-None c = λ before read. (
  one_counted before c.args.ready c.args.hold c.args.self.now _ read.0,
  none_kept _ _ c.in-None.is,
)

pub returns : goal.returns
returns c = λ before read.
    c.let_go.ensures (before ++ Show c.args.ready c.args.hold ∷ [])
    (one_counted before c.args.ready c.args.hold c.args.self.now _ read.0)
    (more_kept c.push_show-kept.result before (Show c.args.ready c.args.hold) _ c.args.self.now.draft
    c.in-Some.draft c.push_show-kept.new.self c.in-Some.is read.1 refl c.push_show-kept.ensures.ok)
