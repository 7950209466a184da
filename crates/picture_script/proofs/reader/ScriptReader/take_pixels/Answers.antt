use Rattle.std.proofs.Common.{[], ◌∷◌, ◌++◌, map, refl}
use Rattle.std.specs.Char.{digit_value}
use Rattle.picture_script.specs.Script.{Row}
use Rattle.picture_script.proofs.Drafts.{shows-row}
use Rattle.picture_script.proofs.Counted.{same_counted, none_kept, more_kept}
use Rattle.picture_script.proofs.reader.ScriptReader.take_pixels.Goals as goal

pub returns-in-None : goal.returns-in-None
returns-in-None c = λ before read.
    let colours = map digit_value c.args.digits.now in (
      same_counted before (Row c.args.x c.args.y colours) c.args.self.now _
          (shows-row before c.args.x c.args.y colours) read.0,
      none_kept _ _ c.in-None.is,
    )

pub returns : goal.returns
returns c = λ before read.
    let colours = map digit_value c.args.digits.now in
    c.let_go.ensures (before ++ Row c.args.x c.args.y colours ∷ [])
    (same_counted before (Row c.args.x c.args.y colours) c.args.self.now _
    (shows-row before c.args.x c.args.y colours) read.0)
    (more_kept c.push_row-kept.result before (Row c.args.x c.args.y colours) _ c.args.self.now.draft
    c.in-Some.draft c.push_row-kept.new.self c.in-Some.is read.1 refl c.push_row-kept.ensures.ok)
