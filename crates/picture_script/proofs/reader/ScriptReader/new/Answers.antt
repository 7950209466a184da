use Rattle.picture_script.proofs.Counted.{none_counted}
use Rattle.picture_script.proofs.Drafts.{none-indexed, none-said}
use Rattle.picture_script.proofs.reader.ScriptReader.new.Goals as goal

pub returns : goal.returns
returns c = (
  none_counted _,
  (
    none-indexed c.new-2.result.items c.new.result.items c.new-3.result.items c.new-2.ensures.items
        c.new.ensures.items c.new-3.ensures.items,
    none-said c.new-2.result.items c.new.result.items c.new.ensures.items,
  ),
)
