use Rattle.std.proofs.Common.{List, ℕ, ap, drop, get_or, ◌∙◌}
use Rattle.std.proofs.lemmas.List.{get_or-drop, get_or-take}
use Rattle.rw_interleave.proofs.gather.last_three.Goals as goal

pub returns : goal.returns
returns c = λ n lt.
    ap (λ (l : List ℕ). get_or l n 0) c.copy_from_slice.ensures.after
    ∙ get_or-take 72 (drop 24 c.args.four.now) n 0 lt
    ∙ get_or-drop 24 c.args.four.now n 0
