use Rattle.std.proofs.Common.{◌++◌, arith, sym, ap, Some, List, ℕ, ◌∙◌}
use Rattle.rw_interleave.proofs.Windows.{none_given, one_given}
use Rattle.rw_interleave.proofs.gather.last_word.Goals as goal

pub returns-then-count-lt-PACKS_KEPT_BACK : goal.returns-then-count-lt-PACKS_KEPT_BACK
returns-then-count-lt-PACKS_KEPT_BACK c =
    sym (none_given (c.args.early.now ++ (c.args.late.now ++ c.args.block.now)) c.args.count
    c.if-count-lt-PACKS_KEPT_BACK.true)

pub returns : goal.returns
returns c =
    ap (λ (w : List ℕ). Some w) c.word_at.ensures
    ∙ sym (one_given (c.args.early.now ++ (c.args.late.now ++ c.args.block.now)) c.args.count (omega arith))
