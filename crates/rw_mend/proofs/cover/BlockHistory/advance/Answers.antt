use Rattle.std.proofs.Common.{◌≡◌, ◌+◌, ◌/◌, ℕ, ap, ◌∙◌, arith}
use Rattle.rw_mend.specs.Words.{block_at, is_blank_block, is_unread_block}
use Rattle.rw_mend.proofs.cover.BlockHistory.advance.Goals as goal

pub returns-then-n-eq0 : goal.returns-then-n-eq0
returns-then-n-eq0 c =
    let program = c.args.program.now in
    let first : 0 ≡ c.args.n / 4 = omega arith in
    let second : 1 ≡ c.args.n / 4 + 1 = omega arith in
    record {
      first =
          c.is_unread_at-self.ensures ∙ ap (λ (b : ℕ). is_unread_block (block_at program b)) first;
      second =
          c.is_unread_at-self-then-n-eq0.ensures
          ∙ ap (λ (b : ℕ). is_unread_block (block_at program b)) second;
      third = λ apart. absurd (omega (arith, apart));
      first_blank =
          c.is_blank_at-self.ensures ∙ ap (λ (b : ℕ). is_blank_block (block_at program b)) first;
      second_blank =
          c.is_blank_at-self-then-n-eq0.ensures
          ∙ ap (λ (b : ℕ). is_blank_block (block_at program b)) second;
      third_blank = λ apart. absurd (omega (arith, apart));
    }
