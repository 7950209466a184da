use Rattle.std.proofs.Common.{◌≡◌, ℕ, ◌+◌, List, [], ◌∷◌, ap, ◌∙◌, subst}
use Rattle.rw_code.specs.Codeword.{differences}
use Rattle.cdg_instructions.specs.Instruction.{Means}
use Rattle.cdg_screen.specs.Standing.{standing_after}
use Rattle.stream_trial.specs.Replay.{one_where}
use Rattle.stream_trial.proofs.replay.Replay.take_word.Goals as goal

pub returns-in-Some-clause-near : goal.returns-in-Some-clause-near
returns-in-Some-clause-near c codeword reads =
    let fixed = c.in-Some.fixed in
    let found = c.in-Some.ensures.reads in
    let same : fixed.pack ≡ codeword =
    c.only_one_codeword_is_near.ensures c.args.word.now fixed.pack codeword c.in-Some.ensures.word found.0
    reads in
    let wrong : fixed.wrong ≡ differences c.args.word.now codeword = found.1
    ∙ ap (λ (w : List ℕ). differences c.args.word.now w) same in
    record {
      one = c.count.ensures.one ∙ ap (λ d. c.args.self.now.one + one_where d 1) wrong;
      two = c.count.ensures.two ∙ ap (λ d. c.args.self.now.two + one_where d 2) wrong;
      bad = c.count.ensures.same.0;
      instr = c.read.result;
      meant = subst (λ (w : List ℕ). Means w c.read.result) same c.read.ensures.meaning;
      screen = subst (λ s. c.obey.new.self ≡ standing_after s (c.read.result ∷ [])) c.count.ensures.same.1
          c.obey.ensures;
    }
