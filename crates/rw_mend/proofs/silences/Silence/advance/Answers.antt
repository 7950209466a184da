use Rattle.std.proofs.Common.{rules, ◌≡◌, true, ap, sym, ◌∙◌}
use Rattle.rw_mend.specs.Readings.{programs_in}
use Rattle.rw_mend.specs.Candidates.{is_quiet_candidate}
use Rattle.rw_mend.specs.Words.{given_at}
use Rattle.rw_mend.proofs.Missing.{same_silence}
use Rattle.rw_mend.proofs.silences.Silence.advance.Goals as goal

pub returns-else-not-self-clause-silence : goal.returns-else-not-self-clause-silence
returns-else-not-self-clause-silence c =
    let programs = programs_in c.args.readings.now in
    let holds : c.is_quiet.result ≡ true = search rules in
    let was : c.args.self.now.quiet ≡ true = search rules in
    let quiet : is_quiet_candidate (given_at programs c.args.r c.args.n) ≡ true =
    ap is_quiet_candidate (sym c.requires.given) ∙ sym c.is_quiet.ensures ∙ holds in
    same_silence c.args.words programs c.args.r c.args.n c.args.self.now c.requires.before was quiet

pub will_miss-self-requires-clause-quiet : goal.will_miss-self-requires-clause-quiet
will_miss-self-requires-clause-quiet c =
    let holds : c.is_quiet.result ≡ true = search rules in
    ap is_quiet_candidate (sym c.requires.given) ∙ sym c.is_quiet.ensures ∙ holds
