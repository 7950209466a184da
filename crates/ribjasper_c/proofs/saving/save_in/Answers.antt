use Rattle.std.proofs.Common.{ℤ, subst, sym, rules}
use Rattle.live_player.specs.Saving.{SavesLive}
use Rattle.ribjasper_c.proofs.Saves.{passed_on_save}
use Rattle.ribjasper_c.proofs.saving.save_in.Goals as goal

pub returns-clause-saves : goal.returns-clause-saves
returns-clause-saves c =
    let player = c.lend.result.now in
    record {
      saves = λ is. (
        player,
        c.lend.ensures.value,
        subst (λ (answer : ℤ). SavesLive player c.args.file.now c.save.new.file answer)
            (sym (passed_on_save c.save.result c.save.ensures.saves.answers)) c.save.ensures.saves,
      );
      closed = search rules;
      same = search rules;
    }
