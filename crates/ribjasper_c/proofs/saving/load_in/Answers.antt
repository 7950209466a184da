use Rattle.std.proofs.Common.{ℤ, refl, subst, sym, rules}
use Rattle.live_player.specs.Saving.{LoadsLive}
use Rattle.ribjasper_c.proofs.Saves.{passed_on_load}
use Rattle.ribjasper_c.proofs.saving.load_in.Goals as goal

pub returns-clause-loads : goal.returns-clause-loads
returns-clause-loads c =
    let before = c.lend.result.now in
    let after = c.load.new.live in
    record {
      loads = λ is. (
        before,
        after,
        c.lend.ensures.value,
        refl,
        subst (λ (answer : ℤ). LoadsLive c.args.file.now before after c.args.byte.now c.load.new.byte answer)
            (sym (passed_on_load c.load.result c.load.ensures.loads.answers)) c.load.ensures.loads,
      );
      closed = search rules;
      stays = search rules;
    }
