use Rattle.std.proofs.Common.{refl, subst, inl, inr}
use Rattle.cdg_cmd.specs.Authors.{AuthorsWith}
use Rattle.cdg_cmd.specs.Presses.{PressesWith}
use Rattle.cdg_cmd.proofs.Performed.{not_cut, not_done, only_lacking, performed_as, allocations_first, allocations_later, no_allocation_failed, wrote_nothing}
use Rattle.cdg_cmd.proofs.Played.{never_memory, never_usage, reported_one}
use Rattle.cdg_cmd.proofs.Reported.{of_gen, of_one, of_trial}
use Rattle.cdg_cmd.proofs.Allocations as allocations
use Rattle.cdg_cmd.proofs.Allocations.{not_lacking}
use Rattle.cdg_cmd.proofs.top.perform.Goals as goal

pub returns-in-Convert-clause-never : goal.returns-in-Convert-clause-never
returns-in-Convert-clause-never g c = never_usage c.convert.result _ c.play_status.ensures

pub returns-in-Convert-clause-performs : goal.returns-in-Convert-clause-performs
returns-in-Convert-clause-performs g c =
    let answer = c.convert.result in
    let is = c.play_status.ensures in
    let played = c.convert.ensures.plays in
    let found = never_memory answer _ is played.stops in
    performed_as c.in-Convert.is (record {
      keeps = record { first = λ unread. absurd unread; second = inl refl; out = λ last. absurd last };
      memory = no_allocation_failed found;
      does = λ _. record {
        answer = answer;
        status_is = is;
        taken = played.taken;
        did = played.puts;
        exactly = (played.stops, played.answer);
      };
      out_of_memory = λ none. absurd (found none);
      ends = λ _. (record { answer = answer; status_is = is; ended = played.ended }, refl);
    })

pub returns-in-Q-clause-performs : goal.returns-in-Q-clause-performs
returns-in-Q-clause-performs g c =
    let done = c.run_q.ensures in
    performed_as c.in-Q.is (record {
      keeps = record { first = λ unread. absurd unread; second = inl refl; out = λ last. absurd last };
      memory = no_allocation_failed done.memory;
      does = λ found. done.does;
      out_of_memory = λ none. absurd (done.memory none);
      ends = λ found. (done.ended, refl);
    })

pub returns-in-Planar-clause-performs : goal.returns-in-Planar-clause-performs
returns-in-Planar-clause-performs g c =
    let done = c.run_planar.ensures in
    performed_as c.in-Planar.is (record {
      keeps = record { first = λ unread. absurd unread; second = inl refl; out = λ last. absurd last };
      memory = no_allocation_failed done.memory;
      does = λ found. done.does;
      out_of_memory = λ none. absurd (done.memory none);
      ends = λ found. (done.ended, refl);
    })

pub returns-in-Raw-clause-performs : goal.returns-in-Raw-clause-performs
returns-in-Raw-clause-performs g c =
    let done = c.run_raw.ensures in
    performed_as c.in-Raw.is (record {
      keeps = record { first = λ unread. absurd unread; second = inl refl; out = λ last. absurd last };
      memory = no_allocation_failed done.memory;
      does = λ found. done.does;
      out_of_memory = λ none. absurd (done.memory none);
      ends = λ found. (done.ended, refl);
    })

pub returns-in-Scratch-clause-performs : goal.returns-in-Scratch-clause-performs
returns-in-Scratch-clause-performs g c =
    let done = c.run_scratch.ensures in
    performed_as c.in-Scratch.is (record {
      keeps = record { first = λ unread. absurd unread; second = inl refl; out = λ last. absurd last };
      memory = no_allocation_failed done.memory;
      does = λ found. done.does;
      out_of_memory = λ none. absurd (done.memory none);
      ends = λ found. (done.ended, refl);
    })

pub returns-in-Check-clause-performs : goal.returns-in-Check-clause-performs
returns-in-Check-clause-performs g c =
    let done = c.run_check.ensures in
    performed_as c.in-Check.is (record {
      keeps = record { first = λ unread. absurd unread; second = inl refl; out = λ last. done.untouched };
      memory = no_allocation_failed done.memory;
      does = λ found. done.does;
      out_of_memory = λ none. absurd (done.memory none);
      ends = λ found. (done.ended, refl);
    })

pub returns-in-Screen-clause-performs : goal.returns-in-Screen-clause-performs
returns-in-Screen-clause-performs g c =
    let done = c.run_screen.ensures in
    performed_as c.in-Screen.is (record {
      keeps = record { first = λ unread. absurd unread; second = inl refl; out = λ last. done.untouched };
      memory = allocations_first (λ takes. takes)
          (λ none. ((done.no_memory none).0, refl, (done.no_memory none).1));
      does = done.does;
      out_of_memory = λ none. tt;
      ends = λ found. (done.ended (found tt), refl);
    })

pub returns-in-State-clause-performs : goal.returns-in-State-clause-performs
returns-in-State-clause-performs g c =
    let done = c.run_state.ensures in
    performed_as c.in-State.is (record {
      keeps = record { first = λ unread. absurd unread; second = inl refl; out = λ last. done.untouched };
      memory = allocations_first (λ takes. takes)
          (λ none. ((done.no_memory none).0, refl, (done.no_memory none).1));
      does = done.does;
      out_of_memory = λ none. tt;
      ends = λ found. (done.ended (found tt), refl);
    })

pub returns-in-Save-clause-performs : goal.returns-in-Save-clause-performs
returns-in-Save-clause-performs g c =
    let done = c.run_save.ensures in
    performed_as c.in-Save.is (record {
      keeps = record { first = λ unread. absurd unread; second = inl refl; out = λ last. done.untouched };
      memory = allocations_first (λ takes. takes)
          (λ none. ((done.no_memory none).0, refl, (done.no_memory none).1));
      does = done.does;
      out_of_memory = λ none. tt;
      ends = λ found. (done.ended (found tt), refl);
    })

pub returns-in-Thin-clause-performs : goal.returns-in-Thin-clause-performs
returns-in-Thin-clause-performs g c =
    let done = c.run_thin.ensures in
    performed_as c.in-Thin.is (record {
      keeps = record { first = λ unread. absurd unread; second = inl refl; out = λ last. absurd last };
      memory = allocations_first (λ takes. takes)
          (λ none. ((done.no_memory none).0, refl, (done.no_memory none).1));
      does = done.does;
      out_of_memory = λ none. tt;
      ends = λ found. (done.ended (found tt), refl);
    })

pub returns-in-Text-clause-performs : goal.returns-in-Text-clause-performs
returns-in-Text-clause-performs g c =
    let done = c.run_text.ensures in
    performed_as c.in-Text.is (record {
      keeps = record { first = λ unread. absurd unread; second = inl refl; out = λ last. done.untouched };
      memory =
          allocations_later (λ takes. takes) (λ first. first) (λ none. done.untouched (wrote_nothing none));
      does = done.does;
      out_of_memory = done.no_memory;
      ends = λ found. (done.ended, refl);
    })

pub returns-in-Author-clause-performs : goal.returns-in-Author-clause-performs
returns-in-Author-clause-performs g c =
    let done = c.run_author.ensures in
    performed_as c.in-Author.is (record {
      keeps = record {
        first = λ unread. absurd unread;
        second = done.second;
        out = λ last unwritten. done.untouched (not_done unwritten) (not_cut unwritten);
      };
      memory = allocations_later (λ takes. takes) (λ first. first)
          (λ none. done.untouched (not_done (wrote_nothing none)) (not_cut (wrote_nothing none)));
      does = λ found. done.does;
      out_of_memory = λ none. subst (AuthorsWith c.in-Author.lead_in c.in-Author.length _) none done.does;
      ends = λ found. done.ended;
    })

pub returns-in-Press-clause-performs : goal.returns-in-Press-clause-performs
returns-in-Press-clause-performs g c =
    let done = c.run_press.ensures in
    performed_as c.in-Press.is (record {
      keeps = record {
        first = λ unread. absurd unread;
        second = done.second;
        out = λ last unwritten. done.untouched (not_done unwritten) (not_cut unwritten);
      };
      memory = allocations_later (λ takes. takes) (λ first. first)
          (λ none. done.untouched (not_done (wrote_nothing none)) (not_cut (wrote_nothing none)));
      does = λ found. done.does;
      out_of_memory = λ none. subst (PressesWith c.in-Press.lead_in c.in-Press.length _) none done.does;
      ends = λ found. done.ended;
    })

pub returns-in-Resume-clause-performs : goal.returns-in-Resume-clause-performs
returns-in-Resume-clause-performs g c =
    let done = c.run_resume.ensures in
    performed_as c.in-Resume.is (record {
      keeps = record { first = λ unread. absurd unread; second = done.second; out = λ last. done.untouched };
      memory = allocations_first (λ takes. takes) done.no_memory;
      does = done.does;
      out_of_memory = λ none. tt;
      ends = λ found. done.ended (found tt);
    })

pub returns-in-Merge-clause-performs : goal.returns-in-Merge-clause-performs
returns-in-Merge-clause-performs g c =
    let done = c.run_merge.ensures in
    performed_as c.in-Merge.is (record {
      keeps = record { first = λ unread. absurd unread; second = inr tt; out = λ last. absurd last };
      memory = no_allocation_failed done.memory;
      does = λ found. done.does;
      out_of_memory = λ none. absurd (done.memory none);
      ends = λ found. done.ended;
    })

pub returns-in-Gen-clause-performs : goal.returns-in-Gen-clause-performs
returns-in-Gen-clause-performs g c =
    let done = c.run_gen.ensures in
    performed_as c.in-Gen.is (record {
      keeps = record { first = λ unread. refl; second = inl refl; out = λ last. absurd last };
      memory = no_allocation_failed (not_lacking _ done.never);
      does = λ found. done.does;
      out_of_memory = λ none. absurd (not_lacking _ done.never none);
      ends = λ found. (refl, refl);
    })

pub returns-in-Trial-clause-performs : goal.returns-in-Trial-clause-performs
returns-in-Trial-clause-performs g c =
    let done = c.run_trial.ensures in
    performed_as c.in-Trial.is (record {
      keeps = record {
        first = λ unread. refl;
        second = inl refl;
        out = λ last unwritten. done.no_memory (only_lacking _ done.never unwritten);
      };
      memory = allocations_first (λ takes. takes) (λ none. (refl, refl, done.no_memory none));
      does = done.does;
      out_of_memory = λ none. tt;
      ends = λ found. (refl, refl);
    })

pub returns-in-Convert-clause-faults : goal.returns-in-Convert-clause-faults
returns-in-Convert-clause-faults g c =
    of_one c.play_status.result (g.T.Source.faults c.args.second.now) _ _
    (reported_one c.convert.result _ _ _ _ _ c.play_status.ensures c.convert.ensures.plays.faults)

pub returns-in-Screen-clause-faults : goal.returns-in-Screen-clause-faults
returns-in-Screen-clause-faults g c =
    of_one c.run_screen.result (g.T.Source.faults c.args.second.now) _ _ c.run_screen.ensures.faults

pub returns-in-State-clause-faults : goal.returns-in-State-clause-faults
returns-in-State-clause-faults g c =
    of_one c.run_state.result (g.T.Source.faults c.args.second.now) _ _ c.run_state.ensures.faults

pub returns-in-Check-clause-faults : goal.returns-in-Check-clause-faults
returns-in-Check-clause-faults g c =
    of_one c.run_check.result (g.T.Source.faults c.args.second.now) _ _ c.run_check.ensures.faults

pub returns-in-Q-clause-faults : goal.returns-in-Q-clause-faults
returns-in-Q-clause-faults g c =
    of_one c.run_q.result (g.T.Source.faults c.args.second.now) _ _ c.run_q.ensures.faults

pub returns-in-Text-clause-faults : goal.returns-in-Text-clause-faults
returns-in-Text-clause-faults g c =
    of_one c.run_text.result (g.T.Source.faults c.args.second.now) _ _ c.run_text.ensures.faults

pub returns-in-Planar-clause-faults : goal.returns-in-Planar-clause-faults
returns-in-Planar-clause-faults g c =
    of_one c.run_planar.result (g.T.Source.faults c.args.second.now) _ _ c.run_planar.ensures.faults

pub returns-in-Raw-clause-faults : goal.returns-in-Raw-clause-faults
returns-in-Raw-clause-faults g c =
    of_one c.run_raw.result (g.T.Source.faults c.args.second.now) _ _ c.run_raw.ensures.faults

pub returns-in-Scratch-clause-faults : goal.returns-in-Scratch-clause-faults
returns-in-Scratch-clause-faults g c =
    of_one c.run_scratch.result (g.T.Source.faults c.args.second.now) _ _ c.run_scratch.ensures.faults

pub returns-in-Thin-clause-faults : goal.returns-in-Thin-clause-faults
returns-in-Thin-clause-faults g c =
    of_one c.run_thin.result (g.T.Source.faults c.args.second.now) _ _ c.run_thin.ensures.faults

pub returns-in-Save-clause-faults : goal.returns-in-Save-clause-faults
returns-in-Save-clause-faults g c =
    of_one c.run_save.result (g.T.Source.faults c.args.second.now) _ _ c.run_save.ensures.faults

pub returns-in-Gen-clause-faults : goal.returns-in-Gen-clause-faults
returns-in-Gen-clause-faults g c =
    of_gen c.run_gen.result (g.S.Source.faults c.args.first.now) (g.T.Source.faults c.args.second.now) _
    c.run_gen.ensures.never c.run_gen.ensures.faults

pub returns-in-Trial-clause-faults : goal.returns-in-Trial-clause-faults
returns-in-Trial-clause-faults g c =
    of_trial c.run_trial.result (g.S.Source.faults c.args.first.now) (g.T.Source.faults c.args.second.now) _
    c.run_trial.ensures.never c.run_trial.ensures.faults

pub returns-in-Convert-clause-allocations : goal.returns-in-Convert-clause-allocations
returns-in-Convert-clause-allocations g c =
    allocations.takes_none _ _
    (never_memory c.convert.result _ c.play_status.ensures c.convert.ensures.plays.stops)

pub returns-in-Check-clause-allocations : goal.returns-in-Check-clause-allocations
returns-in-Check-clause-allocations g c = allocations.takes_none _ _ c.run_check.ensures.memory

pub returns-in-Q-clause-allocations : goal.returns-in-Q-clause-allocations
returns-in-Q-clause-allocations g c = allocations.takes_none _ _ c.run_q.ensures.memory

pub returns-in-Planar-clause-allocations : goal.returns-in-Planar-clause-allocations
returns-in-Planar-clause-allocations g c = allocations.takes_none _ _ c.run_planar.ensures.memory

pub returns-in-Raw-clause-allocations : goal.returns-in-Raw-clause-allocations
returns-in-Raw-clause-allocations g c = allocations.takes_none _ _ c.run_raw.ensures.memory

pub returns-in-Scratch-clause-allocations : goal.returns-in-Scratch-clause-allocations
returns-in-Scratch-clause-allocations g c = allocations.takes_none _ _ c.run_scratch.ensures.memory

pub returns-in-Merge-clause-allocations : goal.returns-in-Merge-clause-allocations
returns-in-Merge-clause-allocations g c = allocations.takes_none _ _ c.run_merge.ensures.memory

pub returns-in-Gen-clause-allocations : goal.returns-in-Gen-clause-allocations
returns-in-Gen-clause-allocations g c = allocations.generates _ _ c.run_gen.ensures.never
