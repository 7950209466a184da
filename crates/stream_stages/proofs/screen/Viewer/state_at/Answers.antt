use Rattle.std.proofs.Common.{refl, rules}
use Rattle.cdg_screen.specs.Texts.{state_text}
use Rattle.stream_stages.specs.Stages.{painting_of}
use Rattle.stream_stages.proofs.Reported.{cut_reported, shown_reported, unread_view}
use Rattle.stream_stages.proofs.Views.{shows_done, shows_cut, shows_stop}
use Rattle.stream_stages.proofs.screen.Viewer.state_at.Goals as goal

pub returns-in-Ok-write_state : goal.returns-in-Ok-write_state
returns-in-Ok-write_state g c =
    let (taken, v) = c.in-Ok.ensures.views in
    let cause = c.in-Ok-write_state.ensures.cause in
    record {
      plays = record {
        plays = record {
          taken = taken;
          puts = shows_done c.args.form c.args.lead_in c.args.at _ _ taken state_text
              (painting_of c.view.new.self.views.blocks).screen _ _ _ v c.in-Ok-write_state.ensures.ok;
          stops = tt;
          answer = c.in-Ok.ensures.answer;
          faults = shown_reported _ _ _ _ c.in-Ok.ensures.read_fault.later cause.later _ _
              c.in-Ok.ensures.read_fault.same cause.same;
          ended = c.in-Ok.ensures.ended;
        };
        untouched = tt;
      };
    }

pub returns-in-Err-write_state : goal.returns-in-Err-write_state
returns-in-Err-write_state g c =
    let (taken, v) = c.in-Ok.ensures.views in
    let cause = c.in-Err-write_state.ensures.cause in
    record {
      plays = record {
        plays = record {
          taken = taken;
          puts = shows_cut c.args.form c.args.lead_in c.args.at _ _ taken state_text
              (painting_of c.view.new.self.views.blocks).screen _ _ _ v c.in-Err-write_state.ensures.part;
          stops = tt;
          answer = search rules;
          faults = cut_reported _ _ _ _ c.in-Ok.ensures.read_fault.later cause.later _
              c.in-Ok.ensures.read_fault.same cause.failed;
          ended = c.in-Ok.ensures.ended;
        };
        untouched = λ other. absurd (other refl);
      };
    }

pub returns-in-Err : goal.returns-in-Err
returns-in-Err g c =
    let (taken, v) = c.in-Err.ensures.views in
    record {
      plays = record {
        plays = record {
          taken = taken;
          puts = shows_stop c.args.form c.args.lead_in c.args.at _ _ taken state_text
              (painting_of c.view.new.self.views.blocks).screen _ _ _ v refl;
          stops = c.in-Err.ensures.stops;
          answer = c.in-Err.ensures.answer;
          faults = unread_view _ _ _ c.in-Err.ensures.read_fault.later _ v.no_write
              c.in-Err.ensures.read_fault.rose c.in-Err.ensures.read_fault.same;
          ended = c.in-Err.ensures.ended;
        };
        untouched = λ other. refl;
      };
    }
