-- What is written after a checkpoint.
use Rattle.std.proofs.Common.{◌≡◌, ◌≢◌, ℕ, List, [], refl, sym, subst, Result, Ok, Err}
use Rattle.std.specs.Prelude.{Option}
use Rattle.std.specs.Io.KnownBytes.{Appends}
use Rattle.std.proofs.KnownBytes.{Appends-nil}
use Rattle.cdg_io.specs.Change.{from_to}
use Rattle.cdg_io.specs.Moves.{AppendsPrefix}
use Rattle.cdg_io.proofs.Frames.{passing}
use Rattle.cdg_screen.specs.Standing.{Standing}
use Rattle.cdg_screen.specs.Texts.{pixmap}
use Rattle.cdg_checkpoint.specs.Checkpoint.{checkpoint_in}
use Rattle.cdg_checkpoint.specs.Resumed.{GoesOn, IsResumed, Resumes, time_after}
use Rattle.cdg_checkpoint.specs.declared.stops.Resumed.{Resumed}
use Rattle.cdg_checkpoint.specs.declared.stops.ResumeStop.{ResumeStop}
use Rattle.cdg_checkpoint.specs.declared.stops.ResumeStop.TheVariants.{WriteFault}

module _ (file : List ℕ) (time : ℕ) (left left' held held' : Option (List ℕ)) (now : Standing)
    (taken : List ℕ) where
  resumed_to : (resumed : Resumed)
      → GoesOn (time_after (checkpoint_in file) time) (from_to left left') now (Ok resumed) taken
      → IsResumed file time taken resumed (pixmap now)
  resumed_to resumed g = let (at_end, blocks, reached, gone) = g.done in
      record { blocks = blocks; now = now; gone_on = gone; text_is = refl }

  pub shows_done : (resumed : Resumed)
      → GoesOn (time_after (checkpoint_in file) time) (from_to left left') now (Ok resumed) taken
      → Appends held held' (pixmap now)
      → Resumes file time (passing (from_to left left') (from_to held held')) (Ok resumed) taken
  shows_done resumed g put = record {
    taken_from = g.taken_from;
    within = g.within;
    done = (g.done.0, g.done.2, (pixmap now, resumed_to resumed g, put));
    stopped = λ stop e not. (cc);
    torn = λ block e. (cc);
    past_end = λ blocks e. (cc);
    cut = λ e. (cc);
  }

  pub shows_cut : (resumed : Resumed)
      → GoesOn (time_after (checkpoint_in file) time) (from_to left left') now (Ok resumed) taken
      → AppendsPrefix held held' (pixmap now)
      → Resumes file time (passing (from_to left left') (from_to held held')) (Err WriteFault) taken
  shows_cut resumed g put = record {
    taken_from = g.taken_from;
    within = g.within;
    done = tt;
    stopped = λ stop e not. let same : WriteFault ≡ stop = cc in absurd (not (sym same));
    torn = λ block e. (cc);
    past_end = λ blocks e. (cc);
    cut = λ e. (g.done.0, (pixmap now, resumed, resumed_to resumed g, put));
  }

  abbrev error : ResumeStop → Result Resumed ResumeStop
  error stop = Err stop

  pub shows_stop : (stop : ResumeStop)
      → GoesOn (time_after (checkpoint_in file) time) (from_to left left') now (Err stop) taken
      → error stop ≢ Err WriteFault → held' ≡ held
      → Resumes file time (passing (from_to left left') (from_to held held')) (Err stop) taken
  shows_stop stop g no_write same = record {
    taken_from = g.taken_from;
    within = g.within;
    done = tt;
    stopped = λ other e not. subst (λ (h : Option (List ℕ)). Appends held h []) (sym same) (Appends-nil held);
    torn = λ block e. g.torn block e;
    past_end = λ blocks e. g.past_end blocks e;
    cut = λ e. absurd (no_write e);
  }
