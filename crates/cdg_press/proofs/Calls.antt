-- From the run of the pump to the call.
use Rattle.std.proofs.Common.{◌≡◌, ℕ, ◌/◌, ◌≤◌, List, length, refl, sym, ap, ◌∙◌, subst, arith, ◌++◌, Result, Ok, Err, Some, None, IfSome}
use Rattle.std.specs.declared.option.Option.{Option}
use Rattle.std.proofs.lemmas.List.{append-nil}
use Rattle.cdg_io.specs.Change.{Bytes, Change, Moved, from_to}
use Rattle.cdg_io.specs.Pump.{Pumps, given}
use Rattle.cdg_io.proofs.Frames.{machine_of, passing}
use Rattle.cdg_io.proofs.Streaming.{IsReported, bytes_of, IsWhole, streams_done, streams_stop}
use Rattle.cdg_io.specs.declared.pumping.Pumped.{Pumped}
use Rattle.cdg_io.specs.declared.pumping.PumpStop.{PumpStop}
use Rattle.cdg_io.specs.declared.pumping.PumpStop.TheVariants.{WriteFault, Torn}
use Rattle.cdg_screen.specs.Standing.{Standing, blank}
use Rattle.std.specs.Io.KnownBytes.{Consumes, IsAtEnd}
use Rattle.cdg_press.specs.Calls.{IsThinnedBy, Thins, ThinsAll, thinning}
use Rattle.cdg_press.specs.Thin.{IsThinText}
use Rattle.cdg_press.proofs.Forms.{text_again, text_alike}
use Rattle.cdg_press.specs.Steps.{thin_next, thin_gives}
use Rattle.cdg_press.proofs.Runs.{given_is_thin}

module _ (moved : Moved Standing) (taken : List ℕ) (fresh : moved.state.before ≡ blank) where
  says : (bytes : List ℕ) (n : ℕ) → n ≤ 4000000 → IsWhole 24 n bytes
      → (pumped : Pumped)
      × IsThinnedBy bytes pumped (given 24 (machine_of thin_next thin_gives) moved.state.before bytes n)
  says bytes n few whole = (
    record { units = length bytes / 24 },
    record { units = refl; written = given_is_thin moved.state.before bytes n fresh whole },
  )

  reported : (stop : PumpStop) → IsReported Torn WriteFault stop stop
  reported stop = record { fault_kept = λ e. e; fault_only = λ e. e; torn_only = λ n e. e }

  pub thins : (result : Result Pumped PumpStop)
      → Pumps thinning.cut (machine_of thin_next thin_gives) moved result taken
      → Thins (bytes_of moved) result taken
  thins (Ok pumped) p =
      streams_done thinning (machine_of thin_next thin_gives) moved taken pumped pumped (omega arith) says p
      (λ whole.
      record {
        units = sym (omega (arith, whole.fits, whole.rest));
        written = given_is_thin moved.state.before taken pumped.units fresh whole;
      })
  thins (Err stop) p =
      streams_stop thinning (machine_of thin_next thin_gives) moved taken stop stop (omega arith)
      (reported stop)
      says p

-- the bytes consumed from an input that was read to its end are all its bytes
taken_all : (all : List ℕ) (left : Option (List ℕ)) (taken : List ℕ) → Consumes (Some all) left taken
    → IsAtEnd left
    → taken ≡ all
taken_all all None taken takes end = absurd takes
taken_all all (Some rest) taken takes end =
    sym (takes ∙ ap (λ (xs : List ℕ). taken ++ xs) end ∙ append-nil taken)

pub whole : (left left' : Bytes) (out : Change Bytes) (result : Result Pumped PumpStop) (taken : List ℕ)
    → Thins (passing (from_to left left') out) result taken
    → IfSome left (λ all. ThinsAll all out result)
whole None left' out result taken t = tt
whole (Some all) left' out (Err stop) taken t = tt
whole (Some all) left' out (Ok pumped) taken t =
    let (end, written) = t.done in
    let (text, gives, put) = written in
    let same : taken ≡ all = taken_all all left' taken t.taken_from end in
    let thin : IsThinText all text = subst (λ (bytes : List ℕ). IsThinText bytes text) same gives.written in (
      text,
      record { thin = thin; alike = λ m. text_alike all text m thin; again = text_again all text thin },
      put,
    )
