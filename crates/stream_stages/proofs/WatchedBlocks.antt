-- From the run of a pump to a run of a stage over blocks.
use Rattle.std.proofs.Common.{◌≡◌, ◌≢◌, ℕ, ◌+◌, ◌*◌, ◌/◌, ◌<◌, ◌≤◌, List, [], ◌∷◌, length, map, refl, sym, ap, ◌∙◌, subst, arith, Result, Ok, Err}
use Rattle.std.specs.Prelude.{IsErrOf}
use Rattle.std.specs.declared.option.Option.{Option}
use Rattle.cdg_io.specs.Change.{Fed, Moved, from_to}
use Rattle.cdg_io.specs.Run.{give, run_state, run_gives}
use Rattle.cdg_io.specs.Pump.{Machine, Pumps, units_of, whole}
use Rattle.cdg_io.specs.declared.pumping.Pumped.{Pumped}
use Rattle.cdg_io.specs.declared.pumping.PumpStop.{PumpStop}
use Rattle.cdg_io.specs.declared.pumping.PumpStop.TheVariants.{WriteFault}
use Rattle.cdg_io.proofs.Frames.{feeding}
use Rattle.cdg_io.proofs.Units.{whole_within}
use Rattle.raw_subcode.specs.Channels.{unit_size, block_of, blocks_of}
use Rattle.raw_subcode.specs.declared.form.Form.{Form}
use Rattle.raw_subcode.specs.declared.form.Form.TheVariants.{Raw, Sector, Cooked}
use Rattle.raw_subcode.specs.Sizes.{most_units}
use Rattle.stream_stages.specs.Watch.{Watches, on_units}

abbrev error : PumpStop → Result Pumped PumpStop
error stop = Err stop

-- bytes within the limit, with at most one more byte, have no whole unit beyond the limit
all_units : (form : Form) (bytes : List ℕ) → length bytes ≤ most_units * unit_size form + 1
    → whole (unit_size form) most_units (length bytes) ≡ length bytes / unit_size form
all_units Raw bytes within = omega (arith, within)
all_units Sector bytes within = omega (arith, within)
all_units Cooked bytes within = omega (arith, within)

-- the state of the stage on blocks after the run over units
pub record RunsOnBlocks {T S : Type 0} (form : Form) (whole_next : T → List ℕ → T) (next : S → List ℕ → S)
    (inner : T → S) : Type 0 where
  pub state : (t : T) (units : List (List ℕ))
      → inner (run_state whole_next t units) ≡ run_state next (inner t) (map (block_of form) units)

module _ {T S : Type 0} (form : Form) (size : ℕ) (machine : Machine T) (next : S → List ℕ → S) (inner : T → S)
    (moved : Moved T) (taken : List ℕ) where
  -- the moves of the stage over blocks
  abbrev fed_within : Fed S
  fed_within = feeding moved.left (from_to (inner moved.state.before) (inner moved.state.after))

  abbrev Runs : Result Pumped PumpStop → Type 0
  Runs result = Pumps (record { size = size; limit = 1000000 }) machine moved result taken

  within_limit : (result : Result Pumped PumpStop) → unit_size form ≡ size → Runs result
      → length taken ≤ most_units * unit_size form + 1
  within_limit result e p = subst (λ n. length taken ≤ most_units * n + 1) (sym e) p.within

  -- the stage has the state after the blocks of the bytes
  stands : (result : Result Pumped PumpStop) → unit_size form ≡ size
      → RunsOnBlocks form machine.next next inner → Runs result
      → inner moved.state.after ≡ run_state next (inner moved.state.before) (blocks_of form taken)
  stands result e runs p =
      ap inner p.state
      ∙ runs.state moved.state.before (units_of size (whole size 1000000 (length taken)) taken)
      ∙ ap (λ n.
      run_state next (inner moved.state.before)
      (map (block_of form) (units_of n (whole n 1000000 (length taken)) taken))) (sym e)
      ∙ ap (λ n.
      run_state next (inner moved.state.before) (map (block_of form) (units_of (unit_size form) n taken)))
      (all_units form taken (within_limit result e p))

  pub watches_done : (pumped : Pumped) → unit_size form ≡ size → 1 < size
      → RunsOnBlocks form machine.next next inner → Runs (Ok pumped)
      → Watches form next fed_within (Ok pumped) taken
  watches_done pumped e some runs p =
      let count : whole size 1000000 (length taken) ≡ pumped.units =
      ap (whole size 1000000) (p.done.1 ∙ omega arith)
      ∙ whole_within size 1000000 pumped.units 0 (omega (arith, some)) p.done.2 in
      record {
        taken_from = p.taken_from;
        within = within_limit (Ok pumped) e p;
        state = stands (Ok pumped) e runs p;
        done = (
          p.done.0,
          p.done.1 ∙ ap (λ n. pumped.units * n) (sym e),
          p.done.2,
          ap inner
              (p.state ∙ ap (λ n. run_state machine.next moved.state.before (units_of size n taken)) count)
              ∙ runs.state moved.state.before (units_of size pumped.units taken)
              ∙ ap (λ n.
              run_state next (inner moved.state.before) (map (block_of form) (units_of n pumped.units taken)))
              (sym e),
        );
        torn = λ unit h. (cc);
        no_write = λ h. (cc);
      }

  pub watches_stop : (stop : PumpStop) → unit_size form ≡ size → stop ≢ WriteFault
      → RunsOnBlocks form machine.next next inner → Runs (Err stop)
      → Watches form next fed_within (Err stop) taken
  watches_stop stop e no_fault runs p = record {
    taken_from = p.taken_from;
    within = within_limit (error stop) e p;
    state = stands (error stop) e runs p;
    done = tt;
    torn = λ unit h. (p.torn unit h).0;
    no_write = λ h. let same : stop ≡ WriteFault = cc in no_fault same;
  }

  pub watches : (result : Result Pumped PumpStop) → unit_size form ≡ size → 1 < size
      → ¬ IsErrOf result WriteFault → RunsOnBlocks form machine.next next inner → Runs result
      → Watches form next fed_within result taken
  watches (Ok pumped) e some no_fault runs p = watches_done pumped e some runs p
  watches (Err stop) e some no_fault runs p = watches_stop stop e (λ same. no_fault (ap error same)) runs p

-- a run over units is one over their blocks
pub run_on_units : {S : Type 0} (form : Form) (next : S → List ℕ → S) (s : S) (units : List (List ℕ))
    → run_state (on_units form next) s units ≡ run_state next s (map (block_of form) units)
run_on_units form next s [] = refl
run_on_units form next s (u ∷ units) = run_on_units form next (next s (block_of form u)) units

pub given_on_units : {S : Type 0} (form : Form) (next : S → List ℕ → S) (gives : S → List ℕ → Option (List ℕ))
    (s : S) (units : List (List ℕ))
    → run_gives (on_units form next) (on_units form gives) s units
    ≡ run_gives next gives s (map (block_of form) units)
given_on_units form next gives s [] = refl
given_on_units form next gives s (u ∷ units) =
    ap (give (gives s (block_of form u))) (given_on_units form next gives (next s (block_of form u)) units)

pub blocks_of_units : {S : Type 0} (form : Form) (next : S → List ℕ → S)
    → RunsOnBlocks form (on_units form next) next (λ (s : S). s)
blocks_of_units form next = record { state = λ s units. run_on_units form next s units }
