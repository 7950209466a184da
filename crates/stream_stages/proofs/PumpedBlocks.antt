-- A pump that runs a stage over units, as a run of a stage over their blocks.
use Rattle.std.proofs.Common.{◌≡◌, ◌+◌, ℕ, List, [], ◌∷◌, length, map, drop, refl, sym, ap, ap₂, ◌∙◌, subst, arith, Result}
use Rattle.std.specs.declared.option.Option.{Option}
use Rattle.std.specs.List.{concat}
use Rattle.std.specs.Io.KnownBytes.{Appends}
use Rattle.cdg_io.specs.Change.{Moved, from_to}
use Rattle.cdg_io.specs.Moves.{AppendsBetween}
use Rattle.cdg_io.specs.Run.{give, run_state, run_gives}
use Rattle.cdg_io.specs.Pump.{Cut, Machine, Pumps, given, units_of, whole}
use Rattle.cdg_io.specs.declared.pumping.Pumped.{Pumped}
use Rattle.cdg_io.specs.declared.pumping.PumpStop.{PumpStop}
use Rattle.cdg_io.proofs.Frames.{machine_of, moving}
use Rattle.raw_subcode.specs.Channels.{unit_size, block_of}
use Rattle.raw_subcode.specs.declared.form.Form.{Form}
use Rattle.raw_subcode.specs.declared.form.Form.TheVariants.{Raw, Sector, Cooked}
use Rattle.raw_subcode.specs.Sizes.{most_units}
use Rattle.stream_stages.specs.Watch.{on_units}
use Rattle.stream_stages.specs.declared.block_words.SectorBlocks.{SectorBlocks}

-- an input of units with this size
abbrev units_cut : ℕ → Cut
units_cut size = record { size = size; limit = most_units }

-- Each step of the outer stage is a step of the inner stage.
pub record Follows {T S : Type 0} (outer : Machine T) (machine : Machine S) (inner : T → S) : Type 0 where
  pub step : (t : T) (unit : List ℕ) → inner (outer.next t unit) ≡ machine.next (inner t) unit
  pub same : (t : T) (unit : List ℕ) → outer.gives t unit ≡ machine.gives (inner t) unit

-- the moves of the outer stage, as moves of the inner stage
abbrev within : {T S : Type 0} → (T → S) → Moved T → Moved S
within inner moved =
    moving moved.left (from_to (inner moved.state.before) (inner moved.state.after)) moved.held

module _ {T S : Type 0} (outer : Machine T) (machine : Machine S) (inner : T → S)
    (follows : Follows outer machine inner) where
  states : (t : T) (units : List (List ℕ))
      → inner (run_state outer.next t units) ≡ run_state machine.next (inner t) units
  states t [] = refl
  states t (unit ∷ units) =
      states (outer.next t unit) units ∙ ap (λ (s : S). run_state machine.next s units) (follows.step t unit)

  pieces : (t : T) (units : List (List ℕ))
      → run_gives outer.next outer.gives t units ≡ run_gives machine.next machine.gives (inner t) units
  pieces t [] = refl
  pieces t (unit ∷ units) =
      ap (give (outer.gives t unit)) (pieces (outer.next t unit) units
      ∙ ap (λ (s : S). run_gives machine.next machine.gives s units) (follows.step t unit))
      ∙ ap (λ (o : Option (List ℕ)).
      give o (run_gives machine.next machine.gives (machine.next (inner t) unit) units)) (follows.same t unit)

  texts : (size : ℕ) (t : T) (bytes : List ℕ) (n : ℕ)
      → given size outer t bytes n ≡ given size machine (inner t) bytes n
  texts size t bytes n = ap concat (pieces t (units_of size n bytes))

  pub pumps_inner : (size : ℕ) (moved : Moved T) (result : Result Pumped PumpStop) (taken : List ℕ)
      → Pumps (units_cut size) outer moved result taken
      → Pumps (units_cut size) machine (within inner moved) result taken
  pumps_inner size moved result taken p =
      let t = moved.state.before in
      record {
        taken_from = p.taken_from;
        within = p.within;
        state = ap inner p.state ∙ states t (units_of size (whole size most_units (length taken)) taken);
        put =
            λ e. subst (λ (text : List ℕ). Appends moved.held.before moved.held.after text)
            (texts size t taken (whole size most_units (length taken))) (p.put e);
        in_turn = λ e.
            let (n, few, stops) = p.in_turn e in (
              n,
              few,
              record {
                units = stops.units;
                put =
                    subst (λ (low : List ℕ). AppendsBetween moved.held.before moved.held.after low
                    (given size machine (inner t) taken (n + 1))) (texts size t taken n)
                    (subst (λ (high : List ℕ).
                    AppendsBetween moved.held.before moved.held.after (given size outer t taken n) high)
                    (texts size t taken (n + 1)) stops.put);
              },
            );
        done = p.done;
        torn = p.torn;
        too_long = p.too_long;
        read_fault = p.read_fault;
      }

plain_block : (form : Form) → unit_size form ≡ 96 → (unit : List ℕ) → block_of form unit ≡ unit
plain_block Raw size unit = refl
plain_block Sector size unit = absurd (omega (arith, size))
plain_block Cooked size unit = refl

pub plain_blocks : (form : Form) → unit_size form ≡ 96 → (units : List (List ℕ))
    → map (block_of form) units ≡ units
plain_blocks form size [] = refl
plain_blocks form size (unit ∷ units) =
    ap₂ (λ (u : List ℕ) us. u ∷ us) (plain_block form size unit) (plain_blocks form size units)

-- a stage over blocks, as a stage over units
abbrev on_form : {S : Type 0} → Form → Machine S → Machine S
on_form form machine = machine_of (on_units form machine.next) (on_units form machine.gives)

-- units that are blocks
pub plain_pumps : {S : Type 0} (form : Form) (machine : Machine S) (moved : Moved S)
    (result : Result Pumped PumpStop) (taken : List ℕ) → unit_size form ≡ 96
    → Pumps (units_cut 96) machine moved result taken
    → Pumps (units_cut (unit_size form)) (on_form form machine) moved result taken
plain_pumps form machine moved result taken size p =
    subst (λ n. Pumps (units_cut n) (on_form form machine) moved result taken) (sym size)
    (pumps_inner machine (on_form form machine) (λ s. s)
    (record {
      step = λ s unit. ap (machine.next s) (sym (plain_block form size unit));
      same = λ s unit. ap (machine.gives s) (sym (plain_block form size unit));
    })
    96 moved result taken p)

-- a stage over the blocks of sectors
abbrev on_sectors : {S : Type 0} → Machine S → Machine (SectorBlocks S)
on_sectors machine =
    machine_of (λ t x. record { blocks = machine.next t.blocks (drop 2352 x) })
    (λ t x. machine.gives t.blocks (drop 2352 x))

-- units that are sectors
pub sector_pumps : {S : Type 0} (form : Form) (machine : Machine S) (moved : Moved (SectorBlocks S))
    (result : Result Pumped PumpStop) (taken : List ℕ) → form ≡ Sector
    → Pumps (units_cut 2448) (on_sectors machine) moved result taken
    → Pumps (units_cut (unit_size form)) (on_form form machine) (within (λ t. t.blocks) moved) result taken
sector_pumps form machine moved result taken is p =
    subst (λ (f : Form).
    Pumps (units_cut (unit_size f)) (on_form f machine) (within (λ t. t.blocks) moved) result taken) (sym is)
    (pumps_inner (on_sectors machine) (on_form Sector machine) (λ t. t.blocks)
    (record { step = λ t unit. refl; same = λ t unit. refl }) 2448 moved result taken p)
