-- From the run of a pump to the effect of a streaming call.
use Rattle.std.proofs.Common.{◌≡◌, ◌≢◌, ℕ, suc, ◌+◌, ◌*◌, ◌/◌, ◌<◌, ◌≤◌, List, length, take, drop, sym, ap, ◌∙◌, subst, arith, Result, Ok, Err}
use Rattle.std.proofs.Math.Nat.{suc-mul, div-mul-le_self, lt-div-mul-add, lt_of_mul-lt-mul_right}
use Rattle.std.specs.List.{concat}
use Rattle.cdg_io.specs.Run.{run_gives}
use Rattle.std.proofs.lemmas.List.{length-take-le, take-append-drop}
use Rattle.std.specs.Io.KnownBytes.{Appends}
use Rattle.cdg_io.specs.Change.{Moved, Passed}
use Rattle.cdg_io.specs.Pump.{Machine, Pumps, given, units_of, whole}
use Rattle.cdg_io.specs.Streams.{GivesText, Reading, Streams}
use Rattle.cdg_io.specs.declared.pumping.Pumped.{Pumped}
use Rattle.cdg_io.specs.declared.pumping.PumpStop.{PumpStop}
use Rattle.cdg_io.specs.declared.pumping.PumpStop.TheVariants.{WriteFault, Torn}
use Rattle.cdg_io.proofs.Units.{units_of-append, whole_within}

abbrev pump_error : PumpStop → Result Pumped PumpStop
pump_error stop = Err stop

abbrev error : (T : Type 0) {E : Type 0} → E → Result T E
error T stop = Err stop

-- n is the number of whole units in some bytes
pub record IsWhole (size n : ℕ) (bytes : List ℕ) : Type 0 where
  pub fits : n * size ≤ length bytes
  pub rest : length bytes < n * size + size

pub whole_units : (size : ℕ) (bytes : List ℕ) → 0 < size → IsWhole size (length bytes / size) bytes
whole_units size bytes some =
    record { fits = div-mul-le_self (length bytes) size; rest = lt-div-mul-add some }

-- at most one byte more than the limit adds no whole unit
within_limit : (size limit n len : ℕ) → 1 < size → n * size ≤ len → len ≤ limit * size + 1 → n ≤ limit
within_limit size limit n len some fits within =
    let less : n * size < suc limit * size = omega (arith, fits, within, some, suc-mul limit size) in
    omega (arith, lt_of_mul-lt-mul_right size less)

units_of-take : (size n : ℕ) (bytes : List ℕ) → n * size ≤ length bytes
    → units_of size n (take (n * size) bytes) ≡ units_of size n bytes
units_of-take size n bytes fits =
    sym (units_of-append size n (take (n * size) bytes) (drop (n * size) bytes)
    (omega (arith, length-take-le (n * size) bytes fits)))
    ∙ ap (units_of size n) (take-append-drop (n * size) bytes)

-- `reported` is the stop of the call at this stop of the pump
pub record IsReported {E : Type 0} (torn_at : ℕ → E) (fault : E) (stop : PumpStop) (reported : E) : Type
    0 where
  pub fault_kept : stop ≡ WriteFault → reported ≡ fault
  pub fault_only : reported ≡ fault → stop ≡ WriteFault
  pub torn_only : (unit : ℕ) → reported ≡ torn_at unit → stop ≡ Torn unit

-- the bytes of an input and of an output that a stage moved
abbrev pub bytes_of : {S : Type 0} → Moved S → Passed
bytes_of moved = record { left = moved.left; held = moved.held }

module _ {S T E : Type 0} (reading : Reading T E) (machine : Machine S) (moved : Moved S) (taken : List ℕ)
  where
    abbrev Runs : Result Pumped PumpStop → Type 0
    Runs result = Pumps reading.cut machine moved result taken

    abbrev text_of : List ℕ → ℕ → List ℕ
    text_of bytes n = given reading.cut.size machine moved.state.before bytes n

    abbrev Puts : List ℕ → Type 0
    Puts text = Appends moved.held.before moved.held.after text

    -- the output of the stage for whole units is the text of these bytes
    abbrev pub Says : Type 0
    Says = (bytes : List ℕ) (n : ℕ) → n ≤ reading.cut.limit → IsWhole reading.cut.size n bytes
        → GivesText reading.gives bytes (text_of bytes n)

    put_all : (result : Result Pumped PumpStop) → 1 < reading.cut.size → Says → Runs result
        → result ≢ pump_error WriteFault
        → (text : List ℕ) × GivesText reading.gives taken text × Puts text
    put_all result some all p no_fault =
        let n : ℕ = length taken / reading.cut.size in
        let whole_taken : IsWhole reading.cut.size n taken =
        whole_units reading.cut.size taken (omega (arith, some)) in
        let few : n ≤ reading.cut.limit =
        within_limit reading.cut.size reading.cut.limit n (length taken) some whole_taken.fits p.within in
        let count : whole reading.cut.size reading.cut.limit (length taken) ≡ n = omega (arith, few) in (
          text_of taken n,
          all taken n few whole_taken,
          subst (λ k. Puts (text_of taken k)) count (p.put no_fault),
        )

    pub streams_done : (pumped : Pumped) (answer : T) → 1 < reading.cut.size → Says → Runs (Ok pumped)
        → (IsWhole reading.cut.size pumped.units taken
        → reading.gives taken answer (text_of taken pumped.units))
        → Streams reading (bytes_of moved) (Ok answer) taken
    streams_done pumped answer some all p met =
        let len = p.done.1 in
        let count : whole reading.cut.size reading.cut.limit (length taken) ≡ pumped.units =
        ap (whole reading.cut.size reading.cut.limit) (len ∙ omega arith)
        ∙ whole_within reading.cut.size reading.cut.limit pumped.units 0 (omega (arith, some)) p.done.2 in
        let put = subst (λ k. Puts (text_of taken k)) count (p.put (λ e. (cc))) in
        record {
          taken_from = p.taken_from;
          within = p.within;
          done = (
            p.done.0,
            (
              text_of taken pumped.units,
              met (record { fits = omega (arith, len); rest = omega (arith, len, some) }),
              put,
            ),
          );
          torn = λ unit e. (cc);
          put = λ e. put_all (Ok pumped) some all p (λ e. (cc));
          in_turn = λ e. (cc);
        }

    pub streams_stop : (stop : PumpStop) (reported : E) → 1 < reading.cut.size
        → IsReported reading.torn_at reading.write_fault stop reported → Says → Runs (Err stop)
        → Streams reading (bytes_of moved) (Err reported) taken
    streams_stop stop reported some decides all p = record {
      taken_from = p.taken_from;
      within = p.within;
      done = tt;
      torn = λ unit e. let same : reported ≡ reading.torn_at unit = cc in
          p.torn unit (ap pump_error (decides.torn_only unit same));
      put =
          λ h. put_all (Err stop) some all p
          (λ e. let same : stop ≡ WriteFault = cc in h (ap (error T) (decides.fault_kept same)));
      in_turn = λ e.
          let same : reported ≡ reading.write_fault = cc in
          let (n, below_limit, stops) = p.in_turn (ap pump_error (decides.fault_only same)) in
          let size = reading.cut.size in
          let next_size : (n + 1) * size ≡ n * size + size =
          ap (λ k. k * size) (omega arith) ∙ suc-mul n size in
          let fits : n * size ≤ length taken = omega (arith, stops.units, next_size) in
          let low_len = length-take-le (n * size) taken fits in
          let low : GivesText reading.gives (take (n * size) taken) (text_of (take (n * size) taken) n) =
          all (take (n * size) taken) n (omega (arith, below_limit))
          (record { fits = omega (arith, low_len); rest = omega (arith, low_len, some) }) in
          let high : GivesText reading.gives taken (text_of taken (n + 1)) =
          all taken (n + 1) (omega (arith, below_limit))
          (record { fits = omega (arith, stops.units); rest = omega (arith, stops.units, some) }) in
          let same_low : text_of (take (n * size) taken) n ≡ text_of taken n =
          ap (λ (us : List (List ℕ)). concat (run_gives machine.next machine.gives moved.state.before us))
          (units_of-take size n taken fits) in (
            n,
            below_limit,
            stops.units,
            (_, _, subst (GivesText reading.gives (take (n * size) taken)) same_low low, high, stops.put),
          );
    }
