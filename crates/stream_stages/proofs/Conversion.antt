-- From the run of the stages to a conversion.
use Rattle.std.proofs.Common.{◌≡◌, ℕ, zero, suc, ◌+◌, ◌*◌, ◌/◌, ◌≤◌, List, [], ◌∷◌, length, map, drop, refl, sym, ap, subst, arith, length-drop}
use Rattle.std.specs.List.{concat, flat_map}
use Rattle.std.proofs.lemmas.List.{length-take-le}
use Rattle.cdg_io.specs.Run.{run_state, run_gives}
use Rattle.cdg_io.specs.Pump.{Machine, given, units_of}
use Rattle.raw_subcode.specs.Channels.{unit_size, block_of, symbols_of}
use Rattle.rw_interleave.specs.Stream.{IsRecovered, bad_count}
use Rattle.rw_interleave.specs.Texts.{cdg_bytes}
use Rattle.raw_subcode.specs.Sizes.{most_units}
use Rattle.stream_stages.specs.Convert.{IsConverted}
use Rattle.raw_subcode.specs.declared.form.Form.{Form}
use Rattle.raw_subcode.specs.declared.form.Form.TheVariants.{Raw, Sector, Cooked}
use Rattle.stream_stages.proofs.Slots.{Sized, sized_drop}
use Rattle.stream_stages.proofs.FormWords.{found_in, recovered}
use Rattle.stream_stages.proofs.Playing.{Plays, units_in}

-- the blocks of some units that belong to the program
abbrev pub program : Form → ℕ → List (List ℕ) → List (List ℕ)
program form lead_in units = drop lead_in (map (block_of form) units)

-- ---- units

pub length-units_of : (size n : ℕ) (bytes : List ℕ) → length (units_of size n bytes) ≡ n
length-units_of size zero bytes = refl
length-units_of size (suc n) bytes = ap suc (length-units_of size n _)

pub units_sized : (size n : ℕ) (bytes : List ℕ) → n * size ≤ length bytes → Sized size (units_of size n bytes)
units_sized size zero bytes fits = tt
units_sized size (suc n) bytes fits =
    let more : n * size + size ≤ length bytes = omega (arith, fits) in (
      length-take-le size bytes (omega (arith, more)),
      units_sized size n (drop size bytes) (omega (arith, more, length-drop size bytes)),
    )

pub blocks_sized : (form : Form) (units : List (List ℕ)) → Sized (unit_size form) units
    → Sized 96 (map (block_of form) units)
blocks_sized form [] sized = tt
blocks_sized Raw (u ∷ units) sized = (sized.0, blocks_sized Raw units sized.1)
blocks_sized Sector (u ∷ units) sized =
    (omega (arith, length-drop 2352 u, sized.0), blocks_sized Sector units sized.1)
blocks_sized Cooked (u ∷ units) sized = (sized.0, blocks_sized Cooked units sized.1)

-- the packs of some bytes, from their units
pub by_units : (form : Form) (lead_in : ℕ) (bytes : List ℕ) (units : List (List ℕ))
    → units_of (unit_size form) (length bytes / unit_size form) bytes ≡ units → Sized (unit_size form) units
    → IsConverted form lead_in bytes (cdg_bytes (found_in form (program form lead_in units)))
    (bad_count (found_in form (program form lead_in units)))
by_units form lead_in bytes units same sized = record {
  found = found_in form (program form lead_in units);
  recovered =
      subst (λ (us : List (List ℕ)). IsRecovered form (flat_map symbols_of (program form lead_in us))
      (found_in form (program form lead_in units))) (sym same)
      (recovered form (program form lead_in units) (sized_drop 96 lead_in _ (blocks_sized form units sized)));
  text_is = refl;
  bad_is = refl;
}

-- A stage is a conversion if its output is the packs of the units and it counts the bad ones.
pub converts_by : {S : Type 0} (form : Form) (lead_in : ℕ) (machine : Machine S) (s : S) (bad_of : S → ℕ)
    → ((units : List (List ℕ)) → concat (run_gives machine.next machine.gives s units)
    ≡ cdg_bytes (found_in form (program form lead_in units)))
    → ((units : List (List ℕ)) → length units ≤ most_units
    → bad_of (run_state machine.next s units) ≡ bad_count (found_in form (program form lead_in units)))
    → Plays (IsConverted form lead_in) form machine s bad_of
converts_by form lead_in machine s bad_of text bad = record {
  says = λ bytes n few whole.
      let size : ℕ = unit_size form in
      let units : List (List ℕ) = units_of size n bytes in
      let converted =
      by_units form lead_in bytes units (ap (λ k. units_of size k bytes) (units_in form n bytes whole))
      (units_sized size n bytes whole.fits) in
      let counted = sym (bad units (omega (arith, few, length-units_of size n bytes))) in
      subst (λ b. IsConverted form lead_in bytes (given size machine s bytes n) b) counted
      (subst (λ (t : List ℕ).
      IsConverted form lead_in bytes t (bad_count (found_in form (program form lead_in units))))
      (sym (text units)) converted);
}
