-- Units that are changed in place.
use Rattle.std.proofs.Common.{◌≡◌, ℕ, ◌+◌, ◌-◌, ◌*◌, ◌≤◌, List, ◌++◌, length, take, drop, Some, sym, ap, ap₂, ◌∙◌, length-take-le, arith}
use Rattle.std.proofs.Math.Nat.{mul_comm}
use Rattle.std.proofs.lemmas.List.{take-append-drop}
use Rattle.std.proofs.lemmas.Slice.{take-put_mid, drop-put_mid}
use Rattle.std.specs.List.{concat}
use Rattle.std.specs.declared.option.Option.{Option}
use borrow.Rule.Slice.PartMut.{put_mid}
use Rattle.cdg_io.specs.Change.{from_to}
use Rattle.cdg_io.specs.Pump.{Works, units_of}
use Rattle.cdg_io.specs.Run.{run_state, run_gives}
use Rattle.cdg_io.proofs.Frames.{machine_of, moving}

-- The first units of a row were copied to a buffer and changed there: the row keeps its other units, the stage ran,
-- and its output is behind the earlier bytes of the buffer.
pub row_passes : {S : Type 0} (next : S → List ℕ → S) (gives : S → List ℕ → Option (List ℕ)) (s s' : S)
    (row row' copied buffer new : List ℕ) (start unit n size end : ℕ)
    → size ≡ unit * n → size ≤ length row → copied ≡ take size row → row' ≡ drop size row
    → s' ≡ run_state next s (units_of unit n copied)
    → take end new ≡ take start buffer ++ concat (run_gives next gives s (units_of unit n copied))
    → Works unit (machine_of next gives) (moving (from_to (Some row) (Some row')) (from_to s s')
    (from_to (Some (take start buffer)) (Some (take end new)))) n copied
row_passes next gives s s' row row' copied buffer new start unit n size end count fits copy left after put =
    record {
      taken_from = sym (take-append-drop size row) ∙ ap₂ (λ (a b : List ℕ). a ++ b) (sym copy) (sym left);
      units = ap length copy ∙ length-take-le size row fits ∙ count ∙ mul_comm unit n;
      state = after;
      put = put;
    }

-- the changed part of a buffer is behind the bytes before it
pub put_behind : (buffer changed : List ℕ) (start size end : ℕ) → start ≤ length buffer → end ≡ start + size
    → length changed ≡ size
    → take end (put_mid start (end - start) buffer changed) ≡ take start buffer ++ changed
put_behind buffer changed start size end within at long =
    take-put_mid start (end - start) buffer changed end (omega (arith, at, long)) within

-- and the bytes behind it are unchanged
pub stays_behind : (buffer changed : List ℕ) (start size end : ℕ) → start ≤ length buffer
    → end ≡ start + size → length changed ≡ size
    → drop end (put_mid start (end - start) buffer changed) ≡ drop end buffer
stays_behind buffer changed start size end within at long =
    drop-put_mid start (end - start) buffer changed end (omega (arith, at)) within (omega (arith, at, long))
