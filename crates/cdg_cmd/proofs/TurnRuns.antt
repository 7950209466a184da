-- A stage that converts each block, from the run of its pump.
use Rattle.std.proofs.Common.{◌≡◌, ℕ, zero, suc, ◌+◌, ◌*◌, ◌/◌, ◌%◌, ◌<◌, ◌≤◌, List, [], ◌∷◌, ◌++◌, length, map, take, drop, refl, sym, ap, ap₂, ◌∙◌, subst, arith, Some, Result, Ok, Err}
use Rattle.std.specs.Prelude.{slice_index_or, slice_index}
use Rattle.std.specs.List.{concat, flat_map}
use Rattle.std.proofs.lemmas.List.{length-append, length-drop, length-take-le}
use Rattle.std.proofs.lemmas.List.FromFn.{length-map-range_with_len, get_or-map-range_with_len}
use Rattle.std.proofs.Math.Seq.{take-append_seam, drop-append_seam}
use Rattle.bit_lists.specs.Counting.{below, parts, whole_parts}
use Rattle.cdg_io.specs.Run.{run_gives}
use Rattle.cdg_io.specs.Change.{Moved}
use Rattle.cdg_io.specs.Pump.{Machine, Pumps, given, units_of}
use Rattle.cdg_io.specs.Streams.{Reading, as_pumped}
use Rattle.cdg_io.specs.declared.pumping.Pumped.{Pumped}
use Rattle.cdg_io.specs.declared.pumping.PumpStop.{PumpStop}
use Rattle.cdg_io.specs.declared.pumping.PumpStop.TheVariants as pump
use Rattle.cdg_io.proofs.Streaming.{IsWhole, IsReported, bytes_of, streams_done, streams_stop}
use Rattle.raw_subcode.specs.Channels.{IsPlanarForm}
use Rattle.raw_subcode.specs.PlanarBytes.{block_from_planar, gathered_at, packed_at, planar_form}
use Rattle.raw_subcode.proofs.Eight.{from_planar_is, to_planar_is}
use Rattle.q_channel.specs.PlanarStream.{TurnsBlocks}
use Rattle.cdg_cmd.specs.Turns.{IsTurned, ChangesBlocks}

-- a stage that maps each unit
abbrev turner : {S : Type 0} → (List ℕ → List ℕ) → Machine S
turner f = record { next = λ t _. t; gives = λ _ x. Some (f x) }

-- the run of a stage that maps each unit
map_gives : {S : Type 0} (f : List ℕ → List ℕ) (s : S) (xs : List (List ℕ))
    → concat (run_gives (λ t _. t) (λ _ x. Some (f x)) s xs) ≡ flat_map f xs
map_gives f s [] = refl
map_gives f s (x ∷ xs) = ap (λ (l : List ℕ). f x ++ l) (map_gives f s xs)

-- `f` converts blocks: it turns each 96 bytes into 96 bytes.
pub record IsTurn (turned : List ℕ → List ℕ → Type 0) (f : List ℕ → List ℕ) : Type 0 where
  pub size : (u : List ℕ) → length (f u) ≡ 96
  pub each : (u : List ℕ) → length u ≡ 96 → turned u (f u)

module _ (turned : List ℕ → List ℕ → Type 0) (f : List ℕ → List ℕ) (turn : IsTurn turned f) where
  seam : (u rest : List ℕ) → take 96 (f u ++ rest) ≡ f u
  seam u rest = subst (λ k. take k (f u ++ rest) ≡ f u) (turn.size u) (take-append_seam (f u) rest)

  after : (u rest : List ℕ) → drop 96 (f u ++ rest) ≡ rest
  after u rest = subst (λ k. drop k (f u ++ rest) ≡ rest) (turn.size u) (drop-append_seam (f u) rest)

  -- the parts of the text are the converted blocks
  text_parts : (n : ℕ) (bytes : List ℕ)
      → parts n 96 (flat_map f (units_of 96 n bytes)) ≡ map f (units_of 96 n bytes)
  text_parts zero bytes = refl
  text_parts (suc n) bytes =
      let u : List ℕ = take 96 bytes in
      let rest : List ℕ = flat_map f (units_of 96 n (drop 96 bytes)) in
      ap₂ (λ x xs. x ∷ xs) (seam u rest) (ap (parts n 96) (after u rest) ∙ text_parts n (drop 96 bytes))

  text_size : (n : ℕ) (bytes : List ℕ) → length (flat_map f (units_of 96 n bytes)) ≡ 96 * n
  text_size zero bytes = refl
  text_size (suc n) bytes =
      let rest : List ℕ = flat_map f (units_of 96 n (drop 96 bytes)) in
      let sum : length (f (take 96 bytes) ++ rest) ≡ length (f (take 96 bytes)) + length rest =
      length-append (f (take 96 bytes)) rest in
      omega (arith, sum, turn.size (take 96 bytes), text_size n (drop 96 bytes))

  each_unit : (n : ℕ) (bytes : List ℕ) → n * 96 ≤ length bytes → (k : ℕ) → k < n
      → turned (slice_index_or (units_of 96 n bytes) k []) (slice_index_or (map f (units_of 96 n bytes)) k [])
  each_unit zero bytes fits k lt = absurd (omega (arith, lt))
  each_unit (suc n) bytes fits zero lt =
      turn.each (take 96 bytes) (length-take-le 96 bytes (omega (arith, fits)))
  each_unit (suc n) bytes fits (suc k) lt =
      each_unit n (drop 96 bytes) (omega (arith, fits, length-drop 96 bytes)) k (omega (arith, lt))

  turned_text : (bytes : List ℕ) (n : ℕ) → IsWhole 96 n bytes
      → TurnsBlocks turned bytes (flat_map f (units_of 96 n bytes))
  turned_text bytes n whole =
      let count : length bytes / 96 ≡ n = omega (arith, whole.fits, whole.rest) in
      let text : List ℕ = flat_map f (units_of 96 n bytes) in
      let size : length text ≡ 96 * n = text_size n bytes in
      let texts : length text / 96 ≡ n = omega (arith, size) in
      let same : whole_parts 96 text ≡ map f (units_of 96 n bytes) =
      ap (λ k. parts k 96 text) texts ∙ text_parts n bytes in
      record {
        size = omega (arith, size, count);
        blocks = λ k lt.
            subst (λ (ps : List (List ℕ)).
            turned (slice_index_or (whole_parts 96 bytes) k []) (slice_index_or ps k [])) (sym same)
            (subst (λ c. turned (slice_index_or (parts c 96 bytes) k [])
            (slice_index_or (map f (units_of 96 n bytes)) k [])) (sym count)
            (each_unit n bytes whole.fits k (omega (arith, lt, count))));
      }

  says : {S : Type 0} (s : S) (bytes : List ℕ) (n : ℕ) → IsWhole 96 n bytes
      → IsTurned (TurnsBlocks turned) bytes (record { units = n }) (given 96 (turner f) s bytes n)
  says s bytes n whole = record {
    units = omega (arith, whole.fits, whole.rest);
    written =
        subst (TurnsBlocks turned bytes) (sym (map_gives f s (units_of 96 n bytes)))
        (turned_text bytes n whole);
  }

  reported : (stop : PumpStop) → IsReported pump.Torn pump.WriteFault stop stop
  reported stop = record { fault_kept = λ e. e; fault_only = λ e. e; torn_only = λ n e. e }

  abbrev turning : Reading Pumped PumpStop
  turning = as_pumped (record { size = 96; limit = 1000000 }) (IsTurned (TurnsBlocks turned))

  pub turns : {S : Type 0} (moved : Moved S) (taken : List ℕ) (result : Result Pumped PumpStop)
      → Pumps turning.cut (turner f) moved result taken
      → ChangesBlocks (IsTurned (TurnsBlocks turned)) (bytes_of moved) result taken
  turns moved taken (Ok pumped) p =
      streams_done turning (turner f) moved taken pumped pumped (omega arith)
      (λ bytes n few whole. (record { units = n }, says moved.state.before bytes n whole)) p
      (λ whole. says moved.state.before taken pumped.units whole)
  turns moved taken (Err stop) p =
      streams_stop turning (turner f) moved taken stop stop (omega arith) (reported stop)
      (λ bytes n few whole. (record { units = n }, says moved.state.before bytes n whole)) p

-- the two conversions

at : (f : ℕ → ℕ) (n : ℕ) → n < 96 → slice_index (map f (below 96)) n ≡ f n
at f n lt = get_or-map-range_with_len f 0 96 n n 0 lt (omega arith)

pub planar_turn : IsTurn IsPlanarForm planar_form
planar_turn = record {
  size = λ u. length-map-range_with_len (λ i. packed_at u (i / 12) (8 * (i % 12))) 0 96;
  each =
      λ u size. to_planar_is u (planar_form u)
      (length-map-range_with_len (λ i. packed_at u (i / 12) (8 * (i % 12))) 0 96)
      (λ n lt. at (λ i. packed_at u (i / 12) (8 * (i % 12))) n lt);
}

pub block_turn : IsTurn (λ planar block. IsPlanarForm block planar) block_from_planar
block_turn = record {
  size = λ u. length-map-range_with_len (gathered_at u) 0 96;
  each = λ u size. from_planar_is (block_from_planar u) u size (λ n lt. at (gathered_at u) n lt);
}
