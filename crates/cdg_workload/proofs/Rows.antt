-- Blocks of a row, which the stage changes in place.
use Rattle.std.proofs.Common.{◌≡◌, ℕ, min, ◌+◌, ◌-◌, ◌*◌, ◌≤◌, inl, inr, List, [], ◌++◌, length, take, drop, Some, refl, sym, ap, ap₂, ◌∙◌, append-nil, length-drop, length-take-le, take_all, arith}
use Rattle.std.proofs.lemmas.Bool.{cases_lt}
use Rattle.std.proofs.lemmas.List.{drop_all, take_rest, take-append-drop}
use Rattle.std.proofs.lemmas.Slice.{take-put_mid, drop-put_mid}
use Rattle.std.specs.List.{concat}
use borrow.Rule.Slice.PartMut.{put_mid}
use Rattle.cdg_io.specs.Change.{from_to}
use Rattle.cdg_io.specs.Pump.{Works, units_of}
use Rattle.cdg_io.specs.Run.{run_state, run_gives}
use Rattle.cdg_io.proofs.Frames.{machine_of, moving}
use Rattle.cdg_workload.specs.Steps.{block_next, block_gives}
use Rattle.cdg_workload.specs.declared.needle.Needle.{Needle}
use Rattle.cdg_workload.specs.declared.scratching.Scratches.{Scratches}
use Rattle.cdg_workload.proofs.Needles.{run}
use Rattle.cdg_workload.proofs.BlockRuns.{stage, state, stream_blocks, stream_state, units_counted, units_joined, units_sized}

-- a cut behind the end is a cut at the end
cut_alike : (bytes : List ℕ) (n l m k : ℕ) → length bytes ≡ 96 * n → m ≡ min l n → k ≡ 96 * m
    → take (96 * l) bytes ≡ take k bytes
cut_alike bytes n l m k size few place =
    elim (cases_lt n l) [
      | inl short ↦
          take_all (96 * l) bytes (omega (arith, size, short))
          ∙ sym (take_all k bytes (omega (arith, size, short, few, place)))
      | inr long ↦ ap (λ c. take c bytes) (omega (arith, long, few, place))
    ]

left_alike : (bytes : List ℕ) (n l m k : ℕ) → length bytes ≡ 96 * n → m ≡ min l n → k ≡ 96 * m
    → drop (96 * l) bytes ≡ drop k bytes
left_alike bytes n l m k size few place =
    elim (cases_lt n l) [
      | inl short ↦
          drop_all (96 * l) bytes (omega (arith, size, short))
          ∙ sym (drop_all k bytes (omega (arith, size, short, few, place)))
      | inr long ↦ ap (λ c. drop c bytes) (omega (arith, long, few, place))
    ]

-- the blocks of a row: the lead-in is unchanged, and a needle changes the bytes behind it
row_of_blocks : (s : Scratches) (bytes : List ℕ) (n m k : ℕ) → length bytes ≡ 96 * n → m ≡ min s.lead_in n
    → k ≡ 96 * m
    → (stage (s.lead_in - m) (state s.needle (drop k bytes))
    ≡ run_state block_next s (units_of 96 n bytes))
    × (take k bytes ++ run s.needle (drop k bytes)
    ≡ concat (run_gives block_next block_gives s (units_of 96 n bytes)))
row_of_blocks s bytes n m k size few place =
    let l = s.lead_in in
    let units = units_of 96 n bytes in
    let sized = units_sized n bytes (omega (arith, size)) in
    let whole : concat units ≡ bytes = units_joined n (96 * n) bytes (omega arith) ∙ take_all (96 * n) bytes
    (omega (arith, size)) in
    let less : l - length units ≡ l - m = omega (arith, units_counted n bytes, few) in
    let front : take (96 * l) bytes ≡ take k bytes = cut_alike bytes n l m k size few place in
    let behind : drop (96 * l) bytes ≡ drop k bytes = left_alike bytes n l m k size few place in (
      sym (stream_state l (96 * l) s.needle units refl sized
          ∙ ap₂ (λ c (rest : List ℕ). stage c (state s.needle rest)) less
          (ap (drop (96 * l)) whole ∙ behind)),
      sym (stream_blocks l (96 * l) s.needle units refl sized
          ∙ ap (λ (all : List ℕ). take (96 * l) all ++ run s.needle (drop (96 * l) all)) whole
          ∙ ap₂ (λ (a b : List ℕ). a ++ run s.needle b) front behind),
    )

-- the same, for a needle that changed the part of a row behind the lead-in
pub row_scratched : (s : Scratches) (t : Needle) (bytes part new : List ℕ) (n m k : ℕ) → length bytes ≡ 96 * n
    → m ≡ min s.lead_in n → k ≡ 96 * m → part ≡ take (length bytes - k) (drop k bytes)
    → t ≡ state s.needle part → new ≡ run s.needle part
    → (stage (s.lead_in - m) t ≡ run_state block_next s (units_of 96 n bytes))
    × (put_mid k (length bytes - k) bytes new
    ≡ concat (run_gives block_next block_gives s (units_of 96 n bytes)))
row_scratched s t bytes part new n m k size few place is now gave =
    let (after, given) = row_of_blocks s bytes n m k size few place in
    let rest : part ≡ drop k bytes = is ∙ take_rest bytes k in
    let none : drop (length bytes - k) (drop k bytes) ≡ [] =
    drop_all (length bytes - k) (drop k bytes) (omega (arith, length-drop k bytes)) in (
      ap (stage (s.lead_in - m)) (now ∙ ap (state s.needle) rest) ∙ after,
      ap₂ (λ (a b : List ℕ). take k bytes ++ (a ++ b)) (gave ∙ ap (run s.needle) rest) none
          ∙ ap (λ l. take k bytes ++ l) (append-nil (run s.needle (drop k bytes))) ∙ given,
    )
