-- The greatest time of a sheet is the time of its last index line.
use Rattle.std.proofs.Common.{◌≡◌, ℕ, zero, suc, ◌+◌, ◌-◌, ◌≤◌, ◌<◌, List, [], ◌∷◌, length, get_or, arith, inl, inr}
use Rattle.std.specs.Prelude.{map}
use Rattle.std.proofs.lemmas.List.{get_or-map, length-map}
use Rattle.std.proofs.lemmas.Bool.{cases_lt}
use Rattle.cue_sheet.specs.CueSheet.{CueSheet, CueTrack, track_of, no_track, index_line_of, IsSheet}
use Rattle.toc_model.specs.Places.{greatest, latest_time, audio_need}

greatest-bound : (xs : List ℕ) (i : ℕ) → i < length xs → get_or xs i 0 ≤ greatest xs
unfolding greatest
greatest-bound [] i lt = absurd (omega arith)
greatest-bound (x ∷ xs) zero lt = omega arith
greatest-bound (x ∷ xs) (suc i) lt =
    let more : get_or xs i 0 ≤ greatest xs = greatest-bound xs i (omega arith) in
    omega (arith, more)

greatest-least : (xs : List ℕ) (m : ℕ) → ((i : ℕ) → i < length xs → get_or xs i 0 ≤ m) → greatest xs ≤ m
unfolding greatest
greatest-least [] m all = omega arith
greatest-least (x ∷ xs) m all =
    let more : greatest xs ≤ m = greatest-least xs m (λ i lt. all (suc i) (omega arith)) in
    let here : x ≤ m = all zero (omega arith) in omega (arith, more, here)

-- a time of a track is at most its latest time
pub latest_time-bound : (track : CueTrack) (i : ℕ) → i < length track.indices
    → (index_line_of track i).1 ≤ latest_time track
latest_time-bound track i lt =
    let time : (ℕ × ℕ) → ℕ = λ line. line.1 in
    let size = length-map track.indices time in
    let at : get_or (map time track.indices) i 0 ≡ (get_or track.indices i (0, 0)).1 =
    get_or-map time track.indices i (0, 0) 0 lt in
    omega (arith, at, greatest-bound (map time track.indices) i (omega (arith, size)))

latest_time-least : (track : CueTrack) (m : ℕ)
    → ((i : ℕ) → i < length track.indices → (index_line_of track i).1 ≤ m)
    → latest_time track ≤ m
latest_time-least track m all =
    let time : (ℕ × ℕ) → ℕ = λ line. line.1 in
    let size = length-map track.indices time in
    greatest-least (map time track.indices) m (λ i lt.
    let within : i < length track.indices = omega (arith, size) in
    rw (get_or-map time track.indices i (0, 0) 0 within) (all i within))

-- each time of a sheet is below its need
pub time-below-need : (sheet : CueSheet) (k i : ℕ) → k < length sheet.tracks
    → i < length (track_of sheet k).indices
    → (index_line_of (track_of sheet k) i).1 < audio_need sheet
unfolding audio_need
time-below-need sheet k i lt within =
    let size = length-map sheet.tracks latest_time in
    let at : get_or (map latest_time sheet.tracks) k 0 ≡ latest_time (track_of sheet k) =
    get_or-map latest_time sheet.tracks k no_track 0 lt in
    omega (
      arith,
      at,
      latest_time-bound (track_of sheet k) i within,
      greatest-bound (map latest_time sheet.tracks) k (omega (arith, size)),
    )

need-least : (sheet : CueSheet) (m : ℕ) → ((k i : ℕ) → k < length sheet.tracks
    → i < length (track_of sheet k).indices
    → (index_line_of (track_of sheet k) i).1 ≤ m)
    → audio_need sheet ≤ m + 1
unfolding audio_need
need-least sheet m all =
    let size = length-map sheet.tracks latest_time in
    let most : greatest (map latest_time sheet.tracks) ≤ m =
    greatest-least (map latest_time sheet.tracks) m (λ k lt.
    let within : k < length sheet.tracks = omega (arith, size) in
    rw (get_or-map latest_time sheet.tracks k no_track 0 within)
    (latest_time-least (track_of sheet k) m (λ i here. all k i within here))) in
    omega (arith, most)

-- if a sheet is in order, no time is above that of the last line of its last track
pub need_is_last : (sheet : CueSheet) (last line time : ℕ) → IsSheet sheet → last ≡ length sheet.tracks - 1
    → line ≡ length (track_of sheet last).indices - 1
    → time ≡ (index_line_of (track_of sheet last) line).1 → time + 1 ≡ audio_need sheet
need_is_last sheet last line time good at_last at_line at_time =
    let here : last < length sheet.tracks = omega (arith, good.count) in
    let lines = (good.tracks last here).indices in
    let some : line < length (track_of sheet last).indices = omega (arith, lines.first, lines.has_one) in
    let low : time < audio_need sheet = omega (arith, at_time, time-below-need sheet last line here some) in
    let high : audio_need sheet ≤ time + 1 = need-least sheet time (λ k i lt within.
    elim (cases_lt k last) [
      | inl before ↦ omega
          (arith, at_time, good.order k last i before here within, lines.order 0 line (omega arith) some)
      | inr after ↦ let same : k ≡ last = omega arith in
          let bound : i < length (track_of sheet last).indices = rw same at within in
          rw same (omega (arith, at_time, lines.order i line (omega arith) some))
    ]) in
    omega (arith, low, high)
