-- The gaps of one more track.
use Rattle.std.proofs.Common.{◌≡◌, ℕ, ◌+◌, ◌≤◌, ◌<◌, List, length, take, arith, refl}
use Rattle.std.specs.Prelude.{sum_by}
use Rattle.std.proofs.lemmas.List.Sums.{sum_by_more, sum_by-take-le}
use Rattle.std.proofs.lemmas.Grind.{common_steps}
use Rattle.cue_sheet.specs.CueSheet.{CueSheet, CueTrack, track_of, no_track}
use Rattle.toc_model.specs.Places.{pregaps_to, postgaps_to}

pub pregaps_to-more : (sheet : CueSheet) (k : ℕ) → k < length sheet.tracks
    → pregaps_to sheet (k + 1) ≡ pregaps_to sheet k + (track_of sheet k).pregap
unfolding pregaps_to
pregaps_to-more sheet k lt = sum_by_more (λ (t : CueTrack). t.pregap) sheet.tracks k no_track lt

pub postgaps_to-more : (sheet : CueSheet) (k : ℕ) → k < length sheet.tracks
    → postgaps_to sheet (k + 1) ≡ postgaps_to sheet k + (track_of sheet k).postgap
unfolding postgaps_to
postgaps_to-more sheet k lt = sum_by_more (λ (t : CueTrack). t.postgap) sheet.tracks k no_track lt

pub pregaps_to-zero : (sheet : CueSheet) → pregaps_to sheet 0 ≡ 0
unfolding pregaps_to
pregaps_to-zero sheet = refl

pub postgaps_to-zero : (sheet : CueSheet) → postgaps_to sheet 0 ≡ 0
unfolding postgaps_to
postgaps_to-zero sheet = refl

grows : (f : CueTrack → ℕ) (tracks : List CueTrack) (j k : ℕ) → j ≤ k
    → sum_by f (take j tracks) ≤ sum_by f (take k tracks)
grows f tracks j k le =
    let front : take j (take k tracks) ≡ take j tracks = grind (arith, common_steps) in
    rw (← front) (sum_by-take-le f (take k tracks) j)

pub pregaps_to-le : (sheet : CueSheet) (j k : ℕ) → j ≤ k → pregaps_to sheet j ≤ pregaps_to sheet k
unfolding pregaps_to
pregaps_to-le sheet j k le = grows (λ (t : CueTrack). t.pregap) sheet.tracks j k le

pub postgaps_to-le : (sheet : CueSheet) (j k : ℕ) → j ≤ k → postgaps_to sheet j ≤ postgaps_to sheet k
unfolding postgaps_to
postgaps_to-le sheet j k le = grows (λ (t : CueTrack). t.postgap) sheet.tracks j k le
