-- The times of the pictures of a generated script.
use Rattle.std.proofs.Common.{◌≡◌, ℕ, zero, suc, ◌+◌, ◌*◌, ◌<◌, List, [], ◌∷◌, ◌++◌, length, get_or, map, flat_map, refl, ap, ◌∙◌, arith}
use Rattle.std.proofs.lemmas.List.Elements.{filter_map-append}
use Rattle.std.proofs.lemmas.List.FromFn.{length-map-range_with_len, get_or-map-range_with_len}
use Rattle.std.specs.List.{range_with_len}
use Rattle.bit_lists.specs.Counting.{below}
use Rattle.picture_script.specs.Script.{shown_times, shows, pictures, ready_time, hold_time}
use Rattle.cdg_workload.specs.Generated.{grey, picture, generated_drawings}
use Rattle.cdg_workload.proofs.Accepting.{times}

picture_shown : (seed k : ℕ) → shows (picture seed k) ≡ times k ∷ []
unfolding shows picture
picture_shown seed k = refl

pictures_shown : (seed m k : ℕ)
    → shows (flat_map (picture seed) (range_with_len k m)) ≡ map times (range_with_len k m)
unfolding shows
pictures_shown seed zero k = refl
pictures_shown seed (suc m) k =
    filter_map-append shown_times (picture seed k) (flat_map (picture seed) (range_with_len (k + 1) m))
    ∙ ap (λ l. l ++ shows (flat_map (picture seed) (range_with_len (k + 1) m))) (picture_shown seed k)
    ∙ ap (λ l. times k ∷ l) (pictures_shown seed m (k + 1))

all_shown : (seed count : ℕ) → shows (generated_drawings seed count) ≡ map times (below count)
unfolding shows generated_drawings
all_shown seed count =
    filter_map-append shown_times (map grey (below 16)) (flat_map (picture seed) (below count))
    ∙ pictures_shown seed count 0

pub so_many : (seed count : ℕ) → pictures (generated_drawings seed count) ≡ count
so_many seed count = ap length (all_shown seed count) ∙ length-map-range_with_len times 0 count

time_at : (seed count k : ℕ) → k < count → get_or (shows (generated_drawings seed count)) k (0, 0) ≡ times k
time_at seed count k lt = ap (λ (l : List (ℕ × ℕ)). get_or l k (0, 0)) (all_shown seed count)
    ∙ get_or-map-range_with_len times 0 count k k (0, 0) lt (omega arith)

pub ready_at : (seed count k : ℕ) → k < count → ready_time (generated_drawings seed count) k ≡ 800 * (k + 1)
ready_at seed count k lt = ap (λ (t : ℕ × ℕ). t.0) (time_at seed count k lt)

pub hold_at : (seed count k : ℕ) → k < count
    → hold_time (generated_drawings seed count) k ≡ 800 * (k + 1) + 20
hold_at seed count k lt = ap (λ (t : ℕ × ℕ). t.1) (time_at seed count k lt)
