use Rattle.std.proofs.Common.{◌≡◌, ◌+◌, ◌*◌, ◌/◌, ◌<◌, ℕ, [], ◌∷◌, refl, arith}
use Rattle.std.specs.Prelude.{slice_index}
use Rattle.raw_subcode.specs.Rows.{in_rows}
use Rattle.raw_subcode.proofs.RowBits.{eight, eight_rows, placed_in, woven_four}
use Rattle.raw_subcode.proofs.rows.place_rows.Goals as goal

pub returns-clause-rows : goal.returns-clause-rows
returns-clause-rows c =
    eight_rows _ _ _ _ _ _ _ _ c.woven-13.ensures.first_size c.woven-13.ensures.second_size
    c.woven-14.ensures.first_size c.woven-14.ensures.second_size c.woven-15.ensures.first_size
    c.woven-15.ensures.second_size c.woven-16.ensures.first_size c.woven-16.ensures.second_size

pub returns-clause-lanes : goal.returns-clause-lanes
returns-clause-lanes c = λ j k j_lt k_lt.
    let bytes = c.args.bytes.now in
    eight (λ j. (k : ℕ) → k < 12
    → in_rows (c.woven-13.result.0 ∷ c.woven-13.result.1 ∷ c.woven-14.result.0 ∷ c.woven-14.result.1
    ∷ c.woven-15.result.0 ∷ c.woven-15.result.1 ∷ c.woven-16.result.0 ∷ c.woven-16.result.1 ∷ []) j k
    ≡ slice_index bytes (8 * k + j))
    (λ k lt.
    let q = k / 2 in
    let s = q / 2 in
    let t = s / 2 in
    woven_four bytes c.woven-9.result.0 c.woven-11.result.0 c.woven-5.result.0 c.woven-6.result.0
    c.woven-7.result.0 c.woven-8.result.0
    c.woven.result.0 c.woven.result.1 c.woven-2.result.0 c.woven-2.result.1 c.woven-3.result.0
    c.woven-3.result.1 c.woven-4.result.0 c.woven-4.result.1
    c.sixteen.result c.sixteen-3.result c.sixteen-5.result c.sixteen-6.result c.sixteen-2.result
    c.sixteen-4.result _ (slice_index c.woven-13.result.0 k) 0 k q s t (t / 2) (8 + t / 2)
    (placed_in bytes c.sixteen.result 0 k 0 c.sixteen.ensures.lanes)
    (placed_in bytes c.sixteen-3.result 0 k 1 c.sixteen-3.ensures.lanes)
    (placed_in bytes c.sixteen-5.result 0 k 2 c.sixteen-5.ensures.lanes)
    (placed_in bytes c.sixteen-6.result 0 k 3 c.sixteen-6.ensures.lanes)
    (placed_in bytes c.sixteen-2.result 0 k 4 c.sixteen-2.ensures.lanes)
    (placed_in bytes c.sixteen-4.result 0 k 5 c.sixteen-4.ensures.lanes)
    (c.woven-13.ensures.first k (omega arith)) (c.woven-9.ensures.first q (omega arith))
    (c.woven-11.ensures.first q (omega arith)) (c.woven-5.ensures.first s (omega arith))
    (c.woven-6.ensures.first s (omega arith)) (c.woven-7.ensures.first s (omega arith))
    (c.woven-8.ensures.first s (omega arith))
    (c.woven.ensures.first t (omega arith)) (c.woven.ensures.second t (omega arith))
    (c.woven-2.ensures.first t (omega arith)) (c.woven-2.ensures.second t (omega arith))
    (c.woven-3.ensures.first t (omega arith)) (c.woven-3.ensures.second t (omega arith))
    (c.woven-4.ensures.first t (omega arith)) (c.woven-4.ensures.second t (omega arith))
    (omega arith) lt (omega arith) refl (omega arith))
    (λ k lt.
    let q = 8 + k / 2 in
    let s = q / 2 in
    let t = s / 2 in
    woven_four bytes c.woven-9.result.0 c.woven-11.result.0 c.woven-5.result.0 c.woven-6.result.0
    c.woven-7.result.0 c.woven-8.result.0
    c.woven.result.0 c.woven.result.1 c.woven-2.result.0 c.woven-2.result.1 c.woven-3.result.0
    c.woven-3.result.1 c.woven-4.result.0 c.woven-4.result.1
    c.sixteen.result c.sixteen-3.result c.sixteen-5.result c.sixteen-6.result c.sixteen-2.result
    c.sixteen-4.result _ (slice_index c.woven-13.result.1 k) 1 k q s t (t / 2) (8 + t / 2)
    (placed_in bytes c.sixteen.result 1 k 0 c.sixteen.ensures.lanes)
    (placed_in bytes c.sixteen-3.result 1 k 1 c.sixteen-3.ensures.lanes)
    (placed_in bytes c.sixteen-5.result 1 k 2 c.sixteen-5.ensures.lanes)
    (placed_in bytes c.sixteen-6.result 1 k 3 c.sixteen-6.ensures.lanes)
    (placed_in bytes c.sixteen-2.result 1 k 4 c.sixteen-2.ensures.lanes)
    (placed_in bytes c.sixteen-4.result 1 k 5 c.sixteen-4.ensures.lanes)
    (c.woven-13.ensures.second k (omega arith)) (c.woven-9.ensures.first q (omega arith))
    (c.woven-11.ensures.first q (omega arith)) (c.woven-5.ensures.first s (omega arith))
    (c.woven-6.ensures.first s (omega arith)) (c.woven-7.ensures.first s (omega arith))
    (c.woven-8.ensures.first s (omega arith))
    (c.woven.ensures.first t (omega arith)) (c.woven.ensures.second t (omega arith))
    (c.woven-2.ensures.first t (omega arith)) (c.woven-2.ensures.second t (omega arith))
    (c.woven-3.ensures.first t (omega arith)) (c.woven-3.ensures.second t (omega arith))
    (c.woven-4.ensures.first t (omega arith)) (c.woven-4.ensures.second t (omega arith))
    (omega arith) lt (omega arith) refl (omega arith))
    (λ k lt.
    let q = k / 2 in
    let s = 8 + q / 2 in
    let t = s / 2 in
    woven_four bytes c.woven-9.result.1 c.woven-11.result.1 c.woven-5.result.0 c.woven-6.result.0
    c.woven-7.result.0 c.woven-8.result.0
    c.woven.result.0 c.woven.result.1 c.woven-2.result.0 c.woven-2.result.1 c.woven-3.result.0
    c.woven-3.result.1 c.woven-4.result.0 c.woven-4.result.1
    c.sixteen.result c.sixteen-3.result c.sixteen-5.result c.sixteen-6.result c.sixteen-2.result
    c.sixteen-4.result _ (slice_index c.woven-14.result.0 k) 2 k q s t (t / 2) (8 + t / 2)
    (placed_in bytes c.sixteen.result 2 k 0 c.sixteen.ensures.lanes)
    (placed_in bytes c.sixteen-3.result 2 k 1 c.sixteen-3.ensures.lanes)
    (placed_in bytes c.sixteen-5.result 2 k 2 c.sixteen-5.ensures.lanes)
    (placed_in bytes c.sixteen-6.result 2 k 3 c.sixteen-6.ensures.lanes)
    (placed_in bytes c.sixteen-2.result 2 k 4 c.sixteen-2.ensures.lanes)
    (placed_in bytes c.sixteen-4.result 2 k 5 c.sixteen-4.ensures.lanes)
    (c.woven-14.ensures.first k (omega arith)) (c.woven-9.ensures.second q (omega arith))
    (c.woven-11.ensures.second q (omega arith)) (c.woven-5.ensures.first s (omega arith))
    (c.woven-6.ensures.first s (omega arith)) (c.woven-7.ensures.first s (omega arith))
    (c.woven-8.ensures.first s (omega arith))
    (c.woven.ensures.first t (omega arith)) (c.woven.ensures.second t (omega arith))
    (c.woven-2.ensures.first t (omega arith)) (c.woven-2.ensures.second t (omega arith))
    (c.woven-3.ensures.first t (omega arith)) (c.woven-3.ensures.second t (omega arith))
    (c.woven-4.ensures.first t (omega arith)) (c.woven-4.ensures.second t (omega arith))
    (omega arith) lt (omega arith) refl (omega arith))
    (λ k lt.
    let q = 8 + k / 2 in
    let s = 8 + q / 2 in
    let t = s / 2 in
    woven_four bytes c.woven-9.result.1 c.woven-11.result.1 c.woven-5.result.0 c.woven-6.result.0
    c.woven-7.result.0 c.woven-8.result.0
    c.woven.result.0 c.woven.result.1 c.woven-2.result.0 c.woven-2.result.1 c.woven-3.result.0
    c.woven-3.result.1 c.woven-4.result.0 c.woven-4.result.1
    c.sixteen.result c.sixteen-3.result c.sixteen-5.result c.sixteen-6.result c.sixteen-2.result
    c.sixteen-4.result _ (slice_index c.woven-14.result.1 k) 3 k q s t (t / 2) (8 + t / 2)
    (placed_in bytes c.sixteen.result 3 k 0 c.sixteen.ensures.lanes)
    (placed_in bytes c.sixteen-3.result 3 k 1 c.sixteen-3.ensures.lanes)
    (placed_in bytes c.sixteen-5.result 3 k 2 c.sixteen-5.ensures.lanes)
    (placed_in bytes c.sixteen-6.result 3 k 3 c.sixteen-6.ensures.lanes)
    (placed_in bytes c.sixteen-2.result 3 k 4 c.sixteen-2.ensures.lanes)
    (placed_in bytes c.sixteen-4.result 3 k 5 c.sixteen-4.ensures.lanes)
    (c.woven-14.ensures.second k (omega arith)) (c.woven-9.ensures.second q (omega arith))
    (c.woven-11.ensures.second q (omega arith)) (c.woven-5.ensures.first s (omega arith))
    (c.woven-6.ensures.first s (omega arith)) (c.woven-7.ensures.first s (omega arith))
    (c.woven-8.ensures.first s (omega arith))
    (c.woven.ensures.first t (omega arith)) (c.woven.ensures.second t (omega arith))
    (c.woven-2.ensures.first t (omega arith)) (c.woven-2.ensures.second t (omega arith))
    (c.woven-3.ensures.first t (omega arith)) (c.woven-3.ensures.second t (omega arith))
    (c.woven-4.ensures.first t (omega arith)) (c.woven-4.ensures.second t (omega arith))
    (omega arith) lt (omega arith) refl (omega arith))
    (λ k lt.
    let q = k / 2 in
    let s = q / 2 in
    let t = 8 + s / 2 in
    woven_four bytes c.woven-10.result.0 c.woven-12.result.0 c.woven-5.result.1 c.woven-6.result.1
    c.woven-7.result.1 c.woven-8.result.1
    c.woven.result.0 c.woven.result.1 c.woven-2.result.0 c.woven-2.result.1 c.woven-3.result.0
    c.woven-3.result.1 c.woven-4.result.0 c.woven-4.result.1
    c.sixteen.result c.sixteen-3.result c.sixteen-5.result c.sixteen-6.result c.sixteen-2.result
    c.sixteen-4.result _ (slice_index c.woven-15.result.0 k) 4 k q s t (t / 2) (8 + t / 2)
    (placed_in bytes c.sixteen.result 4 k 0 c.sixteen.ensures.lanes)
    (placed_in bytes c.sixteen-3.result 4 k 1 c.sixteen-3.ensures.lanes)
    (placed_in bytes c.sixteen-5.result 4 k 2 c.sixteen-5.ensures.lanes)
    (placed_in bytes c.sixteen-6.result 4 k 3 c.sixteen-6.ensures.lanes)
    (placed_in bytes c.sixteen-2.result 4 k 4 c.sixteen-2.ensures.lanes)
    (placed_in bytes c.sixteen-4.result 4 k 5 c.sixteen-4.ensures.lanes)
    (c.woven-15.ensures.first k (omega arith)) (c.woven-10.ensures.first q (omega arith))
    (c.woven-12.ensures.first q (omega arith)) (c.woven-5.ensures.second s (omega arith))
    (c.woven-6.ensures.second s (omega arith)) (c.woven-7.ensures.second s (omega arith))
    (c.woven-8.ensures.second s (omega arith))
    (c.woven.ensures.first t (omega arith)) (c.woven.ensures.second t (omega arith))
    (c.woven-2.ensures.first t (omega arith)) (c.woven-2.ensures.second t (omega arith))
    (c.woven-3.ensures.first t (omega arith)) (c.woven-3.ensures.second t (omega arith))
    (c.woven-4.ensures.first t (omega arith)) (c.woven-4.ensures.second t (omega arith))
    (omega arith) lt (omega arith) refl (omega arith))
    (λ k lt.
    let q = 8 + k / 2 in
    let s = q / 2 in
    let t = 8 + s / 2 in
    woven_four bytes c.woven-10.result.0 c.woven-12.result.0 c.woven-5.result.1 c.woven-6.result.1
    c.woven-7.result.1 c.woven-8.result.1
    c.woven.result.0 c.woven.result.1 c.woven-2.result.0 c.woven-2.result.1 c.woven-3.result.0
    c.woven-3.result.1 c.woven-4.result.0 c.woven-4.result.1
    c.sixteen.result c.sixteen-3.result c.sixteen-5.result c.sixteen-6.result c.sixteen-2.result
    c.sixteen-4.result _ (slice_index c.woven-15.result.1 k) 5 k q s t (t / 2) (8 + t / 2)
    (placed_in bytes c.sixteen.result 5 k 0 c.sixteen.ensures.lanes)
    (placed_in bytes c.sixteen-3.result 5 k 1 c.sixteen-3.ensures.lanes)
    (placed_in bytes c.sixteen-5.result 5 k 2 c.sixteen-5.ensures.lanes)
    (placed_in bytes c.sixteen-6.result 5 k 3 c.sixteen-6.ensures.lanes)
    (placed_in bytes c.sixteen-2.result 5 k 4 c.sixteen-2.ensures.lanes)
    (placed_in bytes c.sixteen-4.result 5 k 5 c.sixteen-4.ensures.lanes)
    (c.woven-15.ensures.second k (omega arith)) (c.woven-10.ensures.first q (omega arith))
    (c.woven-12.ensures.first q (omega arith)) (c.woven-5.ensures.second s (omega arith))
    (c.woven-6.ensures.second s (omega arith)) (c.woven-7.ensures.second s (omega arith))
    (c.woven-8.ensures.second s (omega arith))
    (c.woven.ensures.first t (omega arith)) (c.woven.ensures.second t (omega arith))
    (c.woven-2.ensures.first t (omega arith)) (c.woven-2.ensures.second t (omega arith))
    (c.woven-3.ensures.first t (omega arith)) (c.woven-3.ensures.second t (omega arith))
    (c.woven-4.ensures.first t (omega arith)) (c.woven-4.ensures.second t (omega arith))
    (omega arith) lt (omega arith) refl (omega arith))
    (λ k lt.
    let q = k / 2 in
    let s = 8 + q / 2 in
    let t = 8 + s / 2 in
    woven_four bytes c.woven-10.result.1 c.woven-12.result.1 c.woven-5.result.1 c.woven-6.result.1
    c.woven-7.result.1 c.woven-8.result.1
    c.woven.result.0 c.woven.result.1 c.woven-2.result.0 c.woven-2.result.1 c.woven-3.result.0
    c.woven-3.result.1 c.woven-4.result.0 c.woven-4.result.1
    c.sixteen.result c.sixteen-3.result c.sixteen-5.result c.sixteen-6.result c.sixteen-2.result
    c.sixteen-4.result _ (slice_index c.woven-16.result.0 k) 6 k q s t (t / 2) (8 + t / 2)
    (placed_in bytes c.sixteen.result 6 k 0 c.sixteen.ensures.lanes)
    (placed_in bytes c.sixteen-3.result 6 k 1 c.sixteen-3.ensures.lanes)
    (placed_in bytes c.sixteen-5.result 6 k 2 c.sixteen-5.ensures.lanes)
    (placed_in bytes c.sixteen-6.result 6 k 3 c.sixteen-6.ensures.lanes)
    (placed_in bytes c.sixteen-2.result 6 k 4 c.sixteen-2.ensures.lanes)
    (placed_in bytes c.sixteen-4.result 6 k 5 c.sixteen-4.ensures.lanes)
    (c.woven-16.ensures.first k (omega arith)) (c.woven-10.ensures.second q (omega arith))
    (c.woven-12.ensures.second q (omega arith)) (c.woven-5.ensures.second s (omega arith))
    (c.woven-6.ensures.second s (omega arith)) (c.woven-7.ensures.second s (omega arith))
    (c.woven-8.ensures.second s (omega arith))
    (c.woven.ensures.first t (omega arith)) (c.woven.ensures.second t (omega arith))
    (c.woven-2.ensures.first t (omega arith)) (c.woven-2.ensures.second t (omega arith))
    (c.woven-3.ensures.first t (omega arith)) (c.woven-3.ensures.second t (omega arith))
    (c.woven-4.ensures.first t (omega arith)) (c.woven-4.ensures.second t (omega arith))
    (omega arith) lt (omega arith) refl (omega arith))
    (λ k lt.
    let q = 8 + k / 2 in
    let s = 8 + q / 2 in
    let t = 8 + s / 2 in
    woven_four bytes c.woven-10.result.1 c.woven-12.result.1 c.woven-5.result.1 c.woven-6.result.1
    c.woven-7.result.1 c.woven-8.result.1
    c.woven.result.0 c.woven.result.1 c.woven-2.result.0 c.woven-2.result.1 c.woven-3.result.0
    c.woven-3.result.1 c.woven-4.result.0 c.woven-4.result.1
    c.sixteen.result c.sixteen-3.result c.sixteen-5.result c.sixteen-6.result c.sixteen-2.result
    c.sixteen-4.result _ (slice_index c.woven-16.result.1 k) 7 k q s t (t / 2) (8 + t / 2)
    (placed_in bytes c.sixteen.result 7 k 0 c.sixteen.ensures.lanes)
    (placed_in bytes c.sixteen-3.result 7 k 1 c.sixteen-3.ensures.lanes)
    (placed_in bytes c.sixteen-5.result 7 k 2 c.sixteen-5.ensures.lanes)
    (placed_in bytes c.sixteen-6.result 7 k 3 c.sixteen-6.ensures.lanes)
    (placed_in bytes c.sixteen-2.result 7 k 4 c.sixteen-2.ensures.lanes)
    (placed_in bytes c.sixteen-4.result 7 k 5 c.sixteen-4.ensures.lanes)
    (c.woven-16.ensures.second k (omega arith)) (c.woven-10.ensures.second q (omega arith))
    (c.woven-12.ensures.second q (omega arith)) (c.woven-5.ensures.second s (omega arith))
    (c.woven-6.ensures.second s (omega arith)) (c.woven-7.ensures.second s (omega arith))
    (c.woven-8.ensures.second s (omega arith))
    (c.woven.ensures.first t (omega arith)) (c.woven.ensures.second t (omega arith))
    (c.woven-2.ensures.first t (omega arith)) (c.woven-2.ensures.second t (omega arith))
    (c.woven-3.ensures.first t (omega arith)) (c.woven-3.ensures.second t (omega arith))
    (c.woven-4.ensures.first t (omega arith)) (c.woven-4.ensures.second t (omega arith))
    (omega arith) lt (omega arith) refl (omega arith))
    j j_lt k k_lt
