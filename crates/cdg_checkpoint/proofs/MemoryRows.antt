-- The memory in a file, row by row.
use Rattle.std.proofs.Common.{◌≡◌, ℕ, zero, suc, ◌+◌, ◌*◌, ◌/◌, ◌%◌, ◌<◌, ◌≤◌, List, [], ◌∷◌, ◌++◌, length, get_or, take, sym, ap, ap₂, ◌∙◌, arith, append_assoc}
use Rattle.std.specs.Prelude.{All}
use Rattle.std.proofs.lemmas.List.{append-nil, take_more, take_all}
use Rattle.std.proofs.lemmas.List.Elements.{All-get_or}
use Rattle.cdg_screen.specs.Standing.{pixel_at}
use Rattle.cdg_checkpoint.specs.Table.{Memory}
use Rattle.cdg_checkpoint.specs.Checkpoint.{Checkpoint}
use Rattle.cdg_checkpoint.proofs.Writing.{first_fields, fields_more, written_byte}

pixel_of_row : (rows : List (List ℕ)) (row : List ℕ) (y n : ℕ) → n < 300 → row ≡ get_or rows y []
    → pixel_at rows ((300 * y + n) % 300) ((300 * y + n) / 300) ≡ get_or row n 0
unfolding pixel_at
pixel_of_row rows row y n lt is =
    let across : (300 * y + n) % 300 ≡ n = omega (arith, lt) in
    let down : (300 * y + n) / 300 ≡ y = omega (arith, lt) in
    ap₂ (pixel_at rows) across down ∙ ap (λ (r : List ℕ). get_or r n 0) (sym is)

row_taken : (c : Checkpoint) (row : List ℕ) (y n : ℕ) → n ≤ 300 → row ≡ get_or c.standing.memory y []
    → length row ≡ 300 → All (λ pixel. pixel < 16) row
    → first_fields c Memory (300 * y + n) ≡ first_fields c Memory (300 * y) ++ take n row
row_taken c row y zero most is size small =
    let none : 300 * y + zero ≡ 300 * y = omega arith in
    ap (first_fields c Memory) none ∙ sym (append-nil (first_fields c Memory (300 * y)))
row_taken c row y (suc n) most is size small =
    let next : 300 * y + suc n ≡ 300 * y + n + 1 = omega arith in
    let lt : n < 300 = omega (arith, most) in
    let more : suc n ≡ n + 1 = omega arith in
    ap (first_fields c Memory) next
    ∙ fields_more c Memory (300 * y + n) (get_or row n 0 ∷ [])
    (written_byte _ _ (pixel_of_row c.standing.memory row y n lt is)
    (omega (arith, All-get_or (λ pixel. pixel < 16) row n 0 (omega (arith, lt, size)) small)))
    ∙ ap (λ l. l ++ get_or row n 0 ∷ []) (row_taken c row y n (omega (arith, most)) is size small)
    ∙ append_assoc (first_fields c Memory (300 * y)) (take n row) (get_or row n 0 ∷ [])
    ∙ ap (λ l. first_fields c Memory (300 * y) ++ l)
    (sym (take_more row n 0 (omega (arith, lt, size))) ∙ ap (λ k. take k row) (sym more))

-- one more row was written
pub row_put : (file new old row : List ℕ) (c : Checkpoint) (y : ℕ) → new ≡ old ++ row
    → old ≡ file ++ first_fields c Memory (300 * y)
    → row ≡ get_or c.standing.memory y [] → length row ≡ 300 → All (λ pixel. pixel < 16) row
    → new ≡ file ++ first_fields c Memory (300 * (y + 1))
row_put file new old row c y put before is size small =
    let next : 300 * y + 300 ≡ 300 * (y + 1) = omega arith in
    let whole : take 300 row ≡ row = take_all 300 row (omega (arith, size)) in
    let fields : first_fields c Memory (300 * (y + 1)) ≡ first_fields c Memory (300 * y) ++ row =
    ap (first_fields c Memory) (sym next)
    ∙ row_taken c row y 300 (omega arith) is size small
    ∙ ap (λ l. first_fields c Memory (300 * y) ++ l) whole in
    put
    ∙ ap (λ o. o ++ row) before
    ∙ append_assoc file (first_fields c Memory (300 * y)) row
    ∙ ap (λ l. file ++ l) (sym fields)
