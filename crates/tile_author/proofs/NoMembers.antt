-- If the differences of pixels have no members, no pixel is marked.
use Rattle.std.proofs.Common.{◌≡◌, ℕ, zero, suc, ◌+◌, ◌*◌, ◌<◌, ◌≤◌, false, List, [], ◌∷◌, length, replicate, refl, sym, ap, ◌∙◌, bit_xor, arith}
use Rattle.std.specs.Prelude.{slice_index, ◌==◌, if◌then◌else◌}
use Rattle.std.proofs.lemmas.Nat.Bits.{bit_at-zero}
use Rattle.std.proofs.lemmas.List.{get_or-replicate}
use Rattle.std.proofs.lemmas.Grind.{same_number_lists}
use Rattle.bit_lists.specs.Bits.{has_bit, number_of}
use Rattle.tile_author.specs.Plan.{basis, selection, tile_lines}
use Rattle.tile_author.proofs.Reading.{read_bits, no_bits, one_more_bit, all_bits}
use Rattle.tile_author.proofs.Shortest.{lines-count}

no_part : (j d : ℕ) → has_bit j (selection [] d) ≡ false
unfolding selection
no_part j d = ap (λ n. n == 1) (bit_at-zero j)

none_read : (pixels : List ℕ) (j line i : ℕ) → length pixels ≡ 72 → line < 12 → basis pixels ≡ [] → i ≤ 6
    → number_of (read_bits pixels j line i) ≡ 0
none_read pixels j line zero size lt none le = sym (no_bits pixels j line)
none_read pixels j line (suc i) size lt none le =
    let next : suc i ≡ i + 1 = omega arith in
    let before = none_read pixels j line i size lt none (omega arith) in
    let d = bit_xor (slice_index pixels 0) (slice_index pixels (6 * line + i)) in
    let last : has_bit j (selection (basis pixels) d) ≡ false =
    ap (λ ms. has_bit j (selection ms d)) none ∙ no_part j d in
    ap (λ k. number_of (read_bits pixels j line k)) next
    ∙ one_more_bit pixels j line i size lt (omega arith)
    ∙ ap (λ b. 2 * number_of (read_bits pixels j line i) + (if b then 1 else 0)) last
    ∙ ap (λ n. 2 * n + 0) before

pub none_of : (xs : List ℕ) → length xs ≡ 0 → xs ≡ []
none_of [] size = refl
none_of (x ∷ xs) size = absurd (omega (arith, size))

pub no_lines_marked : (pixels : List ℕ) (j : ℕ) → length pixels ≡ 72 → basis pixels ≡ []
    → replicate 12 0 ≡ tile_lines pixels j
no_lines_marked pixels j size none =
    let count = lines-count pixels j in
    same_number_lists (replicate 12 0) (tile_lines pixels j) (sym count) (λ k lt.
    get_or-replicate 12 k 0 0 (omega (arith, lt))
    ∙ sym (none_read pixels j k 6 size lt none (omega arith))
    ∙ all_bits pixels j k 6 lt refl)
