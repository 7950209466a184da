-- The index lines of a track on the disc.
use Rattle.std.proofs.Common.{◌≡◌, ℕ, ◌-◌, ◌≤◌, ◌<◌, true, false, Bool, List, length, get_or, Some, ap, sym, ◌∙◌, arith}
use Rattle.std.specs.Prelude.{reverse, find, slice_get, option_map, unwrap_or, nat_le, ◌==◌, Option}
use Rattle.std.specs.List.{position_or_len}
use Rattle.std.specs.List.Sorted.{IsPartitionPoint, IsPartitionedBy}
use Rattle.std.proofs.lemmas.List.Folds.{find_at}
use Rattle.std.proofs.lemmas.List.Sums.{position_or_len_is}
use Rattle.std.proofs.lemmas.List.Sorted.{IsNonDecreasingBy-from_default, IsPartitionedBy-leb}
use Rattle.std.proofs.lemmas.List.{get_or_default}
use Rattle.std.proofs.lemmas.Option.{slice_get-get_or}
use Rattle.cue_sheet.specs.CueSheet.{AreIndices}
use Rattle.toc_model.specs.Places.{TrackPlace}
use Rattle.toc_model.specs.Layout.{music_begin, index_at}
use Rattle.toc_model.proofs.Search.{find_last, find_last_none}

pub music_line : (place : TrackPlace) (lines : List (ℕ × ℕ)) (k : ℕ) → place.lines ≡ lines → AreIndices lines
    → k ≡ 1 - (get_or lines 0 (0, 0)).0
    → music_begin place ≡ (get_or lines k (0, 0)).1
unfolding music_begin
music_line place lines k is good at =
    let p : (ℕ × ℕ) → Bool = λ line. line.0 == 1 in
    let first = good.first in
    let within : k < length lines = omega (arith, good.has_one) in
    let number : (get_or lines k (0, 0)).0 ≡ 1 = omega (arith, good.next k within) in
    let here : position_or_len p lines ≡ k =
    position_or_len_is p lines k (0, 0) (omega arith) (λ j lt.
    let zero : (get_or lines j (0, 0)).0 ≡ 0 = omega (arith, good.next j (omega arith)) in
    grind (arith, zero)) (λ lt. grind (arith, number)) in
    let found : find p lines ≡ Some (get_or lines k (0, 0)) =
    find_at p lines ∙ (ap (slice_get lines) here ∙ slice_get-get_or lines k (0, 0) within) in
    ap (λ (ls : List (ℕ × ℕ)). unwrap_or (option_map (λ (line : ℕ × ℕ). line.1) (find p ls)) 0) is
    ∙ ap (λ (o : Option (ℕ × ℕ)). unwrap_or (option_map (λ (line : ℕ × ℕ). line.1) o) 0) found

pub music_of : (place : TrackPlace) (lines : List (ℕ × ℕ)) (k : ℕ) (head line : ℕ × ℕ) → place.lines ≡ lines
    → AreIndices lines
    → head ≡ get_or lines 0 head → k ≡ 1 - head.0 → line ≡ get_or lines k line → line.1 ≡ music_begin place
music_of place lines k head line is good at_head at at_line =
    let some : 0 < length lines = omega (arith, good.has_one, good.first) in
    let same : head ≡ get_or lines 0 (0, 0) = at_head ∙ get_or_default lines 0 head (0, 0) some in
    let first : k ≡ 1 - (get_or lines 0 (0, 0)).0 = at ∙ ap (λ (l : ℕ × ℕ). 1 - l.0) same in
    let within : k < length lines = omega (arith, good.has_one, good.first) in
    ap (λ (l : ℕ × ℕ). l.1) (at_line ∙ get_or_default lines k line (0, 0) within)
    ∙ sym (music_line place lines k is good first)

pub lines_partitioned : (lines : List (ℕ × ℕ)) (block : ℕ) → AreIndices lines
    → IsPartitionedBy (λ (line : ℕ × ℕ). nat_le line.1 block) lines
lines_partitioned lines block good =
    IsPartitionedBy-leb (λ (line : ℕ × ℕ). line.1) lines block
    (IsNonDecreasingBy-from_default (λ (line : ℕ × ℕ). line.1) lines (0, 0) good.order)

pub index_of_begun : (place : TrackPlace) (lines : List (ℕ × ℕ)) (block n : ℕ) (line : ℕ × ℕ)
    → place.lines ≡ lines
    → IsPartitionPoint (λ (l : ℕ × ℕ). nat_le l.1 block ≡ true) (λ (l : ℕ × ℕ). nat_le l.1 block ≡ false)
    lines n → 0 < n → n ≤ length lines
    → line ≡ get_or lines (n - 1) line → line.0 ≡ index_at place block
unfolding index_at
index_of_begun place lines block n line is point low high at =
    let found = find_last (λ (l : ℕ × ℕ). nat_le l.1 block) lines n line point low high in
    ap (λ (l : ℕ × ℕ). l.0) at
    ∙ (sym (ap (λ (o : Option (ℕ × ℕ)). unwrap_or (option_map (λ (l : ℕ × ℕ). l.0) o) 0) found)
    ∙ sym (ap (λ (ls : List (ℕ × ℕ)).
    unwrap_or (option_map (λ (l : ℕ × ℕ). l.0) (find (λ (l : ℕ × ℕ). nat_le l.1 block) (reverse ls))) 0) is))

pub index_of_none : (place : TrackPlace) (lines : List (ℕ × ℕ)) (block n : ℕ) → place.lines ≡ lines
    → IsPartitionPoint (λ (l : ℕ × ℕ). nat_le l.1 block ≡ true) (λ (l : ℕ × ℕ). nat_le l.1 block ≡ false)
    lines n → n ≡ 0
    → 0 ≡ index_at place block
unfolding index_at
index_of_none place lines block n is point none =
    let found = find_last_none (λ (l : ℕ × ℕ). nat_le l.1 block) lines n (0, 0) point none in
    sym (ap (λ (o : Option (ℕ × ℕ)). unwrap_or (option_map (λ (l : ℕ × ℕ). l.0) o) 0) found)
    ∙ sym (ap (λ (ls : List (ℕ × ℕ)).
    unwrap_or (option_map (λ (l : ℕ × ℕ). l.0) (find (λ (l : ℕ × ℕ). nat_le l.1 block) (reverse ls))) 0) is)
