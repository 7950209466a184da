-- The candidate of a reading whose blocks under a word equal those of the first reading.
use Rattle.std.proofs.Common.{◌≡◌, ◌≢◌, ℕ, ◌+◌, ◌-◌, ◌*◌, ◌/◌, ◌%◌, ◌<◌, ◌≤◌, List, [], get_or, map, sym, ap, ap₂, ◌∙◌, subst, inl, inr, arith}
use Rattle.std.specs.List.{range_with_len}
use Rattle.std.proofs.lemmas.Bool.{cases_lt}
use Rattle.std.proofs.lemmas.List.{ext_get_or}
use Rattle.std.proofs.lemmas.List.FromFn.{get_or-map-range_with_len, length-map-range_with_len}
use Rattle.raw_subcode.specs.Channels.{symbols_of}
use Rattle.rw_interleave.specs.Interleave.{place, word_of}
use Rattle.rw_interleave.proofs.Places.{swapped-lt}
use Rattle.rw_mend.specs.Histories.{AreSameFrom, IsHistory}
use Rattle.rw_mend.specs.Candidates.{candidate_of}
use Rattle.rw_mend.specs.Words.{block_at, blocks_under, coverage_of, is_blank_block, is_unread_block, reading_at}
use Rattle.rw_mend.specs.declared.cover.BlockHistory.{BlockHistory}
use Rattle.rw_mend.specs.declared.candidates.WordReading.{WordReading}
use Rattle.rw_mend.proofs.Unread.{in_block}

-- maps of two functions that agree are equal
same_values : {X : Type 0} (f g : ℕ → X) (d : X) (from count : ℕ)
    → ((k : ℕ) → from ≤ k → k < from + count → f k ≡ g k)
    → map f (range_with_len from count) ≡ map g (range_with_len from count)
same_values f g d from count same =
    let size = length-map-range_with_len f from count in
    ext_get_or d (map f (range_with_len from count)) (map g (range_with_len from count))
    (size ∙ sym (length-map-range_with_len g from count)) (λ i lt.
    let within : i < count = omega (arith, lt, size) in
    get_or-map-range_with_len f from count i (from + i) d within (omega arith)
    ∙ same (from + i) (omega arith) (omega (arith, within))
    ∙ sym (get_or-map-range_with_len g from count i (from + i) d within (omega arith)))

-- the blocks under a word are the same
abbrev pub AreSameUnder : List ℕ → List ℕ → ℕ → Type 0
AreSameUnder first program n = (b : ℕ) → n / 4 ≤ b → b ≤ (n + 7) / 4
    → block_at program b ≡ block_at first b

pub same_under : (first program : List ℕ) (n from : ℕ) → AreSameFrom first program ((n + 7) / 4 + 1) from
    → from ≤ n / 4 → AreSameUnder first program n
same_under first program n from is low =
    λ b after before. is.each b (omega (arith, low, after)) (omega (arith, before))

same_symbol : (first program : List ℕ) (n i : ℕ) → AreSameUnder first program n → i < 24
    → get_or (symbols_of program) (place n i) 0 ≡ get_or (symbols_of first) (place n i) 0
same_symbol first program n i same lt =
    let p : ℕ = place n i in
    let b : ℕ = p / 96 in
    let j : ℕ = p % 96 in
    let small = swapped-lt i lt in
    let at : 96 * b + j ≡ p = omega arith in
    ap (λ q. get_or (symbols_of program) q 0) (sym at)
    ∙ sym (in_block program b j (omega arith))
    ∙ ap (λ block. get_or (symbols_of block) j 0) (same b (omega (arith, small)) (omega (arith, small)))
    ∙ in_block first b j (omega arith)
    ∙ ap (λ q. get_or (symbols_of first) q 0) at

same_word : (first program : List ℕ) (n : ℕ) → AreSameUnder first program n
    → word_of (symbols_of program) n ≡ word_of (symbols_of first) n
unfolding word_of
same_word first program n same =
    same_values (λ i. get_or (symbols_of program) (place n i) 0)
    (λ i. get_or (symbols_of first) (place n i) 0) 0
    0 24 (λ i from lt. same_symbol first program n i same (omega (arith, lt)))

same_blocks : (first program : List ℕ) (n : ℕ) → AreSameUnder first program n
    → blocks_under program n ≡ blocks_under first n
same_blocks first program n same =
    same_values (block_at program) (block_at first) [] (n / 4) ((n + 7) / 4 - n / 4 + 1)
    (λ b after before. same b after (omega (arith, before)))

abbrev read_as : List ℕ → List (List ℕ) → WordReading
read_as word blocks = record { word = word; coverage = coverage_of blocks }

same_reading : (first program : List ℕ) (n : ℕ) → AreSameUnder first program n
    → reading_at program n ≡ reading_at first n
unfolding reading_at
same_reading first program n same =
    ap₂ read_as (same_word first program n same) (same_blocks first program n same)

pub same_candidate : (first program : List ℕ) (n from : ℕ) → AreSameFrom first program ((n + 7) / 4 + 1) from
    → from ≤ n / 4 → candidate_of (reading_at first n) ≡ candidate_of (reading_at program n)
same_candidate first program n from is low =
    sym (ap candidate_of (same_reading first program n (same_under first program n from is low)))

pub same_history : (first program : List ℕ) (n from : ℕ) (history : BlockHistory)
    → AreSameFrom first program ((n + 7) / 4 + 1) from → from ≤ n / 4 → IsHistory first n history
    → IsHistory program n history
same_history first program n from history is low was =
    let same = same_under first program n from is low in
    let one : block_at first (n / 4) ≡ block_at program (n / 4) =
    sym (same (n / 4) (omega arith) (omega arith)) in
    let two : block_at first (n / 4 + 1) ≡ block_at program (n / 4 + 1) =
    sym (same (n / 4 + 1) (omega arith) (omega arith)) in
    let three : n % 4 ≢ 0 → block_at first (n / 4 + 2) ≡ block_at program (n / 4 + 2) =
    λ (apart : n % 4 ≢ 0). sym (same (n / 4 + 2) (omega arith) (omega (arith, apart))) in
    record {
      first = was.first ∙ ap is_unread_block one;
      second = was.second ∙ ap is_unread_block two;
      third = λ apart. was.third apart ∙ ap is_unread_block (three apart);
      first_blank = was.first_blank ∙ ap is_blank_block one;
      second_blank = was.second_blank ∙ ap is_blank_block two;
      third_blank = λ apart. was.third_blank apart ∙ ap is_blank_block (three apart);
    }

-- ---- One more block.

pub followed_on : (first program : List ℕ) (blocks more from : ℕ) → AreSameFrom first program blocks from
    → more ≤ blocks + 1 → (blocks < more → block_at program blocks ≡ block_at first blocks)
    → AreSameFrom first program more from
followed_on first program blocks more from was few last = record {
  each =
      λ b low lt.
      elim (cases_lt b blocks) [
        | inl before ↦ was.each b low before
        | inr after ↦
            let at : blocks ≡ b = omega (arith, after, lt, few) in
            subst (λ k. block_at program k ≡ block_at first k) at (last (omega (arith, after, lt)))
      ];
}

pub followed_anew : (first program : List ℕ) (blocks from : ℕ) → blocks ≤ from
    → AreSameFrom first program blocks from
followed_anew first program blocks from none = record {
  each = λ b low lt. absurd (omega (arith, low, lt, none));
}
