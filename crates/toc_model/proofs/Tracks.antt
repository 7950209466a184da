-- The track of a block, and the pauses.
use Rattle.std.proofs.Common.{◌≡◌, ℕ, ◌-◌, ◌≤◌, ◌<◌, true, false, List, length, get_or, ap, sym, ◌∙◌, arith, inl, inr, refl}
use Rattle.std.specs.Prelude.{reverse, find, unwrap_or, nat_le, nat_lt, ◌&&◌, Option, max, Bool}
use Rattle.std.specs.List.{list_any}
use Rattle.std.specs.List.Sorted.{IsPartitionPoint, IsNonDecreasingBy}
use Rattle.std.proofs.lemmas.List.{get_or_default}
use Rattle.std.proofs.lemmas.List.Folds.{list_any_at, list_any_none}
use Rattle.std.proofs.lemmas.Bool.{cases_Bool, cases_lt}
use Rattle.toc_model.specs.Places.{TrackPlace, DiscLayout, no_place}
use Rattle.toc_model.specs.Layout.{track_at, p_bit, is_paused_for, music_begin}
use Rattle.toc_model.proofs.Search.{find_last}

pub some_begun : (tracks : List TrackPlace) (block n : ℕ) → IsPartitionPoint
    (λ (p : TrackPlace). nat_le p.begin block ≡ true) (λ (p : TrackPlace). nat_le p.begin block ≡ false)
    tracks n
    → 0 < length tracks → (get_or tracks 0 no_place).begin ≡ 0 → 1 ≤ n
some_begun tracks block n point some first =
    elim (cases_lt 0 n) [
      | inl begun ↦ omega arith
      | inr none ↦ let late = point.1 0 no_place (omega arith) some in absurd (grind (arith, late, first))
    ]

pub track_of_begun : (layout : DiscLayout) (tracks : List TrackPlace) (block n : ℕ) (place : TrackPlace)
    → layout.tracks ≡ tracks
    → IsPartitionPoint (λ (p : TrackPlace). nat_le p.begin block ≡ true)
    (λ (p : TrackPlace). nat_le p.begin block ≡ false) tracks n
    → 0 < n → n ≤ length tracks → place ≡ get_or tracks (n - 1) place → place ≡ track_at layout block
unfolding track_at
track_of_begun layout tracks block n place is point low high at =
    let found = find_last (λ (p : TrackPlace). nat_le p.begin block) tracks n place point low high in
    at ∙ (sym (ap (λ (o : Option TrackPlace). unwrap_or o no_place) found)
    ∙ sym (ap (λ (ts : List TrackPlace).
    unwrap_or (find (λ (p : TrackPlace). nat_le p.begin block) (reverse ts)) no_place) is))

-- the track that was found is a track of the layout
pub track_found : (layout : DiscLayout) (tracks items : List TrackPlace) (block n : ℕ) (place : TrackPlace)
    → layout.tracks ≡ tracks → items ≡ tracks
    → IsPartitionPoint (λ (p : TrackPlace). nat_le p.begin block ≡ true)
    (λ (p : TrackPlace). nat_le p.begin block ≡ false) items n
    → 0 < length tracks → (get_or tracks 0 no_place).begin ≡ 0 → n ≤ length items
    → place ≡ get_or tracks (n - 1) place → place ≡ track_at layout block
track_found layout tracks items block n place is same point some first high at =
    let here = rw same at point in
    let begun : 1 ≤ n = some_begun tracks block n here some first in
    track_of_begun layout tracks block n place is here begun (omega (arith, ap length same)) at

later : (block m a n b : ℕ) → m ≤ n → a ≤ b → block < m - max 150 (m - a) → block < n - max 150 (n - b)
later block m a n b music begins low = omega arith

late : (block m a : ℕ) → block < m → (nat_le (m - max 150 (m - a)) block && nat_lt block m) ≡ false
    → block < m - max 150 (m - a)
late block m a before free = grind arith

past_music : (block : ℕ) (p : TrackPlace) → music_begin p ≤ block → is_paused_for block p ≡ false
past_music block p past = let none : nat_lt block (music_begin p) ≡ false = grind arith in grind (arith, none)

before_pause : (block : ℕ) (p q : TrackPlace) → p.begin ≤ q.begin → music_begin p ≤ music_begin q
    → block < music_begin p → is_paused_for block p ≡ false
    → is_paused_for block q ≡ false
before_pause block p q begins music before free =
    let low : block < music_begin p - max 150 (music_begin p - p.begin) =
    late block (music_begin p) p.begin before free in
    let high : block < music_begin q - max 150 (music_begin q - q.begin) =
    later block (music_begin p) p.begin (music_begin q) q.begin music begins low in
    let none : nat_le (music_begin q - max 150 (music_begin q - q.begin)) block ≡ false =
    grind (arith, high) in
    grind (arith, none)

pub no_pause : (layout : DiscLayout) (tracks : List TrackPlace) (block n : ℕ) → layout.tracks ≡ tracks
    → IsPartitionPoint (λ (p : TrackPlace). nat_le (music_begin p) block ≡ true)
    (λ (p : TrackPlace). nat_le (music_begin p) block ≡ false) tracks n
    → length tracks ≤ n → false ≡ p_bit layout block
unfolding p_bit
no_pause layout tracks block n is point all =
    sym (ap (λ (ts : List TrackPlace). list_any (is_paused_for block) ts) is
    ∙ list_any_none (is_paused_for block) tracks (λ k d lt. past_music block (get_or tracks k d)
    (let h = point.0 k d (omega arith) (omega arith) in grind (arith, h))))

pub next_pause : (layout : DiscLayout) (tracks : List TrackPlace) (block n : ℕ) (next : TrackPlace)
    → layout.tracks ≡ tracks
    → IsPartitionPoint (λ (p : TrackPlace). nat_le (music_begin p) block ≡ true)
    (λ (p : TrackPlace). nat_le (music_begin p) block ≡ false) tracks n
    → IsNonDecreasingBy (λ (p : TrackPlace). p.begin) tracks → IsNonDecreasingBy music_begin tracks
    → n < length tracks → next ≡ get_or tracks n next → is_paused_for block next ≡ p_bit layout block
unfolding p_bit
next_pause layout tracks block n next is point begins music lt at =
    elim (cases_Bool (is_paused_for block next)) [
      | inl paused ↦
          paused
          ∙ sym (ap (λ (ts : List TrackPlace). list_any (is_paused_for block) ts) is
          ∙ list_any_at (is_paused_for block) tracks n next lt (sym (ap (is_paused_for block) at) ∙ paused))
      | inr free ↦
          let before : block < music_begin next = let h = point.1 n next (omega arith) lt in
          let g : nat_le (music_begin next) block ≡ false =
          ap (λ (p : TrackPlace). nat_le (music_begin p) block) at ∙ h in
          grind (arith, g) in
          free
          ∙ sym (ap (λ (ts : List TrackPlace). list_any (is_paused_for block) ts) is
          ∙ list_any_none (is_paused_for block) tracks (λ k d within.
          elim (cases_lt k n) [
            | inl earlier ↦
                past_music block (get_or tracks k d)
                (let h = point.0 k d (omega arith) earlier in grind (arith, h))
            | inr later_one ↦
                let same : get_or tracks n d ≡ next = get_or_default tracks n d next lt ∙ sym at in
                before_pause block next (get_or tracks k d)
                (rw (← same) (begins n k d later_one within)) (rw (← same) (music n k d later_one within))
                before free
          ]))
    ]

and_true : (a : Bool) → a ≡ (a && true)
and_true true = refl
and_true false = refl

-- the music of the next track has not begun, so the block is in its pause if the pause has begun
pub next_pause_begun : (layout : DiscLayout) (tracks : List TrackPlace) (block n : ℕ) (next : TrackPlace)
    (music begin pause : ℕ)
    → layout.tracks ≡ tracks
    → IsPartitionPoint (λ (p : TrackPlace). nat_le (music_begin p) block ≡ true)
    (λ (p : TrackPlace). nat_le (music_begin p) block ≡ false) tracks n
    → IsNonDecreasingBy (λ (p : TrackPlace). p.begin) tracks → IsNonDecreasingBy music_begin tracks
    → n < length tracks → next ≡ get_or tracks n next → music ≡ music_begin next → begin ≡ next.begin
    → pause ≡ max (music - begin) 150 → nat_le (music - pause) block ≡ p_bit layout block
next_pause_begun layout tracks block n next music begin pause is point begins order lt at at_music at_begin
    long =
    let far : nat_le (music_begin next) block ≡ false =
    ap (λ (p : TrackPlace). nat_le (music_begin p) block) at ∙ point.1 n next (omega arith) lt in
    let before : nat_lt block (music_begin next) ≡ true = grind (arith, far) in
    let same : music - pause ≡ music_begin next - max 150 (music_begin next - next.begin) = omega arith in
    ap (λ k. nat_le k block) same
    ∙ (and_true _ ∙ ap (λ b. nat_le (music_begin next - max 150 (music_begin next - next.begin)) block && b)
    (sym before)
    ∙ next_pause layout tracks block n next is point begins order lt at)
