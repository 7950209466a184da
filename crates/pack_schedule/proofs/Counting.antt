-- Sums over tiles, for all starts at once.
use Rattle.std.proofs.Common.{◌≡◌, ◌≢◌, ℕ, ◌+◌, ◌-◌, ◌*◌, ◌/◌, ◌%◌, ◌<◌, ◌≤◌, List, [], ◌∷◌, length, map, get_or, set, take, drop, replicate, Bool, true, false, zero, suc, refl, ap, sym, subst, ◌∙◌, inl, inr, arith, below_more}
use Rattle.std.specs.Prelude.{Option, Some, None, MatchOption, slice_index, sum_by}
use Rattle.std.specs.Bool.{then_some}
use Rattle.std.specs.Str.{bytes_eq}
use Rattle.std.proofs.lemmas.Slice.Eq.{bytes_eq-Decides}
use Rattle.std.proofs.lemmas.Bool.{cases_eq, cases_lt, false≢true}
use Rattle.std.proofs.lemmas.Grind.{same_number_lists}
use Rattle.std.proofs.lemmas.List.{length-replicate, get_or-replicate, get_or-take, get_or-drop, get_or-set_same, get_or-set_other, get_or_past}
use Rattle.std.proofs.lemmas.List.Elements.{All-get_or}
use Rattle.std.proofs.lemmas.List.FromFn.{map-range_with_len_more}
use Rattle.std.proofs.lemmas.List.Sums.{sum_by-append}
use Rattle.bit_lists.specs.Counting.{below}
use Rattle.cdg_instructions.specs.Instruction.{IsTilePixels}
use Rattle.cdg_instructions.specs.Drawing.{IsLeast}
use Rattle.tile_author.specs.Plan.{steps}
use Rattle.picture_script.specs.Script.{Drawing, picture_tile}
use Rattle.pack_schedule.specs.Change.{tiles_before}
use Rattle.pack_schedule.specs.PlannedChange.{tile_steps}
use Rattle.pack_schedule.proofs.Places.{place_of, places_in_order, colour_is_tile}
use Rattle.pack_schedule.specs.Weights.{IsWeighed, IsWeighedAt, AreWeights, not_weighed}
use Rattle.pack_schedule.specs.declared.change.tiles.Weighed.{Weighed}
use Rattle.pack_schedule.proofs.PlannedLaws.{PlansAreShortest, least-unique}

-- tiles counted one after another
one_sum : (n : ℕ) → 0 + n ≡ n
one_sum n = omega arith

unfoldable pub steps_so_far : List Drawing → ℕ → Option ℕ → ℕ → ℕ
steps_so_far script k start i =
    sum_by (λ p. steps (tiles_before script k start p.0 p.1) (picture_tile script k p.0 p.1))
    (map place_of (below i))

pub none_so_far : (script : List Drawing) (k : ℕ) (start : Option ℕ) → steps_so_far script k start 0 ≡ 0
unfolding steps_so_far
none_so_far script k start = refl

pub one_more_tile : (script : List Drawing) (k : ℕ) (start : Option ℕ) (i : ℕ)
    → steps_so_far script k start (i + 1)
    ≡ steps_so_far script k start i + steps (tiles_before script k start (i / 48 + 1) (i % 48 + 1))
    (picture_tile script k (i / 48 + 1) (i % 48 + 1))
unfolding steps_so_far
one_more_tile script k start i =
    let f : ℕ × ℕ → ℕ = λ p. steps (tiles_before script k start p.0 p.1) (picture_tile script k p.0 p.1) in
    ap (sum_by f) (map-range_with_len_more place_of 0 i i (one_sum i))
    ∙ sum_by-append f (map place_of (below i)) (place_of i ∷ [])
    ∙ ap (λ n. sum_by f (map place_of (below i)) + n) (one_sum (f (place_of i)))

pub all_tiles : (script : List Drawing) (k : ℕ) (start : Option ℕ) (i : ℕ) → i ≡ 768
    → steps_so_far script k start i ≡ tile_steps script k start
unfolding steps_so_far tile_steps
all_tiles script k start i h =
    ap (λ n. sum_by
    (λ (p : ℕ × ℕ). steps (tiles_before script k start p.0 p.1) (picture_tile script k p.0 p.1))
    (map place_of (below n))) h
    ∙ ap (sum_by (λ (p : ℕ × ℕ). steps (tiles_before script k start p.0 p.1) (picture_tile script k p.0 p.1)))
    (sym places_in_order)

-- the steps from a tile of one colour
pub colour_steps : PlansAreShortest → (new : List ℕ) (c w : ℕ) → c < 16 → IsTilePixels new
    → IsLeast 1 1 (replicate 72 c) new w
    → steps (replicate 72 c) new ≡ w
colour_steps plans new c w small tile least =
    least-unique 1 1 (replicate 72 c) new (steps (replicate 72 c) new) w
    (plans.least 1 1 (replicate 72 c) new (omega arith) (omega arith) (colour_is_tile c small) tile) least

all_same : (pixels : List ℕ) (first : ℕ) → length pixels ≡ 72
    → ((q : ℕ) → q < 72 → get_or pixels q 0 ≡ first)
    → pixels ≡ replicate 72 first
all_same pixels first size all =
    same_number_lists pixels (replicate 72 first) (size ∙ sym (length-replicate {A = ℕ} 72 first))
    (λ q lt. all q (omega arith) ∙ sym (get_or-replicate {A = ℕ} 72 q first 0 (omega arith)))

-- if each pixel equals the one before it, all pixels equal the first
as_before : (pixels : List ℕ) (r : Bool) → length pixels ≡ 72
    → r ≡ bytes_eq (take (72 - 1) (drop 1 pixels)) (take (71 - 0) (drop 0 pixels)) → r ≡ true → (q : ℕ)
    → q < 72
    → get_or pixels q 0 ≡ get_or pixels 0 0
as_before pixels r size e holds zero q_lt = refl
as_before pixels r size e holds (suc q) q_lt =
    let same =
    (bytes_eq-Decides (take (72 - 1) (drop 1 pixels)) (take (71 - 0) (drop 0 pixels))).0 (sym e ∙ holds) in
    let next : suc q ≡ 1 + q = omega arith in
    ap (λ n. get_or pixels n 0) next
    ∙ sym (get_or-take (72 - 1) (drop 1 pixels) q 0 (omega arith) ∙ get_or-drop 1 pixels q 0)
    ∙ ap (λ xs. get_or xs q 0) same
    ∙ get_or-take (71 - 0) (drop 0 pixels) q 0 (omega arith)
    ∙ as_before pixels r size e holds q (omega arith)

-- the comparison shows whether a tile has a single colour
pub single_reported : (tile pixels : List ℕ) (reported : Bool) → IsTilePixels pixels → pixels ≡ tile
    → reported ≡ bytes_eq (take (72 - 1) (drop 1 pixels)) (take (71 - 0) (drop 0 pixels))
    → MatchOption (then_some reported (get_or pixels 0 0)) ((c : ℕ) → tile ≢ replicate 72 c)
    (λ c. (c < 16) × (tile ≡ replicate 72 c))
single_reported tile pixels true is same decides = (
  All-get_or (λ p. p < 16) pixels 0 0 (omega (arith, is.count)) is.below,
  sym same ∙ all_same pixels (get_or pixels 0 0) is.count (as_before pixels true is.count decides refl),
)
single_reported tile pixels false is same decides = λ c at.
    let both : pixels ≡ replicate 72 c = same ∙ at in
    false≢true (decides ∙ (bytes_eq-Decides (take (72 - 1) (drop 1 pixels)) (take (71 - 0) (drop 0 pixels))).1
    (ap (λ (xs : List ℕ). take (72 - 1) (drop 1 xs)) both
    ∙ sym (ap (λ (xs : List ℕ). take (71 - 0) (drop 0 xs)) both)))

first_of : (c : ℕ) (pixels : List ℕ) (i : ℕ) → i < 72 → pixels ≡ replicate 72 c → get_or pixels i 0 ≡ c
first_of c pixels i lt h = ap (λ xs. get_or xs i 0) h ∙ get_or-replicate {A = ℕ} 72 i c 0 lt

-- the stored weight of a tile is right
pub weighed : PlansAreShortest → (tile : List ℕ) (w : ℕ) (single : Option ℕ) → IsTilePixels tile
    → MatchOption single ((c : ℕ) → tile ≢ replicate 72 c) (λ c. (c < 16) × (tile ≡ replicate 72 c)) → w ≤ 4
    → ((row column d : ℕ) → row < 32 → column < 64 → d < 16 → tile ≢ replicate 72 d
    → IsLeast row column (replicate 72 d) tile w)
    → ((row column d : ℕ) → row < 32 → column < 64 → d < 16 → tile ≡ replicate 72 d
    → IsLeast row column (replicate 72 d) tile 0)
    → IsWeighed tile (record { weight = w; single = single })
weighed plans tile w None is h few least none = record {
  few = few;
  colour = tt;
  from_own = λ c c_lt own. absurd (cc);
  from_other =
      λ c c_lt other.
      colour_steps plans tile c w c_lt is (least 1 1 c (omega arith) (omega arith) c_lt (h c));
}
weighed plans tile w (Some c0) is h few least none = record {
  few = few;
  colour = h.0;
  from_own = λ c c_lt own.
      let at : c0 ≡ c = cc in
      colour_steps plans tile c 0 c_lt is
      (none 1 1 c (omega arith) (omega arith) c_lt (h.1 ∙ ap (replicate 72) at));
  from_other = λ c c_lt other.
      let apart : tile ≢ replicate 72 c =
      λ here.
      other (ap Some (sym (first_of c0 tile 0 (omega arith) h.1) ∙ first_of c tile 0 (omega arith) here)) in
      colour_steps plans tile c w c_lt is (least 1 1 c (omega arith) (omega arith) c_lt apart);
}

-- one more tile of a single colour is counted
pub single_step : (tile single : List ℕ) (kept : Weighed) (c0 c whole : ℕ) → length single ≡ 16 → c0 < 16
    → c < 16 → IsWeighed tile kept → kept.single ≡ Some c0
    → whole + kept.weight + slice_index single c
    ≡ whole + slice_index (set single c0 (get_or single c0 0 + kept.weight)) c + steps (replicate 72 c) tile
single_step tile single kept c0 c whole size c0_lt c_lt h is = elim (cases_eq c c0) [
  | inl same ↦
      let steps_are = h.from_own c c_lt (is ∙ ap Some (sym same)) in
      let at : get_or (set single c0 (get_or single c0 0 + kept.weight)) c 0
      ≡ get_or single c0 0 + kept.weight =
      ap (λ k. get_or (set single c0 (get_or single c0 0 + kept.weight)) k 0) same
      ∙ get_or-set_same single c0 (get_or single c0 0 + kept.weight) 0 (omega arith) in
      let old : get_or single c 0 ≡ get_or single c0 0 = ap (λ k. get_or single k 0) same in
      omega (arith, steps_are, at, old)
  | inr apart ↦
      let steps_are =
      h.from_other c c_lt
      (λ own. apart (let both : Some c0 ≡ Some c = sym is ∙ own in let at : c0 ≡ c = cc in sym at)) in
      let at : get_or (set single c0 (get_or single c0 0 + kept.weight)) c 0 ≡ get_or single c 0 =
      get_or-set_other single c0 c (get_or single c0 0 + kept.weight) 0 apart in
      omega (arith, steps_are, at)
]

-- one more tile of several colours is counted
pub mixed_step : (tile single : List ℕ) (kept : Weighed) (c whole : ℕ) → c < 16 → IsWeighed tile kept
    → kept.single ≡ None
    → whole + kept.weight + slice_index single c ≡ whole + slice_index single c + steps (replicate 72 c) tile
mixed_step tile single kept c whole c_lt h is =
    let steps_are = h.from_other c c_lt (λ own. let both : None ≡ Some c = sym is ∙ own in absurd (cc)) in
    omega (arith, steps_are)

-- the first i tiles have been counted
pub record Counted (stands whole : ℕ) (single : List ℕ) (script : List Drawing) (k i : ℕ) : Type 0 where
  pub stands_are : 0 < k → stands ≡ steps_so_far script k None i
  pub colours_are : (c : ℕ) → c < 16 → whole ≡ slice_index single c + steps_so_far script k (Some c) i
  pub few_stands : stands ≤ 4 * i
  pub few_whole : whole ≤ 4 * i
  pub few_single : (c : ℕ) → slice_index single c ≤ 4 * i

pub none_counted : (single : List ℕ) (script : List Drawing) (k : ℕ) → ((c : ℕ) → slice_index single c ≡ 0)
    → Counted 0 0 single script k 0
none_counted single script k zeros = record {
  stands_are = λ pos. sym (none_so_far script k None);
  colours_are = λ c c_lt. omega (arith, zeros c, none_so_far script k (Some c));
  few_stands = omega arith;
  few_whole = omega arith;
  few_single = λ c. omega (arith, zeros c);
}

pub one_counted : (script : List Drawing) (k i stands whole taken stands' whole' : ℕ)
    (single single' : List ℕ) → Counted stands whole single script k i
    → (0 < k → taken
    ≡ steps (picture_tile script (k - 1) (i / 48 + 1) (i % 48 + 1))
    (picture_tile script k (i / 48 + 1) (i % 48 + 1))) → stands' ≡ stands + taken
    → ((c : ℕ) → c < 16 → whole' + slice_index single c
    ≡ whole + slice_index single' c
    + steps (replicate 72 c) (picture_tile script k (i / 48 + 1) (i % 48 + 1)))
    → stands' ≤ stands + 4 → whole' ≤ whole + 4 → ((c : ℕ) → slice_index single' c ≤ slice_index single c + 4)
    → Counted stands' whole' single' script k (i + 1)
one_counted script k i stands whole taken stands' whole' single single' h t s w s_few w_few o_few = record {
  stands_are = λ pos. omega (arith, one_more_tile script k None i, h.stands_are pos, t pos, s);
  colours_are = λ c c_lt. omega (arith, one_more_tile script k (Some c) i, h.colours_are c c_lt, w c c_lt);
  few_stands = omega (arith, h.few_stands);
  few_whole = omega (arith, h.few_whole);
  few_single = λ c. omega (arith, h.few_single c, o_few c);
}

-- the first i stored weights are those of picture k, the others those of the previous picture
pub record AreKept (script : List Drawing) (k i : ℕ) (weights : List Weighed) : Type 0 where
  pub new : (m : ℕ) → m < i → IsWeighedAt script k m weights
  pub old : (m : ℕ) → i ≤ m → m < 768 → 0 < k → IsWeighedAt script (k - 1) m weights

pub none_kept : (script : List Drawing) (k : ℕ) (weights : List Weighed)
    → (0 < k → AreWeights script (k - 1) weights)
    → AreKept script k 0 weights
none_kept script k weights h = record { new = λ m lt. absurd (omega arith); old = λ m le lt pos. h pos m lt }

pub one_kept : (script : List Drawing) (k i : ℕ) (weights weights' : List Weighed)
    → AreKept script k i weights → IsWeighedAt script k i weights'
    → ((m : ℕ) → m ≢ i → get_or weights' m not_weighed ≡ get_or weights m not_weighed)
    → AreKept script k (i + 1) weights'
one_kept script k i weights weights' h here others = record {
  new =
      below_more (λ m. IsWeighedAt script k m weights') i (λ m lt. let apart : m ≢ i = omega arith in
      subst (IsWeighed (picture_tile script k (m / 48 + 1) (m % 48 + 1))) (sym (others m apart)) (h.new m lt))
      here;
  old = λ m le lt pos. let apart : m ≢ i = omega arith in
      subst (IsWeighed (picture_tile script (k - 1) (m / 48 + 1) (m % 48 + 1))) (sym (others m apart))
      (h.old m (omega arith) lt pos);
}

pub all_zeros : (n i : ℕ) → get_or {A = ℕ} (replicate n 0) i 0 ≡ 0
all_zeros n i = elim (cases_lt i n) [
  | inl lt ↦ get_or-replicate {A = ℕ} n i 0 0 lt
  | inr past ↦ get_or_past {X = ℕ} (replicate n 0) i 0 (omega (arith, length-replicate {A = ℕ} n 0))
]
