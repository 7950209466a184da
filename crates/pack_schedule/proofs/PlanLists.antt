-- The lists that make up a planned change.
use Rattle.std.proofs.Common.{◌≡◌, ℕ, zero, suc, ◌+◌, ◌-◌, ◌/◌, ◌%◌, ◌<◌, ◌≤◌, ◌⊎◌, inl, inr, Bool, true, false, List, [], ◌∷◌, ◌++◌, map, length, length-append, All, replicate, refl, ap, ap₂, sym, subst, ◌∙◌, arith, append_assoc, append-nil}
use Rattle.std.specs.Prelude.{Option, Some, None, MatchOption, IsSome, flat_map, ◌==◌, if◌then◌else◌, not, slice_index}
use Rattle.std.specs.Bool.{Decides}
use Rattle.std.specs.Str.{bytes_eq}
use Rattle.std.proofs.lemmas.Slice.Eq.{bytes_eq-Decides}
use Rattle.std.proofs.lemmas.Bool.{false≢true}
use Rattle.std.proofs.lemmas.Bool.Decides.{Decides-eqb}
use Rattle.std.proofs.lemmas.List.FromFn.{map-range_with_len_more}
use Rattle.std.proofs.lemmas.Grind.{flat_map-append}
use Rattle.bit_lists.specs.Counting.{below}
use Rattle.cdg_instructions.specs.declared.instr.Instr.{Instr}
use Rattle.cdg_instructions.specs.declared.instr.Instr.TheVariants.{BorderPreset, ColoursLow, ColoursHigh}
use Rattle.tile_author.specs.Plan.{plan, are_equal}
use Rattle.picture_script.specs.Script.{Drawing, picture_border, picture_colour, picture_tile, low_colours, high_colours}
use Rattle.picture_script.specs.Board.{Board, IsPicture}
use Rattle.pack_schedule.specs.Change.{settings, preset_of, tiles_before, IsStart}
use Rattle.pack_schedule.specs.PlannedChange.{planned_tiles, planned_from}
use Rattle.pack_schedule.proofs.Places.{place_of, places_in_order, colour_is_tile, start_small}
use Rattle.pack_schedule.proofs.SettingLaws.{eight_Decides, same_eight}

-- The tiles one after another.

unfoldable pub plans_so_far : List Drawing → ℕ → Option ℕ → ℕ → List Instr
plans_so_far script k start i =
    flat_map (λ p. plan p.0 p.1 (tiles_before script k start p.0 p.1) (picture_tile script k p.0 p.1))
    (map place_of (below i))

pub plans_none : (script : List Drawing) (k : ℕ) (start : Option ℕ) (old : List Instr)
    → old ≡ old ++ plans_so_far script k start 0
unfolding plans_so_far
plans_none script k start old = sym (append-nil old)

pub plans_more : (script : List Drawing) (k i : ℕ) (start : Option ℕ) (old so_far more : List Instr)
    → so_far ≡ old ++ plans_so_far script k start i
    → more
    ≡ so_far ++ plan (i / 48 + 1) (i % 48 + 1) (tiles_before script k start (i / 48 + 1) (i % 48 + 1))
    (picture_tile script k (i / 48 + 1) (i % 48 + 1))
    → more ≡ old ++ plans_so_far script k start (i + 1)
unfolding plans_so_far
plans_more script k i start old so_far more h next =
    let zero_plus : 0 + i ≡ i = omega arith in
    let f : ℕ × ℕ → List Instr =
    λ p. plan p.0 p.1 (tiles_before script k start p.0 p.1) (picture_tile script k p.0 p.1) in
    next
    ∙ ap (λ xs. xs ++ f (place_of i)) h
    ∙ append_assoc old (flat_map f (map place_of (below i))) (f (place_of i))
    ∙ ap (λ xs. old ++ xs) (ap (λ ys. flat_map f (map place_of (below i)) ++ ys)
    (sym (append-nil (f (place_of i))))
    ∙ sym (flat_map-append f (map place_of (below i)) (place_of i ∷ []))
    ∙ ap (flat_map f) (sym (map-range_with_len_more place_of 0 i i zero_plus)))

pub plans_all : (script : List Drawing) (k i : ℕ) (start : Option ℕ) (old so_far : List Instr) → i ≡ 768
    → so_far ≡ old ++ plans_so_far script k start i
    → so_far ≡ old ++ planned_tiles script k start
unfolding plans_so_far planned_tiles
plans_all script k i start old so_far is h =
    h
    ∙ ap (λ n. old ++ flat_map
    (λ (p : ℕ × ℕ). plan p.0 p.1 (tiles_before script k start p.0 p.1) (picture_tile script k p.0 p.1))
    (map place_of (below n))) is
    ∙ ap (λ ps. old ++ flat_map
    (λ (p : ℕ × ℕ). plan p.0 p.1 (tiles_before script k start p.0 p.1) (picture_tile script k p.0 p.1)) ps)
    (sym places_in_order)

-- Settings.

unless : Bool → Instr → List Instr
unless b instr = if b then [] else instr ∷ []

first_list : (script : List Drawing) (k : ℕ) (old : List Instr) (border : ℕ) (low high : List ℕ) → k ≡ 0
    → border ≡ picture_border script k → low ≡ low_colours script k → high ≡ high_colours script k
    → ((old ++ BorderPreset border ∷ []) ++ ColoursLow low ∷ []) ++ ColoursHigh high ∷ []
    ≡ old ++ settings script k
first_list script zero old border low high is b l h =
    append_assoc (old ++ BorderPreset border ∷ []) (ColoursLow low ∷ []) (ColoursHigh high ∷ [])
    ∙ append_assoc old (BorderPreset border ∷ []) (ColoursLow low ∷ ColoursHigh high ∷ [])
    ∙ rw (b, l, h) refl
first_list script (suc k) old border low high is b l h = absurd (omega arith)

later_list : (script : List Drawing) (k : ℕ) (old : List Instr) (s_border s_low s_high : Bool)
    (border : ℕ) (low high : List ℕ) → 0 < k
    → s_border ≡ (picture_border script (k - 1) == picture_border script k)
    → s_low ≡ are_equal (low_colours script (k - 1)) (low_colours script k)
    → s_high ≡ are_equal (high_colours script (k - 1)) (high_colours script k)
    → border ≡ picture_border script k → low ≡ low_colours script k → high ≡ high_colours script k
    → ((old ++ (if s_border then [] else BorderPreset border ∷ []))
    ++ (if s_low then [] else ColoursLow low ∷ [])) ++ (if s_high then [] else ColoursHigh high ∷ [])
    ≡ old ++ settings script k
later_list script zero old s_border s_low s_high border low high pos tb tl th b l h = absurd (omega arith)
later_list script (suc k) old s_border s_low s_high border low high pos tb tl th b l h =
    let at : suc k - 1 ≡ k = omega arith in
    let a = if s_border then [] else BorderPreset border ∷ [] in
    let d = if s_low then [] else ColoursLow low ∷ [] in
    let e = if s_high then [] else ColoursHigh high ∷ [] in
    let one : a
    ≡ (if picture_border script k == picture_border script (suc k)
    then []
    else BorderPreset (picture_border script (suc k)) ∷ []) =
    ap₂ (λ (t : Bool) n. if t then [] else BorderPreset n ∷ [])
    (tb ∙ ap (λ j. picture_border script j == picture_border script (suc k)) at) b in
    let two : d
    ≡ (if are_equal (low_colours script k) (low_colours script (suc k))
    then []
    else ColoursLow (low_colours script (suc k)) ∷ []) =
    ap₂ (λ (t : Bool) n. if t then [] else ColoursLow n ∷ [])
    (tl ∙ ap (λ j. are_equal (low_colours script j) (low_colours script (suc k))) at) l in
    let three : e
    ≡ (if are_equal (high_colours script k) (high_colours script (suc k))
    then []
    else ColoursHigh (high_colours script (suc k)) ∷ []) =
    ap₂ (λ (t : Bool) n. if t then [] else ColoursHigh n ∷ [])
    (th ∙ ap (λ j. are_equal (high_colours script j) (high_colours script (suc k))) at) h in
    append_assoc (old ++ a) d e
    ∙ append_assoc old a (d ++ e)
    ∙ ap (λ xs. old ++ xs)
    (sym (append_assoc a d e) ∙ ap₂ (λ x y. x ++ y) (ap₂ (λ x y. x ++ y) one two) three)

-- a canvas has the colours of its picture
low_are : (script : List Drawing) (k : ℕ) (board : Board) → IsPicture script k board
    → map (λ n. slice_index board.colours (0 + n)) (below 8) ≡ low_colours script k
unfolding low_colours
low_are script k board h =
    same_eight (λ n. slice_index board.colours (0 + n)) (picture_colour script k) (λ n lt.
    let zero_plus : 0 + n ≡ n = omega arith in
    ap (slice_index board.colours) zero_plus ∙ h.colours_are n (omega arith))

high_are : (script : List Drawing) (k : ℕ) (board : Board) → IsPicture script k board
    → map (λ n. slice_index board.colours (8 + n)) (below 8) ≡ high_colours script k
unfolding high_colours
high_are script k board h =
    same_eight (λ n. slice_index board.colours (8 + n)) (λ n. picture_colour script k (8 + n))
    (λ n lt. h.colours_are (8 + n) (omega arith))

-- the setting is appended for the first picture, and for a later one if it differs
abbrev pub IsAppended : ℕ → Type 0 → Instr → List Instr → List Instr → Type 0
IsAppended k Same instr old new =
    ((new ≡ old ++ instr ∷ []) × (0 < k → ¬ Same)) ⊎ ((new ≡ old) × (0 < k) × Same)

first_appended : {Same : Type 0} (instr : Instr) (old new : List Instr) → IsAppended 0 Same instr old new
    → new ≡ old ++ instr ∷ []
first_appended instr old new (inl reported) = reported.0
first_appended instr old new (inr reported) = absurd (omega (arith, reported.1))

later_appended : {Same : Type 0} (k : ℕ) (b : Bool) (instr : Instr) (old new : List Instr) → 0 < k
    → Decides b Same → IsAppended k Same instr old new → new ≡ old ++ (if b then [] else instr ∷ [])
later_appended k true instr old new pos tests (inl reported) = absurd (reported.1 pos (tests.0 refl))
later_appended k false instr old new pos tests (inl reported) = reported.0
later_appended k true instr old new pos tests (inr reported) = reported.0 ∙ sym (append-nil old)
later_appended k false instr old new pos tests (inr reported) = absurd (false≢true (tests.1 reported.2))

-- the result of a comparison of colours
pub reported_other : (reported : Bool) (xs ys zs : List ℕ) → reported ≡ not (bytes_eq xs ys) → xs ≡ zs
    → reported ≡ true
    → ¬ (zs ≡ ys)
reported_other reported xs ys zs is at is_true same =
    false≢true (sym (is ∙ ap not ((bytes_eq-Decides xs ys).1 (at ∙ same))) ∙ is_true)

not_false : (b : Bool) → not b ≡ false → b ≡ true
not_false true h = refl
not_false false h = sym h

pub reported_same : (reported : Bool) (xs ys zs : List ℕ) → reported ≡ not (bytes_eq xs ys) → xs ≡ zs
    → reported ≡ false
    → zs ≡ ys
reported_same reported xs ys zs is at is_false =
    sym at ∙ (bytes_eq-Decides xs ys).0 (not_false (bytes_eq xs ys) (sym is ∙ is_false))

-- one instruction more, or none
pub pushed_few : (n : ℕ) (instr : Instr) (old new : List Instr) → length old ≤ n → new ≡ old ++ instr ∷ []
    → length new ≤ n + 1
pushed_few n instr old new few is = omega (arith, few, ap length is, length-append old (instr ∷ []))

pub kept_few : (n : ℕ) (old new : List Instr) → length old ≤ n → new ≡ old → length new ≤ n + 1
kept_few n old new few is = omega (arith, few, ap length is)

-- the settings one after another
pub all_appended : (script : List Drawing) (k : ℕ) (old new : Board) (border : ℕ) (low high : List ℕ)
    (none one two three : List Instr)
    → (0 < k → IsPicture script (k - 1) old) → IsPicture script k new → border ≡ new.border
    → low ≡ map (λ n. slice_index new.colours (0 + n)) (below 8)
    → high ≡ map (λ n. slice_index new.colours (8 + n)) (below 8)
    → IsAppended k (old.border ≡ border) (BorderPreset border) none one
    → IsAppended k (map (λ n. slice_index old.colours (0 + n)) (below 8) ≡ low) (ColoursLow low) one two
    → IsAppended k (map (λ n. slice_index old.colours (8 + n)) (below 8) ≡ high) (ColoursHigh high) two three
    → three ≡ none ++ settings script k
all_appended script zero old new border low high none one two three before now b_is l_is h_is b l h =
    first_appended (ColoursHigh high) two three h
    ∙ ap (λ xs. xs ++ ColoursHigh high ∷ []) (first_appended (ColoursLow low) one two l
    ∙ ap (λ xs. xs ++ ColoursLow low ∷ []) (first_appended (BorderPreset border) none one b))
    ∙ first_list script 0 none border low high refl (b_is ∙ now.border_is)
    (l_is ∙ low_are script 0 new now) (h_is ∙ high_are script 0 new now)
all_appended script (suc k) old new border low high none one two three before now b_is l_is h_is b l h =
    let pos : 0 < suc k = omega arith in
    let was = before pos in
    let old_low : ℕ → ℕ = λ n. slice_index old.colours (0 + n) in
    let old_high : ℕ → ℕ = λ n. slice_index old.colours (8 + n) in
    let s_low = are_equal (map old_low (below 8)) low in
    let s_high = are_equal (map old_high (below 8)) high in
    let low_tests : Decides s_low (map old_low (below 8) ≡ low) =
    subst (λ xs. Decides (are_equal (map old_low (below 8)) xs) (map old_low (below 8) ≡ xs)) (sym l_is)
    (eight_Decides old_low (λ n. slice_index new.colours (0 + n))) in
    let high_tests : Decides s_high (map old_high (below 8) ≡ high) =
    subst (λ xs. Decides (are_equal (map old_high (below 8)) xs) (map old_high (below 8) ≡ xs)) (sym h_is)
    (eight_Decides old_high (λ n. slice_index new.colours (8 + n))) in
    later_appended (suc k) s_high (ColoursHigh high) two three pos high_tests h
    ∙ ap (λ xs. xs ++ (if s_high then [] else ColoursHigh high ∷ []))
    (later_appended (suc k) s_low (ColoursLow low) one two pos low_tests l
    ∙ ap (λ xs. xs ++ (if s_low then [] else ColoursLow low ∷ []))
    (later_appended (suc k) (old.border == border) (BorderPreset border) none one pos
    (Decides-eqb old.border border) b))
    ∙ later_list script (suc k) none (old.border == border) s_low s_high border low high pos
    (ap₂ (λ x y. x == y) was.border_is (b_is ∙ now.border_is))
    (ap₂ are_equal (low_are script (suc k - 1) old was) (l_is ∙ low_are script (suc k) new now))
    (ap₂ are_equal (high_are script (suc k - 1) old was) (h_is ∙ high_are script (suc k) new now))
    (b_is ∙ now.border_is) (l_is ∙ low_are script (suc k) new now)
    (h_is ∙ high_are script (suc k) new now)

pub planned_whole : (script : List Drawing) (k : ℕ) (start : Option ℕ) (one two new : List Instr)
    → one ≡ preset_of start → two ≡ one ++ settings script k → new ≡ two ++ planned_tiles script k start
    → new ≡ planned_from script k start
unfolding planned_from
planned_whole script k start one two new a b d =
    d ∙ ap (λ xs. xs ++ planned_tiles script k start) (b ∙ ap (λ xs. xs ++ settings script k) a)

pub all_colour : (k colour : ℕ) (start : Option ℕ) → start ≡ Some colour → IsStart k start
    → All (λ p. p < 16) (replicate 72 colour)
all_colour k colour start is h = (colour_is_tile colour (start_small k colour (subst (IsStart k) is h))).below

-- the tile of one colour
pub is_made : (pixels : List ℕ) (made : Option (List ℕ))
    → MatchOption made (¬ All (λ p. p < 16) pixels) (λ t. All (λ p. p < 16) pixels × (t ≡ pixels))
    → All (λ p. p < 16) pixels → IsSome made
is_made pixels None reported all = absurd (reported all)
is_made pixels (Some tile) reported all = refl

pub made_is : (pixels : List ℕ) (made : Option (List ℕ)) (tile : List ℕ)
    → MatchOption made (¬ All (λ p. p < 16) pixels) (λ t. All (λ p. p < 16) pixels × (t ≡ pixels))
    → made ≡ Some tile → tile ≡ pixels
made_is pixels None tile reported is = absurd (cc)
made_is pixels (Some other) tile reported is = let same : other ≡ tile = cc in sym same ∙ reported.1
