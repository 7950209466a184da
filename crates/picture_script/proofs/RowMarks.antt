-- Rows of tiles that lines draw on.
use Rattle.std.proofs.Common.{◌≡◌, ℕ, ◌+◌, ◌-◌, ◌<◌, ◌≤◌, ◌⊎◌, Bool, true, false, List, length, take, get_or, ap, sym, subst, ◌∙◌, inl, inr, arith}
use Rattle.std.specs.Prelude.{replicate, slice_set}
use Rattle.std.proofs.lemmas.Bool.{cases_lt}
use Rattle.std.proofs.lemmas.List.{get_or-replicate, length-replicate, get_or-set_other, get_or-set_same, get_or_past}
use Rattle.picture_script.specs.Script.{Drawing, Border, drawn_by, lines_before, picture_pixel}
use Rattle.picture_script.specs.DrawnRows.{DrawsOn, KeepsRows, LeavesRows, MarksRows, AreDrawnRows}
use Rattle.picture_script.proofs.Scripts.{before_prefix}

-- if all rows are marked, no row is unmarked
pub all_marked : (n r : ℕ) → get_or (replicate n true) r true ≡ true
all_marked n r = elim (cases_lt r n) [
  | inl lt ↦ get_or-replicate {A = Bool} n r true true lt
  | inr past ↦
      get_or_past {X = Bool} (replicate n true) r true (omega (arith, length-replicate {A = Bool} n true))
]

-- an unmarked row was unmarked before, and is not between `from` and `to`
abbrev pub Unmarked : List Bool → List Bool → ℕ → ℕ → Type 0
Unmarked old new from to =
    (r : ℕ) → get_or new r true ≡ false → (get_or old r true ≡ false) × ((r < from) ⊎ (to ≤ r))

-- a marked row was marked before, or is between `from` and `to`
abbrev pub Marked : List Bool → List Bool → ℕ → ℕ → Type 0
Marked old new from to =
    (r : ℕ) → get_or new r false ≡ true → (get_or old r false ≡ true) ⊎ ((from ≤ r) × (r < to))

pub marked_to : (old new : List Bool) (from i to : ℕ) → (i ≡ from) ⊎ (i ≤ to) → Marked old new from i
    → Marked old new from to
marked_to old new from i to within marked r reported = elim (marked r reported) [
  | inl before ↦ inl before
  | inr between ↦ elim within [
    | inl none ↦ absurd (omega (arith, none, between.0, between.1))
    | inr le ↦ inr (between.0, omega (arith, le, between.1))
  ]
]

differ : (b : Bool) → b ≡ true → b ≡ false → ⊥
differ true is is_not = absurd (cc)
differ false is is_not = absurd (cc)

pub one_marked : (old new : List Bool) (from i : ℕ) → from ≤ i → i < length new → Unmarked old new from i
    → Unmarked old (slice_set new i true) from (i + 1)
one_marked old new from i le inside so_far r none = elim (cases_lt r i) [
  | inl less ↦
      let at : get_or new r true ≡ false =
      sym (get_or-set_other new i r true true (λ e. omega (arith, e, less))) ∙ none in
      elim (so_far r at).1
      [ inl front ↦ ((so_far r at).0, inl front) | inr past ↦ absurd (omega (arith, past, less)) ]
  | inr more ↦ elim (cases_lt i r) [
    | inl past ↦
        let at : get_or new r true ≡ false =
        sym (get_or-set_other new i r true true (λ e. omega (arith, e, past))) ∙ none in
        ((so_far r at).0, inr (omega (arith, past)))
    | inr here ↦
        let same : i ≡ r = omega (arith, more, here) in
        let marked : get_or (slice_set new i true) r true ≡ true =
        subst (λ n. get_or (slice_set new i true) n true ≡ true) same
        (get_or-set_same new i true true inside) in
        absurd (differ (get_or (slice_set new i true) r true) marked none)
  ]
]

-- between two pictures
pub between_pictures : (script : List Drawing) (k from to : ℕ) (rows : List Bool) → 0 < k
    → from ≡ length (lines_before script (k - 1)) → to ≡ length (lines_before script k)
    → LeavesRows script from to rows
    → KeepsRows script k rows
unfolding picture_pixel
between_pictures script k from to rows pos from_is to_is leaves r none =
    let first : take from script ≡ lines_before script (k - 1) =
    ap (λ n. take n script) from_is ∙ sym (before_prefix script (k - 1)) in
    let last : take to script ≡ lines_before script k =
    ap (λ n. take n script) to_is ∙ sym (before_prefix script k) in (
      pos,
      λ x y at. ap (λ lines. (drawn_by lines).pixel x y) (sym first)
          ∙ leaves r x y none at
          ∙ ap (λ lines. (drawn_by lines).pixel x y) last,
    )

pub reported_between : (script : List Drawing) (k from to : ℕ) (rows : List Bool)
    → from ≡ length (lines_before script (k - 1)) → to ≡ length (lines_before script k)
    → MarksRows script from to rows
    → AreDrawnRows script k rows
reported_between script k from to rows from_is to_is marks pos lt r reported =
    let (i, le, below, draws) = marks r reported in
    (i, omega (arith, from_is, le), omega (arith, to_is, below), draws)

pub not_marked : (n r : ℕ) → get_or (replicate n false) r false ≡ true → ⊥
not_marked n r reported = elim (cases_lt r n) [
  | inl lt ↦ differ (get_or (replicate n false) r false) reported (get_or-replicate n r false false lt)
  | inr past ↦
      differ (get_or (replicate n false) r false) reported
      (get_or_past (replicate n false) r false (omega (arith, length-replicate n false, past)))
]

-- one more line, which may mark a row
pub one_line_more : (script : List Drawing) (from i r : ℕ) (rows : List Bool) (line : Drawing) → from ≤ i
    → line ≡ get_or script i (Border 0) → MarksRows script from i rows
    → (get_or rows r false ≡ true) ⊎ DrawsOn line r
    → (j : ℕ) × (from ≤ j) × (j < i + 1) × DrawsOn (get_or script j (Border 0)) r
one_line_more script from i r rows line le is marks (inl before) =
    let (j, from_le, below, draws) = marks r before in (j, from_le, omega (arith, below), draws)
one_line_more script from i r rows line le is marks (inr draws) =
    (i, le, omega arith, subst (λ (d : Drawing). DrawsOn d r) is draws)
