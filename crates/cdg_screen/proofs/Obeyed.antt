-- The effect of an instruction on the state of a screen, and on what it shows.
use Rattle.std.proofs.Common.{◌&&◌, ◌≤◌, subst, ◌≡◌, inl, inr, ℕ, ◌+◌, ◌-◌, ◌<◌, List, [], ◌∷◌, length, replicate, refl, sym, ap, ◌∙◌, arith}
use Rattle.std.specs.Prelude.{◌↔◌, nat_le, nat_lt, if◌then◌else◌, slice_index}
use Rattle.std.proofs.lemmas.Bool.{cases_lt}
use Rattle.std.proofs.lemmas.Bool.Decides.{nat_tests}
use Rattle.cdg_instructions.specs.declared.instr.Instr.{Instr}
use Rattle.cdg_instructions.specs.Effect.{effect_of}
use Rattle.cdg_instructions.specs.declared.effect.Effect.{Effect}
use Rattle.cdg_screen.specs.Standing.{IsWholeStanding, Standing, blank, pixel_at, rows_of, sixteen, memory_from, border_from, colour_from, level_from, offsets_from, standing_after}
use Rattle.cdg_screen.specs.Memory.{Kept, MemoryRows, at, Becomes, seen}
use Rattle.cdg_screen.proofs.Lists.{AreSamePixels, rows_same, pixel_of_rows, sixteen_are, number_of_sixteen}
use Rattle.cdg_screen.proofs.Turns.{same_memory}
use Rattle.cdg_screen.proofs.Effects.{memory_by, border_by, colour_by, level_by, offsets_by, memory_is, border_is, colour_is, level_is, offsets_are}

pub seen_is_whole : (kept : Kept) → length kept.colours ≡ 16 → length kept.levels ≡ 16
    → IsWholeStanding (seen kept)
seen_is_whole kept sixteen_colours sixteen_levels =
    let memory =
    rows_same (pixel_at (rows_of (at kept.memory))) (at kept.memory) (pixel_of_rows (at kept.memory)) in
    let colours = sym (sixteen_are kept.colours (slice_index kept.colours) sixteen_colours (λ k _. refl)) in
    let levels = sym (sixteen_are kept.levels (slice_index kept.levels) sixteen_levels (λ k _. refl)) in
    λ i. record {
      memory = memory i;
      border = kept.border;
      colours = colours i;
      levels = levels i;
      h = kept.h;
      v = kept.v;
    }

-- an instruction turns `old` into `new`, place by place
pub record Obeys (instr : Instr) (old new : Kept) : Type 0 where
  pub memory : Becomes new.memory (memory_from (at old.memory) (instr ∷ []))
  pub border : new.border ≡ border_from old.border (instr ∷ [])
  pub colours : (k : ℕ) → k < 16
      → slice_index new.colours k ≡ colour_from (slice_index old.colours) (instr ∷ []) k
  pub levels : (k : ℕ) → k < 16
      → slice_index new.levels k ≡ level_from (slice_index old.levels) (instr ∷ []) k
  pub h : new.h ≡ (offsets_from (old.h, old.v) (instr ∷ [])).0
  pub v : new.v ≡ (offsets_from (old.h, old.v) (instr ∷ [])).1

seen_before : (memory : MemoryRows) (instrs : List Instr)
    → AreSamePixels (memory_from (at memory) instrs) (memory_from (pixel_at (rows_of (at memory))) instrs)
seen_before memory instrs =
    same_memory (at memory) (pixel_at (rows_of (at memory)))
    (λ x y x_lt y_lt. sym (pixel_of_rows (at memory) x y x_lt y_lt)) instrs

pub obeyed : (instr : Instr) (old new : Kept) → length new.colours ≡ 16 → length new.levels ≡ 16
    → Obeys instr old new
    → seen new ≡ standing_after (seen old) (instr ∷ [])
obeyed instr old new sixteen_colours sixteen_levels obeys =
    let memory =
    rows_same _ _
    (λ x y x_lt y_lt. obeys.memory x y x_lt y_lt ∙ seen_before old.memory (instr ∷ []) x y x_lt y_lt) in
    let colours =
    sixteen_are new.colours (colour_from (slice_index old.colours) (instr ∷ [])) sixteen_colours
    obeys.colours in
    let levels =
    sixteen_are new.levels (level_from (slice_index old.levels) (instr ∷ [])) sixteen_levels obeys.levels in
    λ i. record {
      memory = memory i;
      border = obeys.border i;
      colours = colours i;
      levels = levels i;
      h = obeys.h i;
      v = obeys.v i;
    }

pub obeys_back : (instr : Instr) (old new : Kept) → seen new ≡ standing_after (seen old) (instr ∷ [])
    → Obeys instr old new
obeys_back instr old new same = record {
  memory = λ x y x_lt y_lt.
      sym (pixel_of_rows (at new.memory) x y x_lt y_lt)
      ∙ ap (λ (now : Standing). pixel_at now.memory x y) same
      ∙ pixel_of_rows (memory_from (pixel_at (rows_of (at old.memory))) (instr ∷ [])) x y x_lt y_lt
      ∙ sym (seen_before old.memory (instr ∷ []) x y x_lt y_lt);
  border = ap (λ (now : Standing). now.border) same;
  colours =
      λ k lt. ap (λ (now : Standing). slice_index now.colours k) same
      ∙ number_of_sixteen (colour_from (slice_index old.colours) (instr ∷ [])) k lt;
  levels =
      λ k lt. ap (λ (now : Standing). slice_index now.levels k) same
      ∙ number_of_sixteen (level_from (slice_index old.levels) (instr ∷ [])) k lt;
  h = ap (λ (now : Standing). now.h) same;
  v = ap (λ (now : Standing). now.v) same;
}

-- a standing is unchanged after an instruction, place by place and as a whole
pub stays : (A : Type 0) (instr : Instr) (now : Kept) → length now.colours ≡ 16 → length now.levels ≡ 16
    → A ↔ Obeys instr now now
    → A ↔ standing_after (seen now) (instr ∷ []) ≡ seen now
stays A instr now sixteen_colours sixteen_levels as_is = (
  (λ holds. sym (obeyed instr now now sixteen_colours sixteen_levels (as_is.0 holds))),
  λ same. as_is.1 (obeys_back instr now now (sym same)),
)

-- the standing of a screen of zeros is blank
pub all_zero : (memory : MemoryRows) → Becomes memory (λ x y. 0)
    → seen
    (record { memory = memory; border = 0; colours = replicate 16 0; levels = replicate 16 0; h = 0; v = 0 })
    ≡ blank
unfolding sixteen
all_zero memory pixels =
    let memory = rows_same _ _ pixels in
    λ i. record {
      memory = memory i;
      border = 0;
      colours = replicate 16 0;
      levels = replicate 16 0;
      h = 0;
      v = 0;
    }

-- an effect turns `old` into `new`, place by place
pub record ObeysBy (effect : Effect) (old new : Kept) : Type 0 where
  pub memory : Becomes new.memory (memory_by effect (at old.memory))
  pub border : new.border ≡ border_by effect old.border
  pub colours : (k : ℕ) → k < 16 → slice_index new.colours k ≡ colour_by effect (slice_index old.colours) k
  pub levels : (k : ℕ) → k < 16 → slice_index new.levels k ≡ level_by effect (slice_index old.levels) k
  pub h : new.h ≡ (offsets_by effect (old.h, old.v)).0
  pub v : new.v ≡ (offsets_by effect (old.h, old.v)).1

obeys_by : (instr : Instr) (old new : Kept) → ObeysBy (effect_of instr) old new → Obeys instr old new
obeys_by instr old new by = record {
  memory = λ x y x_lt y_lt. by.memory x y x_lt y_lt ∙ memory_is instr (at old.memory) x y;
  border = by.border ∙ border_is instr old.border;
  colours = λ k lt. by.colours k lt ∙ colour_is instr (slice_index old.colours) k lt;
  levels = λ k lt. by.levels k lt ∙ level_is instr (slice_index old.levels) k;
  h = by.h ∙ ap (λ (o : ℕ × ℕ). o.0) (offsets_are instr (old.h, old.v));
  v = by.v ∙ ap (λ (o : ℕ × ℕ). o.1) (offsets_are instr (old.h, old.v));
}

by_obeys : (instr : Instr) (old new : Kept) → Obeys instr old new → ObeysBy (effect_of instr) old new
by_obeys instr old new obeys = record {
  memory = λ x y x_lt y_lt. obeys.memory x y x_lt y_lt ∙ sym (memory_is instr (at old.memory) x y);
  border = obeys.border ∙ sym (border_is instr old.border);
  colours = λ k lt. obeys.colours k lt ∙ sym (colour_is instr (slice_index old.colours) k lt);
  levels = λ k lt. obeys.levels k lt ∙ sym (level_is instr (slice_index old.levels) k);
  h = obeys.h ∙ sym (ap (λ (o : ℕ × ℕ). o.0) (offsets_are instr (old.h, old.v)));
  v = obeys.v ∙ sym (ap (λ (o : ℕ × ℕ). o.1) (offsets_are instr (old.h, old.v)));
}

-- a screen whose standing is `now`, after an instruction with this effect
pub obeyed_by : (now : Standing) (given : Instr) (effect : Effect) (old new : Kept)
    → seen old ≡ now → effect_of given ≡ effect → length new.colours ≡ 16 → length new.levels ≡ 16
    → ObeysBy effect old new → seen new ≡ standing_after now (given ∷ [])
obeyed_by now given effect old new view is sixteen_colours sixteen_levels by =
    rw (← view) (obeyed given old new sixteen_colours sixteen_levels
    (obeys_by given old new (subst (λ e. ObeysBy e old new) (sym is) by)))

pub stays_by : (A : Type 0) (now : Standing) (given : Instr) (effect : Effect) (kept : Kept)
    → seen kept ≡ now → effect_of given ≡ effect → length kept.colours ≡ 16 → length kept.levels ≡ 16
    → A ↔ ObeysBy effect kept kept → A ↔ standing_after now (given ∷ []) ≡ now
stays_by A now given effect kept view is sixteen_colours sixteen_levels as_is =
    rw (← view) (stays A given kept sixteen_colours sixteen_levels (
      (λ holds. obeys_by given kept kept (subst (λ e. ObeysBy e kept kept) (sym is) (as_is.0 holds))),
      λ obeys. as_is.1 (subst (λ e. ObeysBy e kept kept) is (by_obeys given kept kept obeys)),
    ))

-- eight colours that a table already has change no entry

pub colours_kept : (first : ℕ) (given table : List ℕ)
    → ((k : ℕ) → k < 8 → slice_index given k ≡ slice_index table (first + k))
    → (k : ℕ) → k < 16
    → slice_index table k
    ≡ (if nat_le first k && nat_lt k (first + 8) then slice_index given (k - first) else slice_index table k)
colours_kept first given table same k lt = elim (cases_lt k first) [
  | inl below ↦ grind (arith, nat_tests)
  | inr from ↦ elim (cases_lt k (first + 8)) [
    | inr past ↦ grind (arith, nat_tests)
    | inl within ↦
        let e = same (k - first) (omega (arith, from, within)) in
        let is : first + (k - first) ≡ k = omega (arith, from) in
        let here = e ∙ ap (slice_index table) is in
        grind (arith, nat_tests)
  ]
]

pub colours_back : (first : ℕ) (given table : List ℕ) → first ≤ 8
    → ((k : ℕ) → k < 16 → slice_index table k
    ≡ (if nat_le first k && nat_lt k (first + 8) then slice_index given (k - first) else slice_index table k))
    → (k : ℕ) → k < 8 → slice_index given k ≡ slice_index table (first + k)
colours_back first given table most kept k lt =
    let e = kept (first + k) (omega (arith, most, lt)) in
    let is : first + k - first ≡ k = omega arith in
    let back = ap (slice_index given) is in
    grind (arith, nat_tests)
