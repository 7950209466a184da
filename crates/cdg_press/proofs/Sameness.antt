-- Whether a standing is unchanged, computed.
use Rattle.std.proofs.Common.{◌≡◌, ℕ, ◌&&◌, Bool, true, false, true≢false, List, [], ◌∷◌, refl, sym, ap, ◌∙◌, inl, inr}
use Rattle.std.specs.Prelude.{nat_eq}
use Rattle.std.specs.Bool.{Decides}
use Rattle.std.specs.Cmp.Lexicographic.{pointwise}
use Rattle.std.proofs.lemmas.Bool.{cases_Bool}
use Rattle.std.proofs.lemmas.Bool.Decides.{Decides-eqb}
use Rattle.std.proofs.lemmas.Slice.Eq.{slice_eq-Decides}
use Rattle.cdg_screen.specs.Standing.{Standing, standing_after}
use Rattle.cdg_instructions.specs.declared.instr.Instr.{Instr}
use Rattle.cdg_press.specs.Thin.{is_graphic}
use Rattle.cdg_press.specs.Steps.{is_same, is_needless}

both_true : (a b : Bool) → (a && b) ≡ true → (a ≡ true) × (b ≡ true)
both_true true b h = (refl, h)
both_true false b h = absurd (true≢false (sym h))

true_both : (a b : Bool) → a ≡ true → b ≡ true → (a && b) ≡ true
true_both a b e f = rw (e, f) refl

numbers_decide : (a b : List ℕ) → Decides (pointwise nat_eq a b) (a ≡ b)
numbers_decide a b = slice_eq-Decides Decides-eqb a b (pointwise nat_eq a b) refl

rows_decide : (a b : List (List ℕ)) → Decides (pointwise (pointwise nat_eq) a b) (a ≡ b)
rows_decide a b = slice_eq-Decides (λ xs ys. numbers_decide xs ys) a b (pointwise (pointwise nat_eq) a b) refl

pub same_standing : (a b : Standing) → is_same a b ≡ true → a ≡ b
unfolding is_same
same_standing a b t =
    let (five, v_same) = both_true _ _ t in
    let (four, h_same) = both_true _ _ five in
    let (three, levels_same) = both_true _ _ four in
    let (two, colours_same) = both_true _ _ three in
    let (memory_same, border_same) = both_true _ _ two in
    let memory = (rows_decide a.memory b.memory).0 memory_same in
    let border = (Decides-eqb a.border b.border).0 border_same in
    let colours = (numbers_decide a.colours b.colours).0 colours_same in
    let levels = (numbers_decide a.levels b.levels).0 levels_same in
    let h = (Decides-eqb a.h b.h).0 h_same in
    let v = (Decides-eqb a.v b.v).0 v_same in
    λ i. record {
      memory = memory i;
      border = border i;
      colours = colours i;
      levels = levels i;
      h = h i;
      v = v i;
    }

pub reports_same : (a b : Standing) → a ≡ b → is_same a b ≡ true
unfolding is_same
reports_same a b same =
    true_both _ _ (true_both _ _ (true_both _ _ (true_both _ _ (true_both _ _
    ((rows_decide a.memory b.memory).1 (ap (λ (now : Standing). now.memory) same))
    ((Decides-eqb a.border b.border).1 (ap (λ (now : Standing). now.border) same)))
    ((numbers_decide a.colours b.colours).1 (ap (λ (now : Standing). now.colours) same)))
    ((numbers_decide a.levels b.levels).1 (ap (λ (now : Standing). now.levels) same)))
    ((Decides-eqb a.h b.h).1 (ap (λ (now : Standing). now.h) same)))
    ((Decides-eqb a.v b.v).1 (ap (λ (now : Standing). now.v) same))

-- the standing decides whether an instruction is needless
pub needless_if : (now : Standing) (instr : Instr) → is_graphic instr ≡ true
    → standing_after now (instr ∷ []) ≡ now
    → is_needless now instr ≡ true
unfolding is_needless
needless_if now instr graphic same = true_both _ _ graphic (reports_same _ _ same)

pub if_needless : (now : Standing) (instr : Instr) → is_needless now instr ≡ true
    → (is_graphic instr ≡ true) × (standing_after now (instr ∷ []) ≡ now)
unfolding is_needless
if_needless now instr t = let both = both_true _ _ t in (both.0, same_standing _ _ both.1)

pub needless_as_graphic : (now : Standing) (instr : Instr) → standing_after now (instr ∷ []) ≡ now
    → is_needless now instr ≡ is_graphic instr
unfolding is_needless
needless_as_graphic now instr same = elim (cases_Bool (is_graphic instr)) [
  | inl holds ↦ needless_if now instr holds same ∙ sym holds
  | inr fails ↦ rw fails refl
]

pub not_needless : (now : Standing) (instr : Instr) → ¬ (standing_after now (instr ∷ []) ≡ now)
    → is_needless now instr ≡ false
not_needless now instr differs = elim (cases_Bool (is_needless now instr)) [
  | inl holds ↦ absurd (differs (if_needless now instr holds).1)
  | inr fails ↦ fails
]
