-- The computed meaning of a word.
use Rattle.std.proofs.Common.{◌≡◌, ◌≢◌, ◌<◌, ◌∙◌, ℕ, zero, suc, Bool, true, false, true≢false, Contains, ◌==◌, if◌then◌else◌, List, get_or, sym, refl, arith, inl, inr}
use Rattle.std.proofs.lemmas.Bool.Decides.{nat_tests, eqb_tells}
use Rattle.cdg_instructions.specs.Instruction.{known_codes, Means, IsGraphics}
use Rattle.cdg_instructions.specs.Meaning.{graphics, meaning_by, meaning}
use Rattle.cdg_instructions.specs.declared.instr.Instr.{Instr}
use Rattle.cdg_instructions.specs.declared.instr.Instr.TheVariants.{Idle, Foreign, Unknown, MemoryPreset, BorderPreset, SetTile, XorTile, ScrollPreset, ScrollCopy, Transparency, ColoursLow, ColoursHigh}

-- two symbols decide the meaning
by_two : (word : List ℕ) (mode code : ℕ) (instr : Instr) → get_or word 0 0 ≡ mode → get_or word 1 0 ≡ code
    → instr ≡ meaning_by word mode code
    → instr ≡ meaning_by word (get_or word 0 0) (get_or word 1 0)
by_two word mode code instr m c e = rw (m, c) e

not_known : (code : ℕ) → ¬ Contains known_codes code
    → (code ≢ 1)
    × (code ≢ 2)
    × (code ≢ 6)
    × (code ≢ 20)
    × (code ≢ 24)
    × (code ≢ 28)
    × (code ≢ 30)
    × (code ≢ 31)
    × (code ≢ 38)
not_known code h = (
  λ e. h (0, omega arith, sym e),
  λ e. h (1, omega arith, sym e),
  λ e. h (2, omega arith, sym e),
  λ e. h (3, omega arith, sym e),
  λ e. h (4, omega arith, sym e),
  λ e. h (5, omega arith, sym e),
  λ e. h (6, omega arith, sym e),
  λ e. h (7, omega arith, sym e),
  λ e. h (8, omega arith, sym e),
)

unknown : (word : List ℕ) (code : ℕ) → ¬ Contains known_codes code → graphics word code ≡ Unknown
unknown word code h =
    let n = not_known code h in
    grind (arith, nat_tests)

pub meaning_is : (word : List ℕ) (instr : Instr) → Means word instr
    → instr ≡ meaning_by word (get_or word 0 0) (get_or word 1 0)
meaning_is word Idle h = rw h refl
meaning_is word Foreign h = grind (arith, nat_tests)
meaning_is word Unknown h = by_two word 9 _ _ h.0 refl (sym (unknown word _ h.1))
meaning_is word (MemoryPreset a b) h = by_two word 9 1 _ h.0.mode_is h.0.code_is (cc)
meaning_is word (BorderPreset a) h = by_two word 9 2 _ h.0.mode_is h.0.code_is (cc)
meaning_is word (SetTile a b c d e) h = by_two word 9 6 _ h.0.mode_is h.0.code_is (cc)
meaning_is word (XorTile a b c d e) h = by_two word 9 38 _ h.0.mode_is h.0.code_is (cc)
meaning_is word (ScrollPreset a b c d e) h = by_two word 9 20 _ h.0.mode_is h.0.code_is (cc)
meaning_is word (ScrollCopy a b c d e) h = by_two word 9 24 _ h.0.mode_is h.0.code_is (cc)
meaning_is word (Transparency a) h = by_two word 9 28 _ h.0.mode_is h.0.code_is (cc)
meaning_is word (ColoursLow a) h = by_two word 9 30 _ h.0.mode_is h.0.code_is (cc)
meaning_is word (ColoursHigh a) h = by_two word 9 31 _ h.0.mode_is h.0.code_is (cc)

-- ---- the function returns the meaning of a word

is_number : (a b : ℕ) → (a == b) ≡ true → a ≡ b
is_number a b t =
    elim (eqb_tells a b) [ inl same ↦ same.1 | inr differ ↦ absurd (true≢false (sym t ∙ differ.0)) ]

is_other : (a b : ℕ) → (a == b) ≡ false → a ≢ b
is_other a b t =
    elim (eqb_tells a b) [ inl same ↦ absurd (true≢false (sym same.0 ∙ t)) | inr differ ↦ differ.1 ]

choose : (word : List ℕ) (test : Bool) (one other : Instr) → (test ≡ true → Means word one)
    → (test ≡ false → Means word other)
    → Means word (if test then one else other)
choose word true one other f g = f refl
choose word false one other f g = g refl

no_code : (code : ℕ) → code ≢ 1 → code ≢ 2 → code ≢ 6 → code ≢ 20 → code ≢ 24 → code ≢ 28 → code ≢ 30
    → code ≢ 31 → code ≢ 38 → (k d : ℕ) → k < 9
    → ¬ (get_or known_codes k d ≡ code)
no_code code n1 n2 n6 n20 n24 n28 n30 n31 n38 zero d lt e = n1 (sym e)
no_code code n1 n2 n6 n20 n24 n28 n30 n31 n38 (suc zero) d lt e = n2 (sym e)
no_code code n1 n2 n6 n20 n24 n28 n30 n31 n38 (suc (suc zero)) d lt e = n6 (sym e)
no_code code n1 n2 n6 n20 n24 n28 n30 n31 n38 (suc (suc (suc zero))) d lt e = n20 (sym e)
no_code code n1 n2 n6 n20 n24 n28 n30 n31 n38 (suc (suc (suc (suc zero)))) d lt e = n24 (sym e)
no_code code n1 n2 n6 n20 n24 n28 n30 n31 n38 (suc (suc (suc (suc (suc zero))))) d lt e = n28 (sym e)
no_code code n1 n2 n6 n20 n24 n28 n30 n31 n38 (suc (suc (suc (suc (suc (suc zero)))))) d lt e = n30 (sym e)
no_code code n1 n2 n6 n20 n24 n28 n30 n31 n38 (suc (suc (suc (suc (suc (suc (suc zero))))))) d lt e =
    n31 (sym e)
no_code code n1 n2 n6 n20 n24 n28 n30 n31 n38 (suc (suc (suc (suc (suc (suc (suc (suc zero)))))))) d lt e =
    n38 (sym e)
no_code code n1 n2 n6 n20 n24 n28 n30 n31 n38 (suc (suc (suc (suc (suc (suc (suc (suc (suc k))))))))) d lt e =
    absurd (omega arith)

graphics_means : (word : List ℕ) (code : ℕ) → get_or word 0 0 ≡ 9 → get_or word 1 0 ≡ code
    → Means word (graphics word code)
graphics_means word code m c =
    let here : (n : ℕ) → (code == n) ≡ true → IsGraphics word n =
    λ n t. record { mode_is = m; code_is = c ∙ is_number code n t } in
    choose word (code == 1) _ _ (λ t. (here 1 t, refl, refl)) (λ f1.
    choose word (code == 2) _ _ (λ t. (here 2 t, refl)) (λ f2.
    choose word (code == 6) _ _ (λ t. (
      here 6 t,
      record { colour0_is = refl; colour1_is = refl; row_is = refl; column_is = refl; lines_are = refl },
    )) (λ f6.
    choose word (code == 20) _ _ (λ t. (
      here 20 t,
      record { colour_is = refl; across_is = refl; h_is = refl; down_is = refl; v_is = refl },
    )) (λ f20.
    choose word (code == 24) _ _ (λ t. (
      here 24 t,
      record { colour_is = refl; across_is = refl; h_is = refl; down_is = refl; v_is = refl },
    )) (λ f24.
    choose word (code == 28) _ _ (λ t. (here 28 t, refl)) (λ f28.
    choose word (code == 30) _ _ (λ t. (here 30 t, refl)) (λ f30.
    choose word (code == 31) _ _ (λ t. (here 31 t, refl)) (λ f31.
    choose word (code == 38) _ _ (λ t. (
      here 38 t,
      record { colour0_is = refl; colour1_is = refl; row_is = refl; column_is = refl; lines_are = refl },
    )) (λ f38. (
      m,
      λ contained. no_code code (is_other code 1 f1) (is_other code 2 f2) (is_other code 6 f6)
          (is_other code 20 f20) (is_other code 24 f24) (is_other code 28 f28) (is_other code 30 f30)
          (is_other code 31 f31) (is_other code 38 f38)
          contained.0 _ contained.1 (contained.2 ∙ c),
    )
    )))))))))

pub meaning_means : (word : List ℕ) → Means word (meaning word)
unfolding meaning
meaning_means word =
    choose word (get_or word 0 0 == 0) _ _ (λ t. is_number (get_or word 0 0) 0 t) (λ idle.
    choose word (get_or word 0 0 == 9) _ _
    (λ t. graphics_means word (get_or word 1 0) (is_number (get_or word 0 0) 9 t) refl)
    (λ other. (is_other (get_or word 0 0) 0 idle, is_other (get_or word 0 0) 9 other)))

pub only_meaning : (word : List ℕ) (instr : Instr) → Means word instr → instr ≡ meaning word
unfolding meaning
only_meaning word instr h = meaning_is word instr h
