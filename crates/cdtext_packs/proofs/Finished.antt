-- The texts of the kept packs, with and without the size packs.
use Rattle.std.proofs.Common.{◌≡◌, ℕ, List, Option, Some, None, Result, Ok, Err, true, false, refl, sym, ap, subst, ◌∙◌, rules}
use Rattle.std.proofs.lemmas.Bool.{cond-true, cond-false}
use Rattle.std.specs.Option.{is_some}
use Rattle.std.specs.Prelude.{IfErr}
use Rattle.cdtext_packs.specs.Texts.{Texts, no_texts}
use Rattle.cdtext_packs.specs.declared.kinds.TextFault.{TextFault}
use Rattle.cdtext_packs.specs.Reading.{keeps_nothing, read_sized, read_sizes, read_texts, size_pack}
use Rattle.cdtext_packs.specs.declared.kinds.TextFault.TheVariants.{NoSize}

by_sizes : (kept : List (Option (List ℕ))) → false ≡ keeps_nothing kept
    → read_texts kept ≡ read_sizes kept (size_pack kept 0) (size_pack kept 1) (size_pack kept 2)
by_sizes kept some =
    cond-false (keeps_nothing kept) (Ok no_texts)
    (read_sizes kept (size_pack kept 0) (size_pack kept 1) (size_pack kept 2)) (sym some)

pub nothing_read : (kept now : List (Option (List ℕ))) → kept ≡ now → true ≡ keeps_nothing kept
    → read_texts now ≡ Ok no_texts
nothing_read kept now same none =
    subst (λ (k : List (Option (List ℕ))). read_texts k ≡ Ok no_texts) same
    (cond-true (keeps_nothing kept) (Ok no_texts)
    (read_sizes kept (size_pack kept 0) (size_pack kept 1) (size_pack kept 2)) (sym none))

pub no_first_size : (kept now : List (Option (List ℕ))) → kept ≡ now → false ≡ keeps_nothing kept
    → None ≡ size_pack kept 0
    → read_texts now ≡ Err NoSize
no_first_size kept now same some none =
    subst (λ (k : List (Option (List ℕ))). read_texts k ≡ Err NoSize) same
    (by_sizes kept some
    ∙ ap (λ (p : Option (List ℕ)). read_sizes kept p (size_pack kept 1) (size_pack kept 2)) (sym none))

pub no_second_size : (kept now : List (Option (List ℕ))) (a : List ℕ) → kept ≡ now
    → false ≡ keeps_nothing kept → Some a ≡ size_pack kept 0 → None ≡ size_pack kept 1
    → read_texts now ≡ Err NoSize
no_second_size kept now a same some first none =
    subst (λ (k : List (Option (List ℕ))). read_texts k ≡ Err NoSize) same
    (by_sizes kept some
    ∙ ap (λ (p : Option (List ℕ)). read_sizes kept p (size_pack kept 1) (size_pack kept 2)) (sym first)
    ∙ ap (λ (p : Option (List ℕ)). read_sizes kept (Some a) p (size_pack kept 2)) (sym none))

two_sizes : (kept : List (Option (List ℕ))) (a b : List ℕ) (third : Option (List ℕ))
    → false ≡ keeps_nothing kept → Some a ≡ size_pack kept 0 → Some b ≡ size_pack kept 1
    → size_pack kept 2 ≡ third
    → read_texts kept ≡ read_sizes kept (Some a) (Some b) third
two_sizes kept a b third some first second is =
    by_sizes kept some
    ∙ ap (λ (p : Option (List ℕ)). read_sizes kept p (size_pack kept 1) (size_pack kept 2)) (sym first)
    ∙ ap (λ (p : Option (List ℕ)). read_sizes kept (Some a) p (size_pack kept 2)) (sym second)
    ∙ ap (read_sizes kept (Some a) (Some b)) is

without : (kept : List (Option (List ℕ))) (a b : List ℕ) (third : Option (List ℕ)) → is_some third ≡ false
    → read_sizes kept (Some a) (Some b) third ≡ Err NoSize
without kept a b None none = refl
without kept a b (Some c) none = absurd (search rules)

with_all : (kept : List (Option (List ℕ))) (a b : List ℕ) (third : Option (List ℕ)) → is_some third ≡ true
    → read_sizes kept (Some a) (Some b) third ≡ read_sized kept a b
with_all kept a b None some = absurd (search rules)
with_all kept a b (Some c) some = refl

pub no_third_size : (kept now : List (Option (List ℕ))) (a b : List ℕ) (third : Option (List ℕ)) → kept ≡ now
    → false ≡ keeps_nothing kept → Some a ≡ size_pack kept 0 → Some b ≡ size_pack kept 1
    → third ≡ size_pack kept 2 → is_some third ≡ false
    → read_texts now ≡ Err NoSize
no_third_size kept now a b third same some first second is none =
    subst (λ (k : List (Option (List ℕ))). read_texts k ≡ Err NoSize) same
    (two_sizes kept a b third some first second (sym is) ∙ without kept a b third none)

pub all_sizes : (kept now : List (Option (List ℕ))) (a b : List ℕ) (third : Option (List ℕ)) → kept ≡ now
    → false ≡ keeps_nothing kept → Some a ≡ size_pack kept 0 → Some b ≡ size_pack kept 1
    → third ≡ size_pack kept 2 → is_some third ≡ true
    → read_texts now ≡ read_sized kept a b
all_sizes kept now a b third same some first second is whole =
    sym (ap read_texts same)
    ∙ two_sizes kept a b third some first second (sym is)
    ∙ with_all kept a b third whole

-- a refusal is reported unchanged
pub reported_as_is : (read : Result Texts TextFault) (fault : TextFault) → read ≡ Err fault
    → IfErr read (λ reported. ◌≡◌ {A = Result Texts TextFault} (Err fault) (Err reported))
reported_as_is read fault same =
    subst (λ r. IfErr r (λ reported. ◌≡◌ {A = Result Texts TextFault} (Err fault) (Err reported))) (sym same)
    refl
