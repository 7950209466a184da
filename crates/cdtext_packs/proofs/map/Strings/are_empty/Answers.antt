use Rattle.std.proofs.Common.{◌≡◌, ◌∙◌, ℕ, Vec, Global, List, [], ◌∷◌, ◌&&◌, map, refl, ap, rules, tests}
use Rattle.std.specs.List.{list_all}
use Rattle.std.proofs.lemmas.Iterator.{YieldsList-from_slice}
use Rattle.std.proofs.lemmas.Iterator.Search.{all_from_yields_List}
use Rattle.cdtext_packs.specs.Texts.{is_empty, are_empty}
use Rattle.cdtext_packs.proofs.map.Strings.are_empty.Goals as goal

of_items : (items : List (Vec ℕ Global))
    → list_all (λ v. is_empty v.items) items ≡ are_empty (map (λ v. v.items) items)
of_items [] = refl
of_items (v ∷ items) = ap (λ b. is_empty v.items && b) (of_items items)

pub returns : goal.returns
returns c =
    all_from_yields_List (λ (v : Vec ℕ Global). is_empty v.items) _ _ _ c.all.ensures.ran
    (YieldsList-from_slice _ c.iter.ensures.rest) (λ x b q k. search (rules, tests))
    ∙ ap (list_all (λ (v : Vec ℕ Global). is_empty v.items)) c.deref.ensures.value
    ∙ of_items c.self.inside.items.items ∙ ap are_empty c.self.view_is
