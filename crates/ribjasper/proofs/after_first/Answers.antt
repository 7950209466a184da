use Rattle.std.proofs.Common.{◌≡◌, ◌∙◌, List, ap, rules, length, vec_len, String}
use Rattle.std.specs.Global.{Vec, Global}
use Rattle.std.specs.Vec.Iter.{into_iter_items, into_iter_len}
use Rattle.std.proofs.lemmas.Iterator.Adapters.{YieldsList-from_skip, YieldsList-from_vec, fact_from_collect}
use Rattle.ribjasper.proofs.after_first.Goals as goal

pub returns : goal.returns
returns c =
    let source = c.skip.ensures.source in
    let fact =
    fact_from_collect
    (λ (xs : List (String Global)) (v : Vec (String Global)). (v.items ≡ xs) × (vec_len v ≡ length xs))
    c.collect.result c.collect.ensures.ran
    (YieldsList-from_skip {s = c.skip.result} 1
    (YieldsList-from_vec {s = c.skip.result.iter} (into_iter_items c.args.all) (ap into_iter_items source)
    (ap into_iter_len source ∙ c.args.all.rest.ok.0))
    c.skip.ensures.count) in
    search (rules, fact)
