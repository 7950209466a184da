use Rattle.std.proofs.Common.{◌≡◌, ◌∙◌, Some, None, List, ℕ, get_or, sym, ap, subst, arith}
use Rattle.std.specs.declared.option.Option.{Option}
use Rattle.std.proofs.lemmas.List.{get_or_read}
use Rattle.cdtext_packs.specs.Kept.{AreGood, with_number}
use Rattle.cdtext_packs.specs.Packs.{pack_number}
use Rattle.cdtext_packs.proofs.Repeats.{offered_again}
use Rattle.cdtext_packs.proofs.reader.TextReader.keeps.Goals as goal

pub returns-in-Some : goal.returns-in-Some
returns-in-Some c = λ yes.
    let pack = c.args.pack.now in
    let place : pack_number pack ≡ c.from.result = sym (c.from.ensures ∙ c.number.ensures) in
    let there : with_number c.args.self.now (pack_number pack) ≡ Some pack =
    ap (λ (l : List (Option (List ℕ))). get_or l (pack_number pack) None) (sym c.self.view_is)
    ∙ ap (λ i. get_or c.self.inside.kept i None) place
    ∙ sym (get_or_read c.self.inside.kept _ _
    (omega (arith, c.self.told, c.number.type_inv, c.number.auto, c.from.ensures))
    c.index-self-from.is None)
    ∙ c.index-self-from.is
    ∙ c.in-Some.is
    ∙ ap Some (c.has_bytes_of.ensures yes) in
    offered_again c.args.self.now pack (subst AreGood c.self.view_is c.self.invariant) there
