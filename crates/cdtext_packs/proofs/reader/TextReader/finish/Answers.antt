use Rattle.std.proofs.Common.{◌≡◌, ◌⊎◌, Ok, Err, inr, sym, ap, subst, ◌∙◌}
use Rattle.std.specs.Prelude.{IfOk, IfErr}
use Rattle.cdtext_packs.specs.declared.kinds.TextFault.TheVariants.{NoMemory, NoSize}
use Rattle.cdtext_packs.proofs.Finished.{nothing_read, no_first_size, no_second_size, no_third_size, all_sizes, reported_as_is}
use Rattle.cdtext_packs.proofs.reader.TextReader.finish.Goals as goal

pub returns-then-keeps_nothing-clause-texts : goal.returns-then-keeps_nothing-clause-texts
returns-then-keeps_nothing-clause-texts c =
    nothing_read c.self.inside.kept c.args.self.now c.self.view_is
    c.if-keeps_nothing.ensures
    ∙ ap Ok (sym c.empty.ensures)

pub returns-then-keeps_nothing-clause-refused : goal.returns-then-keeps_nothing-clause-refused
returns-then-keeps_nothing-clause-refused c =
    let read =
    nothing_read c.self.inside.kept c.args.self.now c.self.view_is
    c.if-keeps_nothing.ensures in
    subst (λ texts. IfErr texts (λ fault. Ok c.empty.result ≡ Err fault)) (sym read) tt

pub returns-in_default-clause-fault : goal.returns-in_default-clause-fault
returns-in_default-clause-fault c =
    inr (no_first_size c.self.inside.kept c.args.self.now c.self.view_is
    c.if-keeps_nothing.ensures c.in_default.ensures)

pub returns-in_default-clause-refused : goal.returns-in_default-clause-refused
returns-in_default-clause-refused c =
    let read =
    no_first_size c.self.inside.kept c.args.self.now c.self.view_is
    c.if-keeps_nothing.ensures c.in_default.ensures in
    reported_as_is _ NoSize read

pub returns-in_default-size_pack-clause-fault : goal.returns-in_default-size_pack-clause-fault
returns-in_default-size_pack-clause-fault c =
    inr (no_second_size c.self.inside.kept c.args.self.now _ c.self.view_is
    c.if-keeps_nothing.ensures c.in-Some.ensures c.in_default-size_pack.ensures)

pub returns-in_default-size_pack-clause-refused : goal.returns-in_default-size_pack-clause-refused
returns-in_default-size_pack-clause-refused c =
    let read =
    no_second_size c.self.inside.kept c.args.self.now _ c.self.view_is
    c.if-keeps_nothing.ensures c.in-Some.ensures c.in_default-size_pack.ensures in
    reported_as_is _ NoSize read

pub returns-then-is_none-clause-fault : goal.returns-then-is_none-clause-fault
returns-then-is_none-clause-fault c =
    inr (no_third_size c.self.inside.kept c.args.self.now _ _ c.size_pack-3.result
    c.self.view_is c.if-keeps_nothing.ensures c.in-Some.ensures
    c.in-Some-size_pack.ensures c.size_pack-3.ensures c.if-is_none.ensures)

pub returns-then-is_none-clause-refused : goal.returns-then-is_none-clause-refused
returns-then-is_none-clause-refused c =
    let read =
    no_third_size c.self.inside.kept c.args.self.now _ _ c.size_pack-3.result
    c.self.view_is c.if-keeps_nothing.ensures c.in-Some.ensures
    c.in-Some-size_pack.ensures c.size_pack-3.ensures c.if-is_none.ensures in
    reported_as_is _ NoSize read

pub returns-clause-texts : goal.returns-clause-texts
returns-clause-texts c =
    let read =
    all_sizes c.self.inside.kept c.args.self.now _ _ c.size_pack-3.result
    c.self.view_is c.if-keeps_nothing.ensures c.in-Some.ensures
    c.in-Some-size_pack.ensures c.size_pack-3.ensures c.if-is_none.ensures in
    subst (λ texts. IfOk c.read_sized.result (λ map. texts ≡ Ok map)) (sym read) c.read_sized.ensures.texts

pub returns-clause-fault : goal.returns-clause-fault
returns-clause-fault c =
    let read =
    all_sizes c.self.inside.kept c.args.self.now _ _ c.size_pack-3.result
    c.self.view_is c.if-keeps_nothing.ensures c.in-Some.ensures
    c.in-Some-size_pack.ensures c.size_pack-3.ensures c.if-is_none.ensures in
    subst (λ texts. IfErr c.read_sized.result (λ fault. (fault ≡ NoMemory) ⊎ (texts ≡ Err fault))) (sym read)
    c.read_sized.ensures.fault

pub returns-clause-refused : goal.returns-clause-refused
returns-clause-refused c =
    let read =
    all_sizes c.self.inside.kept c.args.self.now _ _ c.size_pack-3.result
    c.self.view_is c.if-keeps_nothing.ensures c.in-Some.ensures
    c.in-Some-size_pack.ensures c.size_pack-3.ensures c.if-is_none.ensures in
    subst (λ texts. IfErr texts (λ fault. c.read_sized.result ≡ Err fault)) (sym read)
    c.read_sized.ensures.refused
