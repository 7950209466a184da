use Rattle.std.proofs.Common.{◌≡◌, ◌≤◌, ◌+◌, ◌/◌, ℕ, [], length, map, true, false, sym, ap, ◌∙◌, arith, rules, refl}
use Rattle.std.proofs.lemmas.List.{length-map, take_all}
use Rattle.cdtext_packs.specs.Texts.{strings_of, are_empty}
use Rattle.cdtext_packs.specs.Writing.{joined}
use Rattle.cdtext_packs.proofs.Joined.{length-joined_more, string_at}
use Rattle.cdtext_packs.proofs.Numbered.{length-kind_contents, pack_count-empty, pack_count-full}
use Rattle.cdtext_packs.proofs.WholeTexts.{strings_fit}
use Rattle.cdtext_packs.proofs.map.TextMap.kind_packs.Goals as goal
use Rattle.cdtext_packs.proofs.map.TextMap.kind_packs.Goals.{After-loop-string}

few_bytes : (c : After-loop-string) → c.loop-string.bytes ≤ 6710886500
few_bytes c =
    let fit = strings_fit c.args.self.now c.args.kind c.texts_are_of_tracks.ensures in
    let size = length-map c.strings.inside.items.items (λ v. v.items) in
    let same = ap length (c.strings.view_is ∙ c.strings-strings.ensures.strings) in
    let items = ap length c.deref-string-items.ensures.value in
    omega (arith, c.loop-string.invariant.bound, fit.count)

pub returns-then-are_empty-clause-value : goal.returns-then-are_empty-clause-value
returns-then-are_empty-clause-value c =
    let strings = strings_of c.args.kind c.args.self.now in
    let empty : are_empty strings ≡ true = search rules in
    sym (length-kind_contents c.args.self.now c.args.kind ∙ pack_count-empty strings empty)

pub loop-string-preserved : goal.loop-string-preserved
loop-string-preserved c =
    let strings = strings_of c.args.kind c.args.self.now in
    let i = c.loop-string.string-index in
    let fit = strings_fit c.args.self.now c.args.kind c.texts_are_of_tracks.ensures in
    let at =
    string_at c.deref-string-items.result.now strings i c.string-item.result
    (ap (map (λ v. v.items)) c.deref-string-items.ensures.value ∙ c.strings.view_is
    ∙ c.strings-strings.ensures.strings) c.loop-string-test.true c.string-item.is in
    let more = length-joined_more strings i at.inside in
    let size = ap length at.string_is in
    let short = (fit.each i [] at.inside).size in
    let so_far = c.loop-string.invariant in
    record { joined = omega (arith, so_far.joined); bound = omega (arith, so_far.bound) }

pub overflow_add-bytes-in-loop-string : goal.overflow_add-bytes-in-loop-string
overflow_add-bytes-in-loop-string c =
    let strings = strings_of c.args.kind c.args.self.now in
    let i = c.loop-string.string-index in
    let fit = strings_fit c.args.self.now c.args.kind c.texts_are_of_tracks.ensures in
    let at =
    string_at c.deref-string-items.result.now strings i c.string-item.result
    (ap (map (λ v. v.items)) c.deref-string-items.ensures.value ∙ c.strings.view_is
    ∙ c.strings-strings.ensures.strings) c.loop-string-test.true c.string-item.is in
    let size = ap length at.string_is in
    let short = (fit.each i [] at.inside).size in
    omega (arith, c.loop-string.invariant.bound, fit.count, at.inside)

pub returns-clause-value : goal.returns-clause-value
returns-clause-value c =
    let strings = strings_of c.args.kind c.args.self.now in
    let full : are_empty strings ≡ false = search rules in
    let size = length-map c.strings.inside.items.items (λ v. v.items) in
    let same = ap length (c.strings.view_is ∙ c.strings-strings.ensures.strings) in
    let bytes : c.loop-string.bytes ≡ length (joined strings) =
    c.loop-string.invariant.joined
    ∙ ap (λ xs. length (joined xs)) (take_all c.loop-string.string-index strings
    (omega (arith, size, same, c.loop-string-test.false, ap length c.deref-string-items.ensures.value))) in
    ap (λ (n : ℕ). (n + 11) / 12) bytes
    ∙ sym (length-kind_contents c.args.self.now c.args.kind ∙ pack_count-full strings full)

pub returns-then-are_empty-clause-bound : goal.returns-then-are_empty-clause-bound
returns-then-are_empty-clause-bound c = omega arith

pub overflow_add-bytes : goal.overflow_add-bytes
overflow_add-bytes c = omega arith

pub overflow_sub-result : goal.overflow_sub-result
overflow_sub-result c = omega arith

pub loop-string-init : goal.loop-string-init
loop-string-init c = record { joined = refl; bound = omega arith }

pub overflow_add-result : goal.overflow_add-result
overflow_add-result c = omega (arith, few_bytes c)

pub overflow_cast-result : goal.overflow_cast-result
overflow_cast-result c = omega (arith, few_bytes c)

pub returns-clause-bound : goal.returns-clause-bound
returns-clause-bound c = omega (arith, few_bytes c)
