use Rattle.std.proofs.Common.{◌≡◌, ◌≤◌, ℕ, List, length, sym, ap, subst, rules}
use Rattle.cdtext_packs.specs.Reading.{kind_bytes, ends_in}
use Rattle.cdtext_packs.proofs.Cuts.{enough_ends, texts_none, texts_some}
use Rattle.std.proofs.lemmas.Result.{IfOk-from_err}
use Rattle.cdtext_packs.proofs.reading.kind_texts.Goals as goal

pub returns-then-is_empty-clause-texts : goal.returns-then-is_empty-clause-texts
returns-then-is_empty-clause-texts c =
    let none : length (kind_bytes c.args.kept.now c.args.kind) ≡ 0 =
    search (rules, ap length c.in_ok-bytes.ensures.bytes) in
    rw (texts_none c.args.kept.now c.args.count c.args.kind none) c.empty_strings.ensures.strings

pub strings_in-requires-clause-count : goal.strings_in-requires-clause-count
strings_in-requires-clause-count c =
    let some : length (kind_bytes c.args.kept.now c.args.kind) ≡ 0 → ⊥ =
    λ e. (let size = ap length c.in_ok-bytes.ensures.bytes in search rules) in
    let enough = enough_ends c.args.kept.now c.args.count c.args.kind c.requires.enough some in
    let bytes : c.deref.result.now ≡ kind_bytes c.args.kept.now c.args.kind = search rules in
    subst (λ (xs : List ℕ). c.args.count ≤ ends_in xs) (sym bytes) enough

pub returns-clause-texts : goal.returns-clause-texts
returns-clause-texts c =
    let some : length (kind_bytes c.args.kept.now c.args.kind) ≡ 0 → ⊥ =
    λ e. (let size = ap length c.in_ok-bytes.ensures.bytes in search rules) in
    let bytes : c.deref.result.now ≡ kind_bytes c.args.kept.now c.args.kind = search rules in
    rw (texts_some c.args.kept.now c.args.count c.args.kind some, ← bytes) c.strings_in.ensures.strings

pub returns-in_err-bytes-clause-texts : goal.returns-in_err-bytes-clause-texts
returns-in_err-bytes-clause-texts c = IfOk-from_err c.from_residual.result _ c.from_residual.ensures.0

pub returns-in_err-bytes-clause-count : goal.returns-in_err-bytes-clause-count
returns-in_err-bytes-clause-count c = IfOk-from_err c.from_residual.result _ c.from_residual.ensures.0

pub returns-in_err-bytes-clause-each : goal.returns-in_err-bytes-clause-each
returns-in_err-bytes-clause-each c = IfOk-from_err c.from_residual.result _ c.from_residual.ensures.0

pub returns-then-is_empty-clause-count : goal.returns-then-is_empty-clause-count
returns-then-is_empty-clause-count c = c.empty_strings.ensures.count

pub returns-then-is_empty-clause-each : goal.returns-then-is_empty-clause-each
returns-then-is_empty-clause-each c = c.empty_strings.ensures.each

pub returns-clause-count : goal.returns-clause-count
returns-clause-count c = c.strings_in.ensures.count

pub returns-clause-each : goal.returns-clause-each
returns-clause-each c = c.strings_in.ensures.each
