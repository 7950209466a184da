use Rattle.std.proofs.Common.{◌≡◌, ◌+◌, ◌-◌, ◌<◌, ◌∙◌, ℕ, List, length, take, drop, sym, ap, subst, arith, rules}
use Rattle.std.specs.List.{position_or_len, before_first, after_first}
use Rattle.std.proofs.lemmas.List.{take_rest, drop-drop, length-drop}
use Rattle.cdtext_packs.specs.Reading.{is_zero, ends_in, meant}
use Rattle.cdtext_packs.proofs.Cuts.{IsCut, cut_none, cut_here, cut_more}
use Rattle.std.proofs.lemmas.Result.{IfOk-from_err}
use Rattle.cdtext_packs.proofs.reading.strings_in.Goals as goal

pub loop-place-init : goal.loop-place-init
loop-place-init c = (
  omega arith,
  subst (λ (strings : List (List ℕ)). IsCut c.args.bytes.now c.args.bytes.now strings 0)
      (sym c.new-strings.ensures) (cut_none c.args.bytes.now c.requires.size),
)

pub loop-place-preserved : goal.loop-place-preserved
loop-place-preserved c =
    let count = c.requires.count in
    let bytes = c.args.bytes.now in
    let start = c.loop-place.start in
    let end = c.string_end-end.result in
    let some : c.loop-place._place < ends_in bytes = omega arith in
    let whole : take (length bytes - start) (drop start bytes) ≡ drop start bytes = take_rest bytes start in
    let place : end ≡ position_or_len is_zero (drop start bytes) =
    c.string_end-end.ensures.end ∙ ap (λ (xs : List ℕ). position_or_len is_zero xs) whole in
    let here =
    cut_here bytes (drop start bytes) c.loop-place.strings c.loop-place._place c.loop-place.invariant.1
    some in
    let left = length-drop start bytes in
    let first : take end (take (length bytes - start) (drop start bytes))
    ≡ before_first is_zero (drop start bytes)
    = ap (λ (xs : List ℕ). take end xs) whole ∙ ap (λ (n : ℕ). take n (drop start bytes)) place in
    let string : c.in_ok-string.string.items
    ≡ meant c.loop-place.strings (before_first is_zero (drop start bytes)) =
    search (rules, first) in
    let after : drop (start + (end + 1)) bytes ≡ after_first is_zero (drop start bytes) =
    sym (drop-drop (end + 1) start bytes) ∙ ap (λ (n : ℕ). drop (n + 1) (drop start bytes)) place in (
      omega arith,
      cut_more bytes (drop start bytes) _ c.loop-place.strings c.push.new.self c.in_ok-string.string.items
          c.loop-place._place c.loop-place.invariant.1 some string c.in_ok-push.ensures.pushed after,
    )

pub returns-in_err-string-clause-strings : goal.returns-in_err-string-clause-strings
returns-in_err-string-clause-strings c = IfOk-from_err c.from_residual.result _ c.from_residual.ensures.0

pub returns-in_err-string-clause-count : goal.returns-in_err-string-clause-count
returns-in_err-string-clause-count c = IfOk-from_err c.from_residual.result _ c.from_residual.ensures.0

pub returns-in_err-string-clause-each : goal.returns-in_err-string-clause-each
returns-in_err-string-clause-each c = IfOk-from_err c.from_residual.result _ c.from_residual.ensures.0

pub returns-in_err-push-clause-strings : goal.returns-in_err-push-clause-strings
returns-in_err-push-clause-strings c =
    IfOk-from_err c.from_residual-in_err-push.result _ c.from_residual-in_err-push.ensures.0

pub returns-in_err-push-clause-count : goal.returns-in_err-push-clause-count
returns-in_err-push-clause-count c =
    IfOk-from_err c.from_residual-in_err-push.result _ c.from_residual-in_err-push.ensures.0

pub returns-in_err-push-clause-each : goal.returns-in_err-push-clause-each
returns-in_err-push-clause-each c =
    IfOk-from_err c.from_residual-in_err-push.result _ c.from_residual-in_err-push.ensures.0

pub overflow_add-start : goal.overflow_add-start
overflow_add-start c = omega arith

pub overflow_add-start-in-loop-place : goal.overflow_add-start-in-loop-place
overflow_add-start-in-loop-place c = omega arith

pub slice_bounds-rest-count : goal.slice_bounds-rest-count
slice_bounds-rest-count c = omega arith

pub slice_bounds-rest-start : goal.slice_bounds-rest-start
slice_bounds-rest-start c = omega arith
