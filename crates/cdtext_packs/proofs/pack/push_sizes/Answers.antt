use Rattle.std.proofs.Common.{◌≡◌, ◌+◌, ◌*◌, ℕ, List, [], ◌∷◌, ◌++◌, length, map, ap, ◌∙◌, arith, rules}
use Rattle.bit_lists.specs.Counting.{below}
use Rattle.cdtext_packs.specs.Packs.{sealed}
use Rattle.cdtext_packs.specs.Writing.{content_bytes, twelve, size_content, numbered}
use Rattle.cdtext_packs.proofs.Numbered.{pushed_more, part_of_twelve}
use Rattle.std.proofs.lemmas.Result.{IfOk-from_err}
use Rattle.cdtext_packs.proofs.pack.push_sizes.Goals as goal

pub loop-d-preserved : goal.loop-d-preserved
loop-d-preserved c =
    let old = c.args.packs.now.items in
    let f = size_content c.args.map.now in
    let d = c.loop-d.d in
    let number = c.len-count.result + d in
    let bytes = c.size_bytes-bytes.ensures in
    let size : length c.size_bytes-bytes.result ≡ 36 = search rules in
    let start : 12 * c.from-start.result ≡ 12 * d = search rules in
    let text =
    part_of_twelve c.size_bytes-bytes.result d (12 * c.from-start.result) (12 * c.from-start.result + 12)
    start (omega arith) (omega arith)
    ∙ ap (λ (xs : List ℕ). twelve xs d) bytes in
    let packed : c.new.result ≡ sealed (content_bytes number (f d)) =
    c.new.ensures ∙ ap (λ (xs : List ℕ). sealed (143 ∷ d ∷ number ∷ 0 ∷ xs)) text in
    c.in_ok-push.ensures.items
    ∙ ap (λ (packs : List (List ℕ)). packs ++ c.new.result ∷ []) c.loop-d.invariant
    ∙ ap (λ (pack : List ℕ). (old ++ numbered (length old) (map f (below d))) ++ pack ∷ []) packed
    ∙ pushed_more old f (length old) d number (search rules)

pub returns : goal.returns
returns c =
    let old = c.args.packs.now.items in
    let all : c.loop-d.d ≡ 3 = omega arith in
    c.loop-d.invariant
    ∙ ap (λ (k : ℕ). old ++ numbered (length old) (map (size_content c.args.map.now) (below k))) all

pub returns-in_err-push : goal.returns-in_err-push
returns-in_err-push c = IfOk-from_err c.from_residual.result _ c.from_residual.ensures.0

pub overflow_cast-count : goal.overflow_cast-count
overflow_cast-count c = omega arith

pub overflow_sub-size_bytes : goal.overflow_sub-size_bytes
overflow_sub-size_bytes c = omega arith

pub overflow_add-count : goal.overflow_add-count
overflow_add-count c = omega arith

pub overflow_mul-start : goal.overflow_mul-start
overflow_mul-start c = omega arith

pub overflow_add-text : goal.overflow_add-text
overflow_add-text c = omega arith

pub slice_bounds-text-count : goal.slice_bounds-text-count
slice_bounds-text-count c = omega arith

pub slice_bounds-text-start : goal.slice_bounds-text-start
slice_bounds-text-start c = omega arith

pub overflow_add-count-in-loop-d : goal.overflow_add-count-in-loop-d
overflow_add-count-in-loop-d c = omega arith
