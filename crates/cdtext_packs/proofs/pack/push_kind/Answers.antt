use Rattle.std.proofs.Common.{◌≡◌, ◌+◌, ◌-◌, ◌*◌, ◌<◌, ◌≤◌, ℕ, List, [], ◌∷◌, ◌++◌, length, take, drop, map, inl, inr, slice_index_or, sym, ap, ◌∙◌, subst, arith, rules}
use Rattle.std.proofs.lemmas.List.{append-nil, length-take}
use Rattle.std.proofs.lemmas.Result.{IfOk-from_err}
use Rattle.bit_lists.specs.Counting.{below}
use Rattle.cdtext_packs.specs.Packs.{sealed}
use Rattle.cdtext_packs.specs.Texts.{AreTexts, Texts, strings_of}
use Rattle.cdtext_packs.specs.declared.kinds.TextKind.{TextKind}
use Rattle.cdtext_packs.specs.Writing.{Content, joined, holders, twelve, text_content, type_of, numbered, kind_contents, content_bytes, pack_count}
use Rattle.cdtext_packs.proofs.Numbered.{pushed_more, length-pushed, length-kind_contents, pack_begins, part_of_twelve, content_is, track_is}
use Rattle.cdtext_packs.proofs.WholeTexts.{first_fits, strings_fit}
use Rattle.cdtext_packs.proofs.pack.push_kind.Goals as goal
use Rattle.cdtext_packs.proofs.pack.push_kind.Goals.{then-place-eq0, else-place-eq0}

pub holder-place-requires : goal.holder-place-requires
holder-place-requires c =
    let strings = strings_of c.args.kind c.args.map.now in
    let count = length-kind_contents c.args.map.now c.args.kind in
    let begins = pack_begins strings c.loop-k.k (omega (arith, c.kind_packs-k-end.ensures.value)) in
    subst (λ (xs : List (List ℕ)). 12 * c.loop-k.k < length (joined xs))
    (sym c.strings-strings.ensures.strings) begins

pub slice_bounds-text-count : goal.slice_bounds-text-count
slice_bounds-text-count c =
    let strings = strings_of c.args.kind c.args.map.now in
    let count = length-kind_contents c.args.map.now c.args.kind in
    let begins = pack_begins strings c.loop-k.k (omega (arith, c.kind_packs-k-end.ensures.value)) in
    let size = ap length (c.in_ok-bytes.ensures ∙ ap joined c.strings-strings.ensures.strings) in
    search (rules, begins, size)

pub slice_bounds-text-start : goal.slice_bounds-text-start
slice_bounds-text-start c =
    let strings = strings_of c.args.kind c.args.map.now in
    let count = length-kind_contents c.args.map.now c.args.kind in
    let begins = pack_begins strings c.loop-k.k (omega (arith, c.kind_packs-k-end.ensures.value)) in
    let size = ap length (c.in_ok-bytes.ensures ∙ ap joined c.strings-strings.ensures.strings) in
    search (rules, begins, size)

pub overflow_cast-number : goal.overflow_cast-number
overflow_cast-number c =
    let old = c.args.packs.now.items in
    let f : ℕ → Content =
    text_content c.args.map.now.first (type_of c.args.kind) (strings_of c.args.kind c.args.map.now) in
    let size : length c.loop-k.packs.items ≡ length old + c.loop-k.k =
    ap length c.loop-k.invariant ∙ length-pushed old f (length old) c.loop-k.k in
    search (rules, size)

pub loop-k-preserved : goal.loop-k-preserved
loop-k-preserved c =
    let old = c.args.packs.now.items in
    let first = c.args.map.now.first in
    let type = type_of c.args.kind in
    let strings = strings_of c.args.kind c.args.map.now in
    let k = c.loop-k.k in
    let f : ℕ → Content = text_content first type strings in
    let size : length c.loop-k.packs.items ≡ length old + k =
    ap length c.loop-k.invariant ∙ length-pushed old f (length old) k in
    let holder = c.holder-place.result in
    let held : slice_index_or (holders 0 strings) (12 * k) (0, 0) ≡ holder =
    ap (λ (xs : List (List ℕ)). slice_index_or (holders 0 xs) (12 * k) (0, 0))
    (sym c.strings-strings.ensures.strings) ∙ c.holder-place.ensures.holder in
    let track = track_is first holder.0 c.if-place-eq0.track (elim c.if-place-eq0.branch [
      | then-place-eq0 w ↦ inl (w.if-place-eq0.true, w.track-is)
      | else-place-eq0 w ↦ inr (
        w.if-place-eq0.false,
        w.track-is ∙ ap (λ (n : ℕ). n + (holder.0 - 1)) w.first.ensures.number,
      )
    ]) in
    let bytes : c.deref.result.now ≡ joined strings =
    c.deref.ensures.value ∙ c.in_ok-bytes.ensures ∙ ap joined c.strings-strings.ensures.strings in
    let count = length-kind_contents c.args.map.now c.args.kind in
    let begins = pack_begins strings k (omega (arith, c.kind_packs-k-end.ensures.value)) in
    let long = ap length bytes in
    let part : List ℕ = twelve (take (c.min.result - 12 * k) (drop (12 * k) c.deref.result.now)) 0 in
    let text : part ≡ twelve (joined strings) k =
    part_of_twelve c.deref.result.now k (12 * k) c.min.result (omega arith) (omega arith) (search rules)
    ∙ ap (λ (xs : List ℕ). twelve xs k) bytes in
    let content =
    content_is first type c.len-number.result k c.if-place-eq0.track c.min-position.result strings part holder
    held track c.min-position.ensures text in
    let packed : c.new.result ≡ sealed (content_bytes c.len-number.result (f k)) =
    c.new.ensures
    ∙ ap (λ (t : ℕ). sealed (t ∷ c.if-place-eq0.track ∷ c.len-number.result ∷ c.min-position.result ∷ part))
    c.pack_type.ensures
    ∙ ap sealed content in
    c.in_ok-push.ensures.items
    ∙ ap (λ (packs : List (List ℕ)). packs ++ c.new.result ∷ []) c.loop-k.invariant
    ∙ ap (λ (pack : List ℕ). (old ++ numbered (length old) (map f (below k))) ++ pack ∷ []) packed
    ∙ pushed_more old f (length old) k c.len-number.result (search (rules, size))

pub returns : goal.returns
unfolding kind_contents
returns c =
    let old = c.args.packs.now.items in
    let f : ℕ → Content =
    text_content c.args.map.now.first (type_of c.args.kind) (strings_of c.args.kind c.args.map.now) in
    let count = length-kind_contents c.args.map.now c.args.kind in
    let all : c.loop-k.k ≡ pack_count (strings_of c.args.kind c.args.map.now) =
    omega (arith, c.kind_packs-k-end.ensures.value) in
    c.loop-k.invariant ∙ ap (λ (k : ℕ). old ++ numbered (length old) (map f (below k))) all

pub overflow_cast-k-end : goal.overflow_cast-k-end
overflow_cast-k-end c = omega (arith, c.kind_packs-k-end.ensures.bound)

pub loop-k-init : goal.loop-k-init
loop-k-init c = sym (append-nil c.args.packs.now.items)

pub overflow_mul-start : goal.overflow_mul-start
overflow_mul-start c = omega (arith, c.loop-k-test.true, c.kind_packs-k-end.ensures.bound)

pub overflow_sub-track : goal.overflow_sub-track
overflow_sub-track c = omega (arith, c.if-place-eq0.false)

pub overflow_cast-position : goal.overflow_cast-position
overflow_cast-position c = omega (arith, c.min-position.ensures)

pub overflow_add-start : goal.overflow_add-start
overflow_add-start c = omega (arith, c.loop-k-test.true, c.kind_packs-k-end.ensures.bound)

pub new-requires : goal.new-requires
new-requires c =
    omega (
      arith,
      length-take (c.min.result - 12 * c.loop-k.k) (drop (12 * c.loop-k.k) c.deref.result.now),
      c.min.ensures,
    )

pub returns-in_err-bytes : goal.returns-in_err-bytes
returns-in_err-bytes c = IfOk-from_err c.from_residual.result _ c.from_residual.ensures.0

pub returns-in_err-push : goal.returns-in_err-push
returns-in_err-push c =
    IfOk-from_err c.from_residual-in_err-push.result _ c.from_residual-in_err-push.ensures.0

-- the place of a string
place_fits : (texts : Texts) (kind : TextKind) (strings : List (List ℕ)) (place : ℕ) → AreTexts texts
    → strings ≡ strings_of kind texts → place < length strings
    → place ≤ 99
place_fits texts kind strings place are is inside =
    omega (arith, ap length is, (strings_fit texts kind are).count)

pub overflow_cast-track : goal.overflow_cast-track
overflow_cast-track c =
    let fits = place_fits c.args.map.now c.args.kind _ _ c.first.ensures.texts
    c.strings-strings.ensures.strings c.holder-place.ensures.place in
    omega (arith, fits)

pub overflow_add-track : goal.overflow_add-track
overflow_add-track c =
    let fits = place_fits c.args.map.now c.args.kind _ _ c.first.ensures.texts
    c.strings-strings.ensures.strings c.holder-place.ensures.place in
    let first = first_fits c.args.map.now c.first.ensures.texts in
    omega (arith, fits, first, c.first.ensures.number)
