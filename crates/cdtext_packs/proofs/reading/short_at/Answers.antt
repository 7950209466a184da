use Rattle.std.proofs.Common.{Some, None, ◌≡◌, ◌+◌, ◌∙◌, sym, ap, arith, rules, take, subst, List, Option, ℕ}
use Rattle.std.proofs.lemmas.List.{take_all}
use Rattle.cdtext_packs.specs.Writing.{type_of}
use Rattle.cdtext_packs.specs.Packs.{pack_type}
use Rattle.cdtext_packs.specs.Reading.{ends_in}
use Rattle.cdtext_packs.proofs.KeptPacks.{slot_is, SeenPacks, seen_none, seen_same, seen_more, packs_skip, packs_pass, short_is, long_is}
use Rattle.cdtext_packs.proofs.reading.short_at.Goals as goal
use Rattle.cdtext_packs.proofs.reading.short_at.Goals.{in-Some+then-kind-pack_type, in-Some+else-kind-pack_type, in_default}

pub loop-slot-init : goal.loop-slot-init
loop-slot-init c = seen_none c.args.kind

pub overflow_add-ends : goal.overflow_add-ends
overflow_add-ends c =
    let few = c.loop-slot.invariant.few in
    let size = c.text.ensures.size in
    let bound = c.zeros_in-ends.ensures.bound in
    search (rules, few, size, bound)

pub loop-slot-preserved : goal.loop-slot-preserved
loop-slot-preserved c =
    let kept = c.args.kept.now in
    let i = c.loop-slot.slot-index in
    let kind = c.args.kind in
    elim c.match-slot.branch [
      | in-Some+then-kind-pack_type w ↦
          let size = w.text.ensures.size in
          rw (w.ends-is, w.last-is, w.number.ensures) (seen_more kept i w.in-Some.pack kind c.loop-slot.ends
          w.zeros_in-ends.result c.loop-slot.last c.loop-slot-test.true (slot_is c.args.kept.now
          c.loop-slot.slot-index c.slot-item.result (Some w.in-Some.pack) c.loop-slot-test.true c.slot-item.is
          w.in-Some.is)
          (sym w.kind.ensures ∙ w.if-kind-pack_type.true ∙ w.pack_type.ensures)
          (w.zeros_in-ends.ensures.count ∙ ap ends_in w.text.ensures.text)
          (omega (arith, w.zeros_in-ends.ensures.bound, size)) c.loop-slot.invariant)
      | in-Some+else-kind-pack_type w ↦
          let other : pack_type w.in-Some.pack ≡ type_of kind → ⊥ =
          λ e. w.if-kind-pack_type.false (w.kind.ensures ∙ e ∙ sym w.pack_type.ensures) in
          rw (w.ends-is, w.last-is) (seen_same (take i kept) (take (i + 1) kept) kind c.loop-slot.ends i
          c.loop-slot.last (packs_pass kept i w.in-Some.pack kind c.loop-slot-test.true
          (slot_is c.args.kept.now c.loop-slot.slot-index c.slot-item.result (Some w.in-Some.pack)
          c.loop-slot-test.true c.slot-item.is w.in-Some.is) other) c.loop-slot.invariant)
      | in_default w ↦
          rw (w.ends-is, w.last-is) (seen_same (take i kept) (take (i + 1) kept) kind c.loop-slot.ends i
          c.loop-slot.last (packs_skip kept i kind c.loop-slot-test.true (slot_is c.args.kept.now
          c.loop-slot.slot-index c.slot-item.result None c.loop-slot-test.true c.slot-item.is
          w.in_default.is)) c.loop-slot.invariant)
    ]

pub returns-then-ends-count : goal.returns-then-ends-count
returns-then-ends-count c =
    let kept = c.args.kept.now in
    let whole : take c.loop-slot.slot-index kept ≡ kept =
    take_all c.loop-slot.slot-index kept (omega arith) in
    short_is kept c.args.count c.loop-slot.ends c.loop-slot.slot-index c.args.kind c.loop-slot.last
    (subst (λ (k : List (Option (List ℕ))).
    SeenPacks k c.args.kind c.loop-slot.ends c.loop-slot.slot-index c.loop-slot.last) whole
    c.loop-slot.invariant) c.if-ends-count.true

pub returns-else-ends-count : goal.returns-else-ends-count
returns-else-ends-count c =
    let kept = c.args.kept.now in
    let whole : take c.loop-slot.slot-index kept ≡ kept =
    take_all c.loop-slot.slot-index kept (omega arith) in
    long_is kept c.args.count c.loop-slot.ends c.loop-slot.slot-index c.args.kind c.loop-slot.last
    (subst (λ (k : List (Option (List ℕ))).
    SeenPacks k c.args.kind c.loop-slot.ends c.loop-slot.slot-index c.loop-slot.last) whole
    c.loop-slot.invariant) c.if-ends-count.false
