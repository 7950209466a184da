use Rattle.std.proofs.Common.{Some, None, ◌≡◌, ◌∙◌, ◌++◌, length, drop, sym, ap, List, ℕ, flat_map, arith, rules}
use Rattle.std.proofs.lemmas.List.{length-take, length-append}
use Rattle.cdtext_packs.specs.Packs.{pack_type, pack_text}
use Rattle.cdtext_packs.specs.Writing.{type_of}
use Rattle.cdtext_packs.specs.Reading.{kind_packs}
use Rattle.cdtext_packs.proofs.KeptPacks.{slot_is, packs_skip, packs_pass, bytes_more}
use Rattle.std.proofs.lemmas.Result.{IfOk-from_err}
use Rattle.cdtext_packs.proofs.reading.kind_bytes.Goals as goal
use Rattle.cdtext_packs.proofs.reading.kind_bytes.Goals.{in-Some+then-kind-pack_type+in_ok-extend_from_slice, in-Some+else-kind-pack_type, in_default}

pub loop-slot-init : goal.loop-slot-init
unfolding kind_packs
loop-slot-init c = let none = ap length c.new-bytes.ensures.items in (c.new-bytes.ensures.items, omega arith)

pub loop-slot-preserved : goal.loop-slot-preserved
loop-slot-preserved c =
    let kept = c.args.kept.now in
    let i = c.loop-slot.slot-index in
    let kind = c.args.kind in
    elim c.match-slot.branch [
      | in-Some+then-kind-pack_type+in_ok-extend_from_slice w ↦
          let grown : c.match-slot.bytes.items ≡ c.loop-slot.bytes.items ++ pack_text w.in-Some.pack =
          search rules in
          let more =
          bytes_more kept i w.in-Some.pack kind c.loop-slot-test.true (slot_is c.args.kept.now
          c.loop-slot.slot-index c.slot-item.result (Some w.in-Some.pack) c.loop-slot-test.true c.slot-item.is
          w.in-Some.is) (sym w.kind.ensures ∙ w.if-kind-pack_type.true ∙ w.pack_type.ensures) in
          let size = ap length grown ∙ length-append c.loop-slot.bytes.items (pack_text w.in-Some.pack) in
          let part = length-take 12 (drop 4 w.in-Some.pack) in
          let bound = c.loop-slot.invariant.1 in (
            grown ∙ ap (λ (xs : List ℕ). xs ++ pack_text w.in-Some.pack) c.loop-slot.invariant.0 ∙ sym more,
            omega arith,
          )
      | in-Some+else-kind-pack_type w ↦
          let other : pack_type w.in-Some.pack ≡ type_of kind → ⊥ =
          λ e. w.if-kind-pack_type.false (w.kind.ensures ∙ e ∙ sym w.pack_type.ensures) in
          let same =
          ap (flat_map pack_text) (packs_pass kept i w.in-Some.pack kind c.loop-slot-test.true
          (slot_is c.args.kept.now c.loop-slot.slot-index c.slot-item.result (Some w.in-Some.pack)
          c.loop-slot-test.true c.slot-item.is w.in-Some.is) other) in
          let bound = c.loop-slot.invariant.1 in
          rw w.bytes-is (c.loop-slot.invariant.0 ∙ sym same, omega arith)
      | in_default w ↦
          let same =
          ap (flat_map pack_text) (packs_skip kept i kind c.loop-slot-test.true (slot_is c.args.kept.now
          c.loop-slot.slot-index c.slot-item.result None c.loop-slot-test.true c.slot-item.is
          w.in_default.is)) in
          let bound = c.loop-slot.invariant.1 in
          rw w.bytes-is (c.loop-slot.invariant.0 ∙ sym same, omega arith)
    ]

pub returns-in_err-extend_from_slice-clause-bytes : goal.returns-in_err-extend_from_slice-clause-bytes
returns-in_err-extend_from_slice-clause-bytes c =
    IfOk-from_err c.from_residual.result _ c.from_residual.ensures.0

pub returns-in_err-extend_from_slice-clause-size : goal.returns-in_err-extend_from_slice-clause-size
returns-in_err-extend_from_slice-clause-size c =
    IfOk-from_err c.from_residual.result _ c.from_residual.ensures.0

pub returns-clause-size : goal.returns-clause-size
returns-clause-size c = omega (arith, c.loop-slot.invariant.1)
