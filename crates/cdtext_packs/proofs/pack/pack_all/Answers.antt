use Rattle.std.proofs.Common.{◌≡◌, length, refl, ap, ◌∙◌, arith, rules}
use Rattle.cdtext_packs.specs.Writing.{contents, packs_of}
use Rattle.cdtext_packs.proofs.Filled.{all_counted, count_more, no_memory, none_counted, some_counted}
use Rattle.cdtext_packs.proofs.Numbered.{kind_fits, kinds_more, kinds_counted, packs_done, packs_none, length-numbered}
use Rattle.cdtext_packs.proofs.pack.pack_all.Goals as goal

pub returns-then-packs-eq0 : goal.returns-then-packs-eq0
returns-then-packs-eq0 c =
    let map = c.args.map.now in
    let counted =
    all_counted map c.loop-kind.packs c.loop-kind.kind-index (omega arith) c.loop-kind.invariant.count in
    let none = none_counted map c.loop-kind.packs counted c.if-packs-eq0.true in
    (packs_none map c.new.result.items (omega arith) c.new.ensures.items, search rules)

pub returns-then-packs-gt-MOST_PACKS : goal.returns-then-packs-gt-MOST_PACKS
returns-then-packs-gt-MOST_PACKS c =
    let map = c.args.map.now in
    let counted =
    all_counted map c.loop-kind.packs c.loop-kind.kind-index (omega arith) c.loop-kind.invariant.count in
    let whole = some_counted map c.loop-kind.packs counted (omega arith) in
    (omega arith, omega arith)

pub push_kind-requires : goal.push_kind-requires
push_kind-requires c =
    let map = c.args.map.now in
    let counted =
    all_counted map c.loop-kind.packs c.loop-kind.kind-index (omega arith) c.loop-kind.invariant.count in
    let whole = some_counted map c.loop-kind.packs counted (omega arith) in
    kind_fits map c.loop-kind-2.all.items c.loop-kind-2.kind-index _ (omega arith) (omega arith)
    c.loop-kind-2-test.true c.loop-kind-2.invariant

pub loop-kind-2-preserved : goal.loop-kind-2-preserved
loop-kind-2-preserved c =
    kinds_more c.args.map.now c.loop-kind-2.all.items c.push_kind.new.packs.items c.loop-kind-2.kind-index _
    c.loop-kind-2-test.true c.loop-kind-2.invariant c.in_ok-push_kind.ensures

pub push_sizes-requires-clause-before : goal.push_sizes-requires-clause-before
push_sizes-requires-clause-before c =
    kinds_counted c.args.map.now c.loop-kind-2.all.items c.loop-kind-2.kind-index (omega arith)
    c.loop-kind-2.invariant

pub push_sizes-requires-clause-few : goal.push_sizes-requires-clause-few
push_sizes-requires-clause-few c =
    let map = c.args.map.now in
    let counted =
    all_counted map c.loop-kind.packs c.loop-kind.kind-index (omega arith) c.loop-kind.invariant.count in
    let size =
    kinds_counted map c.loop-kind-2.all.items c.loop-kind-2.kind-index (omega arith)
    c.loop-kind-2.invariant in
    omega arith

pub returns : goal.returns
returns c =
    let map = c.args.map.now in
    let counted =
    all_counted map c.loop-kind.packs c.loop-kind.kind-index (omega arith) c.loop-kind.invariant.count in
    let whole = some_counted map c.loop-kind.packs counted (omega arith) in
    let is : c.push_sizes.new.packs.items ≡ packs_of map =
    packs_done map c.loop-kind-2.all.items c.push_sizes.new.packs.items c.loop-kind-2.kind-index (omega arith)
    (omega arith) c.loop-kind-2.invariant c.in_ok-push_sizes.ensures in
    let size = ap length is ∙ length-numbered 0 (contents map) in
    (is, omega arith)

pub loop-kind-init : goal.loop-kind-init
loop-kind-init c = record { count = refl; bound = omega arith }

pub loop-kind-preserved : goal.loop-kind-preserved
loop-kind-preserved c = record {
  count =
      count_more c.args.map.now c.loop-kind.packs c.kind_packs-packs.result c.loop-kind.kind-index _
      c.loop-kind-test.true c.loop-kind.invariant.count c.kind_packs-packs.ensures.value;
  bound = omega arith;
}

pub loop-kind-2-init : goal.loop-kind-2-init
loop-kind-2-init c = c.in_ok-all.ensures.items

pub returns-in_err-all : goal.returns-in_err-all
returns-in_err-all c =
    let map = c.args.map.now in
    let counted =
    all_counted map c.loop-kind.packs c.loop-kind.kind-index (omega arith) c.loop-kind.invariant.count in
    let whole = some_counted map c.loop-kind.packs counted (omega arith) in
    no_memory map _ c.from_residual.result c.from_residual.ensures.1 (omega arith)

pub returns-in_err-push_kind : goal.returns-in_err-push_kind
returns-in_err-push_kind c =
    let map = c.args.map.now in
    let counted =
    all_counted map c.loop-kind.packs c.loop-kind.kind-index (omega arith) c.loop-kind.invariant.count in
    let whole = some_counted map c.loop-kind.packs counted (omega arith) in
    no_memory map _ c.from_residual-in_err-push_kind.result c.from_residual-in_err-push_kind.ensures.1
    (omega arith)

pub returns-in_err-push_sizes : goal.returns-in_err-push_sizes
returns-in_err-push_sizes c =
    let map = c.args.map.now in
    let counted =
    all_counted map c.loop-kind.packs c.loop-kind.kind-index (omega arith) c.loop-kind.invariant.count in
    let whole = some_counted map c.loop-kind.packs counted (omega arith) in
    no_memory map _ c.from_residual-in_err-push_sizes.result c.from_residual-in_err-push_sizes.ensures.1
    (omega arith)
