use Rattle.std.proofs.Common.{◌≡◌, ◌<◌, refl, subst, arith}
use Rattle.std.specs.Prelude.{slice_index}
use Rattle.std.proofs.lemmas.List.Elements.{All-get_or}
use Rattle.rw_code.specs.Syndromes.{AreSyndromes}
use Rattle.rw_code.proofs.SyndromeLemmas.{IsPart, entry_is, part_none, part_more, part_all}
use Rattle.rw_code.proofs.syndromes.Syndromes.of.Goals as goal

pub loop-i-init : goal.loop-i-init
loop-i-init c = part_none c.bytes-bytes.result

pub loop-i-preserved : goal.loop-i-preserved
loop-i-preserved c =
    let bytes = c.bytes-bytes.result in
    let word = c.bytes-bytes.ensures.word in
    let small : slice_index bytes c.loop-i.i < 64 =
    All-get_or (λ s. s < 64) bytes c.loop-i.i 0 (omega arith) word.symbols in
    part_more bytes c.loop-i.i c.loop-i.lanes _ _ word c.loop-i-test.true c.loop-i.invariant
    (entry_is c.loop-i.i (slice_index bytes c.loop-i.i) _ (omega arith) small refl) refl

pub returns : goal.returns
returns c =
    let last : c.loop-i.i ≡ 24 = omega arith in
    subst (λ word. AreSyndromes word c.loop-i.lanes) c.bytes-bytes.ensures.same
    (part_all c.bytes-bytes.result c.loop-i.lanes c.bytes-bytes.ensures.word
    (subst (λ i. IsPart c.bytes-bytes.result i c.loop-i.lanes) last c.loop-i.invariant))
