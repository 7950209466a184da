use Rattle.std.proofs.Common.{◌≡◌, ◌∙◌, ℕ, List, ◌+◌, ◌-◌, ◌++◌, ap, ap₂, sym, drop, length, length-append, map, take, arith, rules, refl, ◌*◌}
use Rattle.std.proofs.lemmas.List.{take_all, length-replicate}
use borrow.Rule.Slice.PartMut.{put_mid}
use Rattle.rw_code.specs.Finding.{finding}
use Rattle.rw_interleave.specs.Texts.{cdg_bytes}
use Rattle.stream_stages.specs.Steps.{bad_after}
use Rattle.stream_stages.proofs.Packing.{put_more}
use Rattle.stream_stages.proofs.Recovers.{text_step, bad_step, bad_none_yet}
use Rattle.std.specs.Prelude.{replicate}
use Rattle.stream_stages.proofs.NearIdle.{text_near, bad_near}
use Rattle.stream_stages.proofs.block_packs.BlockPacks.put_packs.Goals as goal

pub returns-then-are_near_idle-clause-bad : goal.returns-then-are_near_idle-clause-bad
returns-then-are_near_idle-clause-bad c =
    bad_near c.args.self.now.bad c.args.words.now.items (c.are_near_idle.ensures c.if-are_near_idle.true)

pub returns-then-are_near_idle-clause-put : goal.returns-then-are_near_idle-clause-put
returns-then-are_near_idle-clause-put c =
    let n = 24 * c.len.result in
    let text : replicate n 0 ≡ cdg_bytes (map finding c.args.words.now.items) =
    text_near c.args.words.now.items c.len.result c.len.ensures.value
    (c.are_near_idle.ensures c.if-are_near_idle.true) in
    c.put_zeros.ensures.put
    ∙ ap₂ (λ (l : List ℕ) (k : ℕ). l ++ drop k c.args.place.now) text (sym c.put_zeros.ensures.count)

pub returns-then-are_near_idle-clause-count : goal.returns-then-are_near_idle-clause-count
returns-then-are_near_idle-clause-count c =
    let n = 24 * c.len.result in
    c.put_zeros.ensures.count
    ∙ sym (length-replicate {A = ℕ} n 0)
    ∙ ap length (text_near c.args.words.now.items c.len.result c.len.ensures.value
    (c.are_near_idle.ensures c.if-are_near_idle.true))

pub loop-word-init : goal.loop-word-init
loop-word-init c = record {
  few = c.as_slice-word-items.ensures.fits;
  at = refl;
  size = refl;
  place = refl;
  bad = bad_none_yet _;
  words = refl;
}

pub loop-word-preserved : goal.loop-word-preserved
loop-word-preserved c =
    let words = c.as_slice-word-items.result.now in
    let before = c.loop-word.invariant in
    let at = c.loop-word.at in
    let k = at + 24 - at in
    let pack = c.recovered-pack.result in
    let text : List ℕ = cdg_bytes (map finding (take c.loop-word.word-index words)) in
    let long : length pack ≡ 24 = c.recovered-pack.ensures.size in
    let more : text ++ pack ≡ cdg_bytes (map finding (take (c.loop-word.word-index + 1) words)) =
    text_step words c.loop-word.word-index _ text _ pack (omega arith) c.word-item.is refl
    c.recovered-pack.ensures.bytes refl in
    let copied : c.copy_from_slice.new.self ≡ pack = search rules in
    record {
      few = before.few;
      at = omega (arith, before.at);
      size = omega (arith, ap length (sym more), length-append text pack, before.size, long);
      place =
          ap (put_mid at k c.loop-word.place) copied
          ∙ put_more text pack c.args.place.now c.loop-word.place at k (sym before.size)
          (omega (arith, long)) before.place
          ∙ ap₂ (λ (l : List ℕ) (n : ℕ). l ++ drop (at + n) c.args.place.now) more long;
      bad =
          bad_step words c.loop-word.word-index _ c.args.self.now.bad c.loop-word.self.bad _ (omega arith)
          c.word-item.is before.bad c.recovered-pack.ensures.bad;
      words = before.words;
    }

pub returns-clause-bad : goal.returns-clause-bad
returns-clause-bad c =
    let words = c.as_slice-word-items.result.now in
    c.loop-word.invariant.bad
    ∙ ap (bad_after c.args.self.now.bad)
    (take_all c.loop-word.word-index words (omega arith) ∙ c.as_slice-word-items.ensures.value)

pub returns-clause-put : goal.returns-clause-put
returns-clause-put c =
    let words = c.as_slice-word-items.result.now in
    c.loop-word.invariant.place
    ∙ ap (λ ws. cdg_bytes (map finding ws) ++ drop c.loop-word.at c.args.place.now)
    (take_all c.loop-word.word-index words (omega arith) ∙ c.as_slice-word-items.ensures.value)

pub returns-clause-count : goal.returns-clause-count
returns-clause-count c =
    let words = c.as_slice-word-items.result.now in
    sym c.loop-word.invariant.size
    ∙ ap (λ ws. length (cdg_bytes (map finding ws)))
    (take_all c.loop-word.word-index words (omega arith) ∙ c.as_slice-word-items.ensures.value)
