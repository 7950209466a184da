use Rattle.std.proofs.Common.{ℕ, List, length, sym, ap, ◌∙◌, subst₂}
use Rattle.rw_interleave.specs.Windows.{slots_after_block, slots_in, words_from_block}
use Rattle.rw_merge.specs.Steps.{AreAgreements}
use Rattle.rw_merge.proofs.Slots.{length-slots_in}
use Rattle.rw_merge.proofs.Words.{length-window, length-words}
use Rattle.rw_merge.proofs.merge.Merger.merge_words.Goals as goal

pub set_agreed-requires-clause-same : goal.set_agreed-requires-clause-same
set_agreed-requires-clause-same c =
    let one = c.args.first.now in
    let other = c.args.second.now in
    let first = ap (λ m. words_from_block m.first one) c.self.view_is in
    let second = ap (λ m. words_from_block m.second other) c.self.view_is in
    let same =
    length-words c.args.self.now.first c.args.self.now.second (slots_in one 0 4) (slots_in other 0 4)
    c.requires (length-slots_in one ∙ sym (length-slots_in other)) in
    ap length (c.as_slice.ensures.value ∙ c.push_block-one.ensures.gives ∙ first)
    ∙ same
    ∙ sym (ap length (c.as_slice-2.ensures.value ∙ c.push_block-other.ensures.gives ∙ second))

pub returns-clause-first : goal.returns-clause-first
returns-clause-first c =
    c.push_block-one.ensures.next ∙ ap (λ m. slots_after_block m.first c.args.first.now) c.self.view_is

pub returns-clause-second : goal.returns-clause-second
returns-clause-second c =
    c.push_block-other.ensures.next ∙ ap (λ m. slots_after_block m.second c.args.second.now) c.self.view_is

pub returns-clause-same : goal.returns-clause-same
returns-clause-same c =
    let one = c.args.first.now in
    let other = c.args.second.now in
    let same =
    length-window c.args.self.now.first c.args.self.now.second (slots_in one 0 4) (slots_in other 0 4)
    c.requires (length-slots_in one ∙ sym (length-slots_in other)) in
    ap length (returns-clause-first c) ∙ same ∙ sym (ap length (returns-clause-second c))

pub returns-clause-packs : goal.returns-clause-packs
returns-clause-packs c =
    let first = ap (λ m. words_from_block m.first c.args.first.now) c.self.view_is in
    let second = ap (λ m. words_from_block m.second c.args.second.now) c.self.view_is in
    let (found, all, text_is, bad_is, few) = c.set_agreed.ensures in (
      found,
      subst₂ (λ (xs ys : List (List ℕ)). AreAgreements xs ys found)
          (c.as_slice.ensures.value ∙ c.push_block-one.ensures.gives ∙ first)
          (c.as_slice-2.ensures.value ∙ c.push_block-other.ensures.gives ∙ second) all,
      text_is,
      bad_is,
      few,
    )
