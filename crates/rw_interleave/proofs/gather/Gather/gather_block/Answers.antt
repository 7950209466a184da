use Rattle.std.proofs.Common.{◌≡◌, ◌∷◌, [], ◌++◌, ◌∙◌, List, ℕ, ap, ap₂, arith, drop, get_or, length, map, min, refl, rules, ◌-◌}
use Rattle.std.proofs.lemmas.List.{drop-drop}
use Rattle.cdg_io.specs.Run.{run_gives}
use Rattle.rw_interleave.specs.Gathering.{gather_next, gather_gives, gathered}
use Rattle.rw_interleave.specs.Windows.{slots_in}
use Rattle.rw_interleave.proofs.FourWords.{block_words, word_is, word_of_lanes}
use Rattle.rw_interleave.proofs.gather.Gather.gather_block.Goals as goal

-- a vector rotated by eight lanes
abbrev turned_by_eight : List ℕ → List ℕ
turned_by_eight v =
    map (λ k. get_or (v ++ v) k 0) (8 ∷ 9 ∷ 10 ∷ 11 ∷ 12 ∷ 13 ∷ 14 ∷ 15 ∷ 0 ∷ 1 ∷ 2 ∷ 3 ∷ 4 ∷ 5 ∷ 6 ∷ 7 ∷ [])

pub loop-init : goal.loop-init
loop-init c = record {
  words = refl;
  size = let e = ap length c.from-words.ensures.0 in omega (arith, e);
}

pub loop-preserved : goal.loop-preserved
loop-preserved c =
    let before = c.loop.invariant in
    record {
      words =
          c.remove.ensures.items
          ∙ ap (drop 1) before.words
          ∙ drop-drop 1 c.loop.counter c.from-words.result.items;
      size = omega (arith, before.size, c.remove.ensures.len);
    }

pub remove-requires : goal.remove-requires
remove-requires c =
    let few = c.loop.invariant.size in
    let most = c.min-unfinished.ensures in (omega arith, omega (arith, few, most))

pub returns-clause-gives : goal.returns-clause-gives
returns-clause-gives c =
    let early = c.self.inside.early in
    let late = c.self.inside.late in
    let row = early ++ (late ++ c.args.block.now) in
    let even = c.turned-even.ensures.lanes in
    let odd = c.turned-odd.ensures.lanes in
    let zeroth : c.word.result ≡ gathered (slots_in row 0 8) =
    c.word.ensures ∙ ap₂ word_of_lanes c.turned-zeroth.ensures.lanes even ∙ word_is row 0 in
    let first : c.word-2.result ≡ gathered (slots_in row 1 8) =
    c.word-2.ensures ∙ ap₂ word_of_lanes c.turned-first.ensures.lanes odd ∙ word_is row 1 in
    let second : c.word-3.result ≡ gathered (slots_in row 2 8) =
    c.word-3.ensures
    ∙ ap₂ (λ outer both. word_of_lanes outer (turned_by_eight both)) c.turned-second.ensures.lanes even
    ∙ word_is row 2 in
    let third : c.word-4.result ≡ gathered (slots_in row 3 8) =
    c.word-4.ensures
    ∙ ap₂ (λ outer both. word_of_lanes outer (turned_by_eight both)) c.turned-third.ensures.lanes odd
    ∙ word_is row 3 in
    let four = c.from-words.ensures.0 ∙ (λ i. zeroth i ∷ first i ∷ second i ∷ third i ∷ []) in
    let most = c.min-unfinished.ensures in
    let all : c.loop.counter ≡ min (7 - c.self.inside.count) 4 = omega (arith, most) in
    let left = c.loop.invariant.words ∙ ap (λ n. drop n c.from-words.result.items) all in
    block_words early late c.args.block.now c.self.inside.count _ _ (search rules) (search rules)
    (search rules)
    c.self.invariant.few four left
    ∙ ap (λ w. run_gives gather_next gather_gives w (slots_in c.args.block.now 0 4)) c.self.view_is
