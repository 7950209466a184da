-- Instructions one after another.
use Rattle.std.proofs.Common.{◌≡◌, ℕ, suc, ◌+◌, ◌<◌, List, [], ◌∷◌, ◌++◌, length, get_or, map, take, reverse, append_assoc, append-nil, refl, sym, ap, ◌∙◌, subst, arith}
use Rattle.std.proofs.Math.Seq.{take-suc}
use Rattle.std.proofs.lemmas.List.{reverse-append}
use Rattle.cdg_instructions.specs.declared.instr.Instr.{Instr}
use Rattle.live_player.specs.Lives.{Given, drawn_for}
use Rattle.live_player.specs.Steps.{TakesBlock}
use Rattle.live_player.specs.declared.live.LivePlayer.{LivePlayer}
use Rattle.stream_stages.specs.Steps.{words_give, words_next}
use Rattle.stream_stages.specs.declared.block_words.BlockWords.{BlockWords}
use Rattle.live_player.specs.Taken.{instructions_from, TakesBlocks}

-- the first elements, and one more
pub one_more : {X : Type 0} (xs : List X) (i : ℕ) (d : X) → i < length xs
    → take (i + 1) xs ≡ take i xs ++ get_or xs i d ∷ []
one_more xs i d lt = let next : i + 1 ≡ suc i = omega arith in ap (λ n. take n xs) next ∙ take-suc xs i d lt

-- inputs in reverse order, with one more
pub given_more : (gives : List ℕ → Given) (xs : List (List ℕ)) (x : List ℕ) (given : List Given)
    → map gives (reverse (xs ++ x ∷ [])) ++ given ≡ gives x ∷ (map gives (reverse xs) ++ given)
given_more gives xs x given =
    ap (λ (l : List (List ℕ)). map gives l ++ given) (reverse-append xs (x ∷ []))

-- one more block was fed
pub takes_more : (blocks : List (List ℕ)) (block : List ℕ) (before now after : LivePlayer)
    → TakesBlocks blocks before now → TakesBlock block now after
    → TakesBlocks (blocks ++ block ∷ []) before after
takes_more [] block before now after same takes =
    (after, subst (λ (player : LivePlayer). TakesBlock block player after) same takes, refl)
takes_more (first ∷ rest) block before now after took takes =
    (took.0, took.1, takes_more rest block took.0 now after took.2 takes)

-- and the instructions that the blocks draw
pub instructions_more : (blocks : List (List ℕ)) (block : List ℕ) (before now : LivePlayer)
    → TakesBlocks blocks before now
    → instructions_from before.words (blocks ++ block ∷ [])
    ≡ instructions_from before.words blocks ++ drawn_for (words_give now.words block)
instructions_more [] block before now same =
    append-nil (drawn_for (words_give before.words block))
    ∙ ap (λ (player : LivePlayer). drawn_for (words_give player.words block)) (sym same)
instructions_more (first ∷ rest) block before now took =
    let here : List Instr = drawn_for (words_give before.words first) in
    let behind : List Instr = drawn_for (words_give now.words block) in
    let next : BlockWords = words_next before.words first in
    let more : instructions_from next (rest ++ block ∷ []) ≡ instructions_from next rest ++ behind =
    subst (λ (words : BlockWords). instructions_from words (rest ++ block ∷ [])
    ≡ instructions_from words rest ++ behind) took.1.gathers
    (instructions_more rest block took.0 now took.2) in
    ap (λ (l : List Instr). here ++ l) more ∙ sym (append_assoc here (instructions_from next rest) behind)
