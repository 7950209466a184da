-- The packs of a block, written to the front of a buffer.
use Rattle.std.proofs.Common.{◌≡◌, ℕ, ◌+◌, List, ◌++◌, length, map, take, drop, None, Some, refl, sym, ap, ap₂, ◌∙◌, append_assoc, drop_at}
use Rattle.std.proofs.Math.Seq.{take-append_seam}
use Rattle.std.proofs.lemmas.List.{drop-drop}
use Rattle.std.specs.declared.option.Option.{Option}
use Rattle.arrayvec.specs.ArrayVec.{ArrayVec}
use borrow.Rule.Slice.PartMut.{put_mid}
use Rattle.cdg_io.specs.Pump.{given_bytes}
use Rattle.rw_code.specs.Finding.{finding}
use Rattle.rw_interleave.specs.Texts.{cdg_bytes}
use Rattle.stream_stages.specs.Steps.{bad_after, bad_with, text_of_words, words_or_none, words_next, words_give, packs_next, packs_give}
use Rattle.stream_stages.specs.declared.block_words.BlockWords.{BlockWords}
use Rattle.stream_stages.specs.declared.block_packs.BlockPacks.{BlockPacks}

-- a piece is written behind a text
pub put_more : (text piece room place : List ℕ) (at k : ℕ) → at ≡ length text → k ≡ length piece
    → place ≡ text ++ drop at room
    → put_mid at k place piece ≡ (text ++ piece) ++ drop (at + length piece) room
put_more text piece room place at k is size now =
    let front : take at place ≡ text =
    ap (take at) now ∙ ap (λ n. take n (text ++ drop at room)) is ∙ take-append_seam text (drop at room) in
    let back : drop k (drop at place) ≡ drop (at + length piece) room =
    ap (λ (l : List ℕ). drop k (drop at l)) now
    ∙ ap (drop k) (drop_at text (drop at room) at (sym is))
    ∙ drop-drop k at room ∙ ap (λ n. drop (at + n) room) size in
    ap₂ (λ (a b : List ℕ). a ++ (piece ++ b)) front back
    ∙ sym (append_assoc text piece (drop (at + length piece) room))

bad_in : (bad : ℕ) (gave : Option (ArrayVec (List ℕ)))
    → bad_after bad (words_or_none gave) ≡ bad_with bad gave
unfolding bad_after
bad_in bad None = refl
bad_in bad (Some words) = refl

text_in : (gave : Option (ArrayVec (List ℕ)))
    → cdg_bytes (map finding (words_or_none gave)) ≡ text_of_words gave
text_in None = refl
text_in (Some words) = refl

-- the words of a block were gathered, and the bad ones counted
pub block_next : (s : BlockPacks) (block : List ℕ) (words : BlockWords) (items : List (List ℕ)) (bad : ℕ)
    → words ≡ words_next s.words block → items ≡ words_or_none (words_give s.words block)
    → bad ≡ bad_after s.bad items → record { words = words; bad = bad } ≡ packs_next s block
unfolding packs_next
block_next s block words items bad after is counted =
    ap₂ (λ (w : BlockWords) (b : ℕ). record { words = w; bad = b }) after
    (counted ∙ ap (bad_after s.bad) is ∙ bad_in s.bad (words_give s.words block))

-- and the packs of the block are those of its words
pub block_gives : (s : BlockPacks) (block : List ℕ) (items : List (List ℕ))
    → items ≡ words_or_none (words_give s.words block)
    → cdg_bytes (map finding items) ≡ given_bytes (packs_give s block)
unfolding packs_give
block_gives s block items is =
    ap (λ ws. cdg_bytes (map finding ws)) is ∙ text_in (words_give s.words block)

-- the front of a buffer into which a block was written
pub taken_at_front : (s : BlockPacks) (block place rest : List ℕ) (n : ℕ)
    → n ≡ length (given_bytes (packs_give s block)) → place ≡ given_bytes (packs_give s block) ++ rest
    → Some (take n place) ≡ packs_give s block
unfolding packs_give
taken_at_front s block place rest n count put =
    ap (λ (l : List ℕ). Some l) (ap (take n) put
    ∙ ap (λ k. take k (text_of_words (words_give s.words block) ++ rest)) count
    ∙ take-append_seam (text_of_words (words_give s.words block)) rest)
