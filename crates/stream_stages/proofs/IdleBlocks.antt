-- Blocks that are recognized as idle.
use Rattle.std.proofs.Common.{◌≡◌, ℕ, List, Some, sym, ap, ap₂, ◌∙◌}
use Rattle.std.specs.Prelude.{replicate}
use Rattle.rw_code.specs.Codeword.{IsCodeword}
use Rattle.rw_code.specs.Packs.{idle_pack}
use Rattle.stream_stages.specs.Steps.{IdlesOn, bad_with, text_of_words, packs_next, packs_give}
use Rattle.stream_stages.specs.declared.block_words.BlockWords.{BlockWords}
use Rattle.stream_stages.specs.declared.block_packs.BlockPacks.{BlockPacks}
use Rattle.stream_stages.proofs.Recovers.{bad_idle, text_idle}

-- an idle block changes nothing
pub idle_stays : (s : BlockPacks) (block : List ℕ) → IsCodeword idle_pack → IdlesOn s.words block
    → packs_next s block ≡ s
unfolding packs_next
idle_stays s block codeword idles =
    sym (ap₂ (λ (w : BlockWords) (b : ℕ). record { words = w; bad = b }) idles.0
    (bad_idle s.bad codeword ∙ ap (bad_with s.bad) idles.1))

-- and its packs are zeros
pub idle_gives : (s : BlockPacks) (block : List ℕ) → IsCodeword idle_pack → IdlesOn s.words block
    → packs_give s block ≡ Some (replicate 96 0)
unfolding packs_give
idle_gives s block codeword idles =
    sym (ap (λ (l : List ℕ). Some l) (text_idle codeword ∙ ap text_of_words idles.1))
