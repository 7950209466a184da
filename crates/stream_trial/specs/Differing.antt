-- Words in which two streams differ.
use Rattle.std.specs.Prelude.{ℕ, ◌==◌, List, count_by}
use Rattle.bit_lists.specs.Counting.{below}
use Rattle.rw_code.specs.Codeword.{differences}
use Rattle.rw_interleave.specs.Interleave.{word_of}

-- the number of words among the first `packs` ones in which two streams differ in exactly `wrong` symbols
unfoldable pub differing : ℕ → ℕ → List ℕ → List ℕ → ℕ
differing wrong packs symbols others =
    count_by (λ n. differences (word_of others n) (word_of symbols n) == wrong) (below packs)
