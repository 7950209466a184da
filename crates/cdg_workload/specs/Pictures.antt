-- The lines of a picture, made by a generator whose next word is their first.
use Rattle.std.specs.Prelude.{ℕ, List, ◌++◌}
use Rattle.rand_pcg.specs.Lcg.{Lcg}
use Rattle.rand_pcg.specs.Pcg.{pcg32}
use Rattle.cdg_workload.specs.Script.{generated_rect_line, generated_show_line}

-- the generator after the next two words
unfoldable pub after_two : Lcg → Lcg
after_two words = (pcg32 (pcg32 words).1).1

-- the line of the next rectangle
unfoldable pub rect_from : Lcg → List ℕ
rect_from words = generated_rect_line (pcg32 words).0 (pcg32 (pcg32 words).1).0

-- the lines of picture k
unfoldable pub picture_from : Lcg → ℕ → List ℕ
picture_from words k = ((rect_from words ++ rect_from (after_two words))
    ++ rect_from (after_two (after_two words))) ++ generated_show_line k
