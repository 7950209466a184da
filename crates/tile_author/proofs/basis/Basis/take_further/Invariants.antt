use Rattle.std.proofs.Common.{◌≡◌, ℕ, ◌<◌, ◌++◌, [], ◌∷◌, None, length}
use Rattle.std.specs.Prelude.{slice_index_or}
use Rattle.tile_author.specs.Table.{entry}
use Rattle.tile_author.proofs.basis.Basis.take_further.Given as goal

abbrev pub invariant-loop-number : goal.invariant-loop-number
invariant-loop-number l = (length l.selections ≡ 16)
    × ((k : ℕ) → k < l.number → slice_index_or l.selections k None ≡ entry (l.fn.self ++ l.member ∷ []) k)
