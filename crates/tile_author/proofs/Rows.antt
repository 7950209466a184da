-- Plans of known tiles, computed.
use Rattle.std.proofs.Common.{◌≡◌, ℕ, List, [], ◌∷◌, refl, map, replicate}
use Rattle.std.specs.Prelude.{bit_xor}
use Rattle.bit_lists.specs.Bits.{number_of}
use Rattle.cdg_instructions.specs.Drawing.{tile_from, tile_after}
use Rattle.tile_author.specs.Plan.{is_combination, basis_from, differences_from_first, basis, weight, selection, member_bits, tile_lines, planned, delta, are_equal, plan, steps}
use Rattle.cdg_instructions.specs.declared.instr.Instr.TheVariants.{SetTile, XorTile}

zeros : List ℕ
zeros = replicate 72 0

of_three : List ℕ
of_three = 1 ∷ 2 ∷ replicate 70 4

of_five : List ℕ
of_five = 0 ∷ 1 ∷ 2 ∷ 4 ∷ replicate 68 8

step_rows : steps zeros (3 ∷ replicate 71 5) ∷ steps zeros of_three ∷ steps zeros of_five
    ∷ steps zeros (replicate 72 7) ∷ steps of_five (map (bit_xor 5) of_five) ∷ steps of_five of_five ∷ []
    ≡ 1 ∷ 2 ∷ 4 ∷ 1 ∷ 1 ∷ 0 ∷ []
unfolding zeros of_three of_five is_combination basis_from differences_from_first basis weight delta are_equal
    steps
step_rows = refl

plan_row : plan 1 1 zeros of_three
    ≡ SetTile 1 2 1 1 (16 ∷ replicate 11 0) ∷ XorTile 0 5 1 1 (15 ∷ replicate 11 63) ∷ []
unfolding zeros of_three is_combination basis_from differences_from_first basis weight selection member_bits
    tile_lines number_of planned delta are_equal plan
plan_row = refl

plan_works : tile_after zeros (plan 1 1 zeros of_three) ≡ of_three
unfolding zeros of_three is_combination basis_from differences_from_first basis weight selection member_bits
    tile_lines number_of planned delta are_equal plan tile_from
plan_works = refl
