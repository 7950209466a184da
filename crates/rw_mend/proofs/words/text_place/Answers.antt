use Rattle.std.proofs.Common.{◌≡◌, ℕ, ◌+◌, ◌-◌, ◌*◌, ◌/◌, ◌%◌, ◌<◌, Bool, true, ◌==◌, get_or, refl, arith}
use Rattle.std.proofs.lemmas.Bool.{eqb-true}
use Rattle.bit_lists.proofs.Tests.{all_below, all_below-at}
use Rattle.rw_interleave.specs.Interleave.{swapped}
use Rattle.rw_interleave.proofs.Places.{swapped-lt}
use Rattle.rw_mend.specs.declared.words.TheConstants.{TEXT_PLACES}
use Rattle.rw_mend.proofs.words.text_place.Goals as goal

-- whether the entry of the table for byte k is right
is_entry : ℕ → Bool
is_entry k = get_or TEXT_PLACES k 0 == 24 * (7 + k / 24 - k % 24 % 8) + swapped (k % 24)

test_entries : all_below is_entry 96 ≡ true
unfolding all_below is_entry swapped
test_entries = refl

entry_is : (k : ℕ) → k < 96 → get_or TEXT_PLACES k 0 ≡ 24 * (7 + k / 24 - k % 24 % 8) + swapped (k % 24)
unfolding is_entry
entry_is k lt = eqb-true _ _ (all_below-at is_entry 96 k test_entries lt)

pub returns-clause-value : goal.returns-clause-value
returns-clause-value c = entry_is c.args.k c.requires

pub returns-clause-bound : goal.returns-clause-bound
returns-clause-bound c =
    let k = c.args.k in
    let small : swapped (k % 24) < 24 = swapped-lt (k % 24) (omega arith) in
    let slot : k / 24 < 4 = omega (arith, c.requires) in
    omega (arith, entry_is k c.requires, small, slot)
