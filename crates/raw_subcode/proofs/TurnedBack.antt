-- From a block to its planar form and back, and the other way round.
use Rattle.std.proofs.Common.{◌≡◌, ℕ, ◌+◌, ◌-◌, ◌*◌, ◌/◌, ◌%◌, ◌<◌, Bool, List, length, get_or, map, arith}
use Rattle.std.specs.Prelude.{slice_index, All}
use Rattle.std.proofs.lemmas.List.Elements.{All-map}
use Rattle.std.proofs.lemmas.List.FromFn.{get_or-map-range_with_len, length-map-range_with_len}
use Rattle.bit_lists.specs.Bits.{has_bit, number_of}
use Rattle.bit_lists.specs.Counting.{below}
use Rattle.bit_lists.proofs.BitsLemmas.{number_of-lt}
use Rattle.raw_subcode.specs.Channels.{channel_bit, IsPlanarForm}
use Rattle.raw_subcode.specs.PlanarBytes.{block_from_planar, gathered_at, packed_at, planar_form}
use Rattle.raw_subcode.proofs.Eight.{from_planar_is, to_planar_is}
use Rattle.raw_subcode.proofs.QFrames.{one_block, one_planar_form}

-- eight bits form a byte
byte : (f : ℕ → Bool) → number_of (map f (below 8)) < 256
byte f = omega (arith, number_of-lt (map f (below 8)), length-map-range_with_len f 0 8)

form_is : (block : List ℕ) → IsPlanarForm block (planar_form block)
form_is block =
    let at = λ (i : ℕ). packed_at block (i / 12) (8 * (i % 12)) in
    to_planar_is block (planar_form block) (length-map-range_with_len at 0 96)
    (λ n lt. get_or-map-range_with_len at 0 96 n n 0 lt (omega arith))

block_is : (planar : List ℕ) → length planar ≡ 96 → IsPlanarForm (block_from_planar planar) planar
block_is planar size =
    from_planar_is (block_from_planar planar) planar size
    (λ n lt. get_or-map-range_with_len (gathered_at planar) 0 96 n n 0 lt (omega arith))

packed-lt : (block : List ℕ) (i : ℕ) → packed_at block (i / 12) (8 * (i % 12)) < 256
packed-lt block i = byte (λ j. channel_bit (i / 12) (slice_index block (8 * (i % 12) + j)))

gathered-lt : (planar : List ℕ) (i : ℕ) → gathered_at planar i < 256
gathered-lt planar i = byte (λ c. has_bit (7 - i % 8) (slice_index planar (12 * c + i / 8)))

form_bytes : (block : List ℕ) → All (λ b. b < 256) (planar_form block)
form_bytes block =
    All-map (λ b. b < 256) (λ (i : ℕ). packed_at block (i / 12) (8 * (i % 12))) (below 96)
    (λ k d lt. packed-lt block (get_or (below 96) k d))

block_bytes : (planar : List ℕ) → All (λ b. b < 256) (block_from_planar planar)
block_bytes planar =
    All-map (λ b. b < 256) (gathered_at planar) (below 96)
    (λ k d lt. gathered-lt planar (get_or (below 96) k d))

-- the block computed from a planar form is the only block with it
pub only_block : (block planar : List ℕ) → length block ≡ 96 → All (λ b. b < 256) block
    → IsPlanarForm block planar
    → block ≡ block_from_planar planar
only_block block planar size small form =
    one_block block (block_from_planar planar) planar size
    (length-map-range_with_len (gathered_at planar) 0 96)
    small (block_bytes planar) form (block_is planar form.size)

-- the computed planar form of a block is its only planar form
pub only_form : (block planar : List ℕ) → All (λ b. b < 256) planar → IsPlanarForm block planar
    → planar ≡ planar_form block
only_form block planar small form =
    one_planar_form block planar (planar_form block) small (form_bytes block) form (form_is block)

pub block_comes_back : (block : List ℕ) → length block ≡ 96 → All (λ b. b < 256) block
    → block_from_planar (planar_form block) ≡ block
block_comes_back block size small =
    let form = form_is block in
    one_block (block_from_planar (planar_form block)) block (planar_form block)
    (length-map-range_with_len (gathered_at (planar_form block)) 0 96) size
    (block_bytes (planar_form block)) small (block_is (planar_form block) form.size) form

pub form_comes_back : (planar : List ℕ) → length planar ≡ 96 → All (λ b. b < 256) planar
    → planar_form (block_from_planar planar) ≡ planar
form_comes_back planar size small =
    one_planar_form (block_from_planar planar) (planar_form (block_from_planar planar)) planar
    (form_bytes (block_from_planar planar)) small (form_is (block_from_planar planar)) (block_is planar size)
