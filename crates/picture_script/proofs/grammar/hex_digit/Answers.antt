use Rattle.std.proofs.Common.{◌≡◌, Some, None, slice_index, List, ℕ}
use Rattle.picture_script.proofs.HexWords.{digit_in, digit_read, digit_small, decoded, not_decoded}
use Rattle.picture_script.proofs.grammar.hex_digit.Goals as goal

pub returns-in-Ok-clause-value : goal.returns-in-Ok-clause-value
returns-in-Ok-clause-value c =
    decoded _ c.decode_to_slice.new.out _ tt
    (λ (value : List ℕ). Some (slice_index value 0) ≡ digit_in c.args.byte)
    (None ≡ digit_in c.args.byte) c.in-Ok.ensures.value (digit_read c.args.byte)

pub returns-in-Ok-clause-below : goal.returns-in-Ok-clause-below
returns-in-Ok-clause-below c = digit_small c.args.byte _ (returns-in-Ok-clause-value c)

pub returns-in-Err-clause-value : goal.returns-in-Err-clause-value
returns-in-Err-clause-value c =
    not_decoded _ c.decode_to_slice.new.out _ tt
    (λ (value : List ℕ). Some (slice_index value 0) ≡ digit_in c.args.byte)
    (None ≡ digit_in c.args.byte) c.in-Err.ensures.value (digit_read c.args.byte)
