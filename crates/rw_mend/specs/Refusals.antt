-- Why readings are not mended.
use Rattle.std.specs.Prelude.{◌==◌, ◌||◌, ◌&&◌, ◌*◌, ◌-◌, ◌/◌, ◌%◌, not, nat_lt, if◌then◌else◌, ℕ, Option, Some, None}
use Rattle.disc_time.specs.Counts.{most_lead_in}
use Rattle.raw_subcode.specs.Sizes.{block_bytes, most_units, symbols_a_slot}
use Rattle.rw_interleave.specs.Interleave.{whole_packs}

-- why readings are not mended, as an exit status of the program. The status is 2 if the lead-in is too long, or if there
-- are no readings or too many. Otherwise it is 3 if the readings are not whole blocks of equal length, or have too many
-- blocks. Otherwise it is 6 if the room is too small for the packs, or the room for sources, if any, is too small for the
-- words.
abbrev pub readings_refusal : ℕ → ℕ → ℕ → ℕ → ℕ → Option ℕ
readings_refusal length_of_all count lead_in room sources =
    if nat_lt most_lead_in lead_in || (count == 0) || nat_lt 254 count then Some 2
    else (if not (length_of_all % count == 0) || not (length_of_all / count % block_bytes == 0)
    || nat_lt (block_bytes * most_units) (length_of_all / count) then Some 3
    else (if nat_lt room (symbols_a_slot * whole_packs (length_of_all / count / block_bytes - lead_in))
    || (nat_lt 0 sources && nat_lt sources (whole_packs (length_of_all / count / block_bytes - lead_in)))
    then Some 6
    else None))
