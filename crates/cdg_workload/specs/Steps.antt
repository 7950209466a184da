-- The steps of the stage that scratches a stream.
use Rattle.std.specs.Prelude.{◌≡◌, ℕ, ◌-◌, ◌*◌, ◌==◌, ◌&&◌, ◌++◌, if◌then◌else◌, List, map, take, drop, bit_xor, Option, Some}
use Rattle.raw_subcode.specs.Sizes.{block_bytes}
use Rattle.rand_pcg.specs.Lcg.{Lcg}
use Rattle.rand_pcg.specs.Pcg.{pcg32}
use Rattle.cdg_io.specs.Run.{run_state, run_gives}
use Rattle.cdg_workload.specs.Generator.{generator}
use Rattle.cdg_workload.specs.Scratches.{gap_of, size_of, change_of}
use Rattle.cdg_workload.specs.declared.needle.Needle.{Needle}
use Rattle.cdg_workload.specs.declared.scratching.Scratches.{Scratches}

-- the needle before the next burst, which the next word makes
unfoldable pub next_needle : Lcg → Needle
next_needle words = record {
  gap = gap_of (pcg32 words).0;
  left = size_of (pcg32 words).0;
  change = change_of (pcg32 words).0;
  words = (pcg32 words).1;
}

-- the needle, ready for the next symbol: if a burst has ended, it is before the next burst
unfoldable pub ready : Needle → Needle
ready needle = if (needle.gap == 0) && (needle.left == 0) then next_needle needle.words else needle

-- the number with which a ready needle combines the next symbol; 0 leaves it unchanged
unfoldable pub change_now : Needle → ℕ
change_now needle = if needle.gap == 0 then needle.change else 0

-- the needle after one more symbol
unfoldable pub past_byte : Needle → Needle
past_byte needle = if needle.gap == 0 then record needle { left = needle.left - 1 }
    else record needle { gap = needle.gap - 1 }

-- Up to place `to`, the bytes from place `from` on were combined with a change, and those before are unchanged.
abbrev pub AreCombined : ℕ → ℕ → ℕ → List ℕ → List ℕ → Type 0
AreCombined from to change before after = take to after
    ≡ take from before ++ map (λ byte. bit_xor byte change) (take (to - from) (drop from before))

-- the needle after a byte of the program
unfoldable pub byte_next : Needle → ℕ → Needle
byte_next needle byte = past_byte (ready needle)

-- the output for a byte of the program
unfoldable pub byte_gives : Needle → ℕ → Option ℕ
byte_gives needle byte = Some (bit_xor byte (change_now (ready needle)))

-- the stage after a block: one lead-in block fewer is to come, or the needle has passed each byte of a program block
unfoldable pub block_next : Scratches → List ℕ → Scratches
block_next s block = if s.lead_in == 0 then record s { needle = run_state byte_next s.needle block }
    else record s { lead_in = s.lead_in - 1 }

-- the output for a block: a lead-in block is unchanged, and a program block is changed byte by byte
unfoldable pub block_gives : Scratches → List ℕ → Option (List ℕ)
block_gives s block = if s.lead_in == 0 then Some (run_gives byte_next byte_gives s.needle block)
    else Some block

-- the state before the first block
abbrev pub fresh_scratches : ℕ → ℕ → Scratches
fresh_scratches lead_in seed = record {
  lead_in = lead_in;
  needle = record { gap = 0; left = 0; change = 0; words = generator seed };
}

-- the state after the first b blocks of a stream with no lead-in
abbrev pub scratches_after : ℕ → List ℕ → ℕ → Scratches
scratches_after seed bytes b = record {
  lead_in = 0;
  needle = run_state byte_next (fresh_scratches 0 seed).needle (take (block_bytes * b) bytes);
}
