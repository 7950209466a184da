use Rattle.std.proofs.Common.{length, arith}
use Rattle.raw_subcode.specs.Channels.{symbols_of}
use Rattle.rw_mend.specs.Words.{block_at}
use Rattle.rw_mend.specs.Chosen.{blocks_at, channel_rule, channels_of, symbol_rule}
use Rattle.rw_mend.specs.Stream.{mended_symbols}
use Rattle.rw_mend.proofs.Frames.{all_agree, channels_chosen}
use Rattle.rw_mend.proofs.HeldBlocks.{blocks_length}
use Rattle.rw_mend.proofs.stream_laws.frames_are_those_chosen.Goals as goal

pub returns-clause-chosen : goal.returns-clause-chosen
returns-clause-chosen c lead_in b readings found stream is inside =
    channels_chosen (blocks_at readings b) (block_at stream b)
    ((is.blocks b (omega (arith, inside))).channels)

pub returns-clause-agreed : goal.returns-clause-agreed
returns-clause-agreed c lead_in b readings found stream channels is inside same =
    all_agree (channel_rule (blocks_at readings b)) (blocks_at readings b) (length readings)
    (channels_of (block_at stream b)) channels (blocks_length readings b)
    ((is.blocks b (omega (arith, inside))).channels) same

pub returns-clause-symbols : goal.returns-clause-symbols
returns-clause-symbols c lead_in b readings found stream symbols is inside same =
    all_agree (symbol_rule (mended_symbols lead_in found b) (blocks_at readings b)) (blocks_at readings b)
    (length readings) (symbols_of (block_at stream b)) symbols (blocks_length readings b)
    ((is.blocks b (omega (arith, inside))).symbols) same
