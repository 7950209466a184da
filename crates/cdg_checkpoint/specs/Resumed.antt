-- Resuming from a checkpoint, and a stream that is cut in two there.
use Rattle.std.specs.Prelude.{◌≡◌, ◌≢◌, ℕ, ◌+◌, ◌-◌, ◌*◌, ◌/◌, ◌%◌, ◌<◌, ◌≤◌, ⊤, Bool, true, false, List, [], ◌++◌, length, map, nat_lt, if◌then◌else◌, take, drop, min, slice_index_or, Option, None, Result, Ok, Err, IfOk}
use Rattle.std.specs.List.{range_with_len}
use Rattle.std.specs.Io.KnownBytes.{Appends, Consumes, IsAtEnd}
use Rattle.cdg_io.specs.Causes.{Count, RoseOnce, ReportsFault}
use Rattle.cdg_io.specs.Reads.{EndReportedUnless}
use Rattle.cdg_io.specs.Change.{Bytes, Change, Input, Passed}
use Rattle.cdg_io.specs.Moves.{AppendsPrefix, ConsumesBelow}
use Rattle.rw_code.specs.Finding.{IsFinding}
use Rattle.rw_interleave.specs.Interleave.{word_of, whole_packs}
use Rattle.raw_subcode.specs.Channels.{symbols_of, program_symbols}
use Rattle.raw_subcode.specs.declared.form.Form.TheVariants.{Raw}
use Rattle.rw_interleave.specs.Stream.{bad_count}
use Rattle.cdg_instructions.specs.declared.instr.Instr.{Instr}
use Rattle.cdg_screen.specs.Standing.{Standing, standing_after}
use Rattle.cdg_screen.specs.Texts.{pixmap}
use Rattle.cdg_checkpoint.specs.Table.{IsBadAt, IsCheckpointFile, empty_symbols, file_size}
use Rattle.cdg_checkpoint.specs.Checkpoint.{Checkpoint, checkpoint_in}
use Rattle.stream_stages.specs.Screen.{AreMeant}
use Rattle.raw_subcode.specs.Sizes.{block_bytes, most_units, symbols_a_slot}
use Rattle.cdg_checkpoint.specs.declared.stops.Resumed.{Resumed}
use Rattle.cdg_checkpoint.specs.declared.stops.ResumeStop.{ResumeStop}
use Rattle.cdg_checkpoint.specs.declared.stops.ResumeStop.TheVariants.{FirstFault, SecondFault, WriteFault, BadSave, BeforeSave, Torn, TooLong, PastEnd}
use Rattle.stream_stages.specs.declared.played.Played.{Played}
use Rattle.stream_stages.specs.declared.played.PlayStop.{PlayStop}
use Rattle.stream_stages.specs.declared.played.PlayStop.TheVariants as play
use Rattle.disc_time.specs.Counts.{most_lead_in}

-- the symbols of the saved slots, and then the symbols of the program in the rest of the stream
abbrev pub resumed_symbols : Checkpoint → List ℕ → List ℕ
resumed_symbols c rest = drop (empty_symbols c.program) c.slots ++ program_symbols Raw rest c.to_come

-- the number of packs between the checkpoint and a time
abbrev pub packs_until : Checkpoint → ℕ → ℕ
packs_until c time = whole_packs time - whole_packs c.program

-- the program blocks of the checkpoint and of the rest of the stream
abbrev pub blocks_after : Checkpoint → List ℕ → ℕ
blocks_after c rest = c.program + (length rest / block_bytes - c.to_come)

-- This is the screen at a time after the checkpoint, with the number of bad words. The words of the rest of the stream draw
-- on the saved screen.
pub record IsGoneOn (c : Checkpoint) (time : ℕ) (rest : List ℕ) (now : Standing) (bad : ℕ) : Type 0 where
  pub found : List (Option (List ℕ))
  pub count : length found ≡ packs_until c (blocks_after c rest)
  pub each : (n : ℕ) → n < length found
      → IsFinding (word_of (resumed_symbols c rest) n) (slice_index_or found n None)
  pub instrs : List Instr
  pub shown : AreMeant (take (packs_until c time) found) instrs
  pub stands : now ≡ standing_after c.standing instrs
  pub bad_is : bad ≡ c.bad + bad_count (take (packs_until c time) found)

-- This is the result for a time after the checkpoint of a file, with the pixmap that is written.
pub record IsResumed (file : List ℕ) (time : ℕ) (rest : List ℕ) (resumed : Resumed)
    (text : List ℕ) : Type 0 where
  pub blocks : resumed.blocks ≡ blocks_after (checkpoint_in file) rest
  pub now : Standing
  pub gone_on : IsGoneOn (checkpoint_in file) time rest now resumed.bad
  pub text_is : text ≡ pixmap now

-- This is the result of reading the first input, for a time: the file of a checkpoint that is not later, or the first
-- reason why not.
abbrev pub IsAcceptedBy : Result (Unit {0}) ResumeStop → ℕ → List ℕ → Type 0
IsAcceptedBy (Ok done) time file = IsCheckpointFile file × ((checkpoint_in file).program ≤ time)
IsAcceptedBy (Err (BadSave byte)) time file = IsBadAt file byte
IsAcceptedBy (Err (BeforeSave blocks)) time file = IsCheckpointFile file
    × (blocks ≡ (checkpoint_in file).program) × (time < blocks)
IsAcceptedBy (Err FirstFault) time file = ⊤
IsAcceptedBy (Err stop) time file = ⊥

-- The first input was read: at most one byte more than a checkpoint has, and its end was seen if there was no such
-- byte. If a read failed, at most the bytes of a checkpoint were read before it, and they are the file.
pub record ReadsSaved {T : Type 0} (saved : Input) (result : Result T ResumeStop)
    (file : List ℕ) : Type 0 where
  pub most : length file ≤ file_size + 1
  pub taken : result ≢ Err FirstFault → Consumes saved.left.before saved.left.after file
  pub end : result ≢ Err FirstFault → length file ≤ file_size → IsAtEnd saved.left.after
  pub reported : result ≢ Err FirstFault → length file ≤ file_size
      → RoseOnce saved.ends.before saved.ends.after
  pub goes_on : result ≢ Err FirstFault → file_size < length file → saved.ends.after ≡ saved.ends.before
  pub cut : result ≡ Err FirstFault → ConsumesBelow saved.left.before saved.left.after (file_size + 1)
  pub kept : result ≡ Err FirstFault
      → Consumes saved.left.before saved.left.after file × (length file ≤ file_size)
  pub not_reported : result ≡ Err FirstFault → saved.ends.after ≡ saved.ends.before

-- the maximum number of blocks that may follow a checkpoint
abbrev pub blocks_left : Checkpoint → ℕ
blocks_left c = most_units - (c.lead_in + c.program)

-- This is the result for a rest of the stream with `len` bytes.
abbrev pub IsGoneOnBy : Result Resumed ResumeStop → Checkpoint → ℕ → ℕ → Type 0
IsGoneOnBy (Ok resumed) c time len = (len ≤ blocks_left c * block_bytes) × (len % block_bytes ≡ 0)
    × (time ≤ c.program + (len / block_bytes - c.to_come))
IsGoneOnBy (Err TooLong) c time len = blocks_left c * block_bytes < len
IsGoneOnBy (Err (Torn block)) c time len = (len ≤ blocks_left c * block_bytes) × (len % block_bytes ≢ 0)
    × (block ≡ c.lead_in + c.program + len / block_bytes)
IsGoneOnBy (Err (PastEnd blocks)) c time len = (len ≤ blocks_left c * block_bytes) × (len % block_bytes ≡ 0)
    × (blocks ≡ c.program + (len / block_bytes - c.to_come)) × (blocks < time)
IsGoneOnBy (Err SecondFault) c time len = ⊤
IsGoneOnBy (Err stop) c time len = ⊥

-- a time after a checkpoint
pub record TimeAfter : Type 0 where
  pub checkpoint : Checkpoint
  pub time : ℕ

-- a checkpoint and a time, as one
abbrev pub time_after : Checkpoint → ℕ → TimeAfter
time_after checkpoint time = record { checkpoint = checkpoint; time = time }

-- The rest of a stream was read, and nothing was written.
pub record GoesOn (to : TimeAfter) (left : Change Bytes) (now : Standing)
    (result : Result Resumed ResumeStop) (taken : List ℕ) : Type 0 where
  pub taken_from : Consumes left.before left.after taken
  -- at most one byte past the limit was read
  pub within : length taken ≤ blocks_left to.checkpoint * block_bytes + 1
  pub done : IfOk result (λ resumed. IsAtEnd left.after × (resumed.blocks ≡ blocks_after to.checkpoint taken)
      × (to.time ≤ resumed.blocks) × IsGoneOn to.checkpoint to.time taken now resumed.bad)
  pub torn : (block : ℕ) → result ≡ Err (Torn block) → IsAtEnd left.after
  pub past_end : (blocks : ℕ) → result ≡ Err (PastEnd blocks)
      → IsAtEnd left.after × (blocks ≡ blocks_after to.checkpoint taken) × (blocks < to.time)

-- whether a stop comes before the end of the rest
abbrev pub is_before_rest_end : ResumeStop → Bool
is_before_rest_end (Torn block) = false
is_before_rest_end (PastEnd blocks) = false
is_before_rest_end WriteFault = false
is_before_rest_end stop = true

-- The end of the rest was recorded once, unless the call stopped before it.
abbrev pub EndsAsResumed : Result Resumed ResumeStop → Count → Count → Type 0
EndsAsResumed = EndReportedUnless is_before_rest_end

-- the result after this number of program blocks
abbrev pub reached : ℕ → ℕ → ℕ → Result Resumed ResumeStop
reached blocks time bad = if nat_lt blocks time then Err (PastEnd blocks) else Ok (record {
  blocks = blocks;
  bad = bad;
})

-- the slots of a checkpoint that belong to the stream, the oldest first
abbrev pub saved_slots : Checkpoint → List (List ℕ)
saved_slots c = map (λ k. symbols_of (take symbols_a_slot (drop (symbols_a_slot * k) c.slots)))
    (range_with_len (7 - min 7 (4 * c.program)) (min 7 (4 * c.program)))

-- what a result says about the first input: refused, not readable, or accepted
abbrev pub acceptance : Result Resumed ResumeStop → Result (Unit {0}) ResumeStop
acceptance (Err FirstFault) = Err FirstFault
acceptance (Err (BadSave byte)) = Err (BadSave byte)
acceptance (Err (BeforeSave blocks)) = Err (BeforeSave blocks)
acceptance _ = Ok tt

-- This is the result for an accepted checkpoint and a rest of the stream with `len` bytes.
abbrev pub IsResumedBy : Result Resumed ResumeStop → Checkpoint → ℕ → ℕ → Type 0
IsResumedBy (Err WriteFault) c time len = ⊤
IsResumedBy result c time len = IsGoneOnBy result c time len

-- A call with an accepted file read the rest of the stream, and wrote the picture at the end.
pub record Resumes (file : List ℕ) (time : ℕ) (passed : Passed) (result : Result Resumed ResumeStop)
    (taken : List ℕ) : Type 0 where
  pub taken_from : Consumes passed.left.before passed.left.after taken
  -- at most one byte past the limit was read
  pub within : length taken ≤ blocks_left (checkpoint_in file) * block_bytes + 1
  pub done : IfOk result (λ resumed. IsAtEnd passed.left.after × (time ≤ resumed.blocks)
      × ((text : List ℕ) × IsResumed file time taken resumed text
      × Appends passed.held.before passed.held.after text))
  -- after any other stop than a failed write, nothing was written
  pub stopped : (stop : ResumeStop) → result ≡ Err stop → stop ≢ WriteFault
      → Appends passed.held.before passed.held.after []
  pub torn : (block : ℕ) → result ≡ Err (Torn block) → IsAtEnd passed.left.after
  pub past_end : (blocks : ℕ) → result ≡ Err (PastEnd blocks)
      → IsAtEnd passed.left.after × (blocks ≡ blocks_after (checkpoint_in file) taken) × (blocks < time)
  -- if a write failed, the rest was read to its end, and a prefix of the text was written
  pub cut : result ≡ Err WriteFault
      → IsAtEnd passed.left.after × ((text : List ℕ) × (resumed : Resumed)
      × IsResumed file time taken resumed text
      × AppendsPrefix passed.held.before passed.held.after text)

-- The first part of a stream is whole blocks, at most the limit.
pub record IsFirstPart (lead_in : ℕ) (bytes : List ℕ) : Type 0 where
  pub lead_in_most : lead_in ≤ most_lead_in
  pub most : length bytes ≤ most_units * block_bytes
  pub whole : length bytes % block_bytes ≡ 0

-- the result of a player of the whole stream for this result
abbrev pub as_played : Result Resumed ResumeStop → Result Played PlayStop
as_played (Ok resumed) = Ok (record { blocks = resumed.blocks; bad = resumed.bad })
as_played (Err WriteFault) = Err play.WriteFault
as_played (Err (Torn block)) = Err (play.Torn block)
as_played (Err TooLong) = Err play.TooLong
as_played (Err (PastEnd blocks)) = Err (play.PastEnd blocks)
as_played (Err stop) = Err play.ReadFault

-- A call that resumes reports a fault of an input or of the output exactly if its count rose.
pub record ReportsResume {T : Type 0} (saved rest out : Change ℕ) (result : Result T ResumeStop)
    : Type 0 where
  pub first : ReportsFault FirstFault saved.before saved.after result
  pub second : ReportsFault SecondFault rest.before rest.after result
  pub write : ReportsFault WriteFault out.before out.after result
