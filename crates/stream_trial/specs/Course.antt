-- What is known after the first blocks of a stream, which were scratched, corrected and played.
use Rattle.std.specs.Prelude.{◌≡◌, ℕ, ◌+◌, ◌*◌, ◌/◌, ◌<◌, ◌≤◌, List, [], ◌++◌, length, map, take, drop}
use Rattle.bit_lists.specs.Counting.{below}
use Rattle.raw_subcode.specs.Channels.{symbols_of}
use Rattle.raw_subcode.specs.Sizes.{block_bytes, slots_a_block, symbols_a_slot}
use Rattle.cdg_io.specs.Run.{run_gives, run_state}
use Rattle.rw_interleave.specs.Gathering.{gather_gives, gather_next}
use Rattle.rw_interleave.specs.Interleave.{whole_of_slots}
use Rattle.rw_interleave.specs.Windows.{slots_in}
use Rattle.cdg_instructions.specs.declared.instr.Instr.{Instr}
use Rattle.cdg_screen.specs.Standing.{blank, standing_after}
use Rattle.picture_script.specs.Script.{Drawing, pictures, ready_time}
use Rattle.picture_script.specs.Board.{StandsBefore}
use Rattle.pack_schedule.specs.Meanings.{AreMeantBy}
use Rattle.cdg_workload.specs.Generated.{generated_drawings}
use Rattle.cdg_workload.specs.Scratches.{scratched}
use Rattle.cdg_workload.specs.Steps.{scratches_after}
use Rattle.stream_trial.specs.Differing.{differing}
use Rattle.stream_trial.specs.Replay.{IsBelow, IsDamagedSchedule}
use Rattle.stream_trial.specs.declared.course.Course.{Course}
use Rattle.stream_trial.specs.declared.gallery.Gallery.{Gallery}
use Rattle.stream_trial.specs.declared.replay.Replay.{Replay}

-- ---- Slots and blocks.

-- block b of a stream
abbrev pub stream_block : List ℕ → ℕ → List ℕ
stream_block bytes b = take block_bytes (drop (block_bytes * b) bytes)

-- the symbols of slot n of a stream
unfoldable pub stream_slot : List ℕ → ℕ → List ℕ
stream_slot bytes n = symbols_of (take symbols_a_slot (drop (symbols_a_slot * n) bytes))

-- the first slots of a stream
abbrev pub slots_before : List ℕ → ℕ → List (List ℕ)
slots_before bytes n = map (stream_slot bytes) (below n)

-- the slots in a gatherer after the first b blocks
abbrev pub gathered_before : List ℕ → ℕ → List (List ℕ)
gathered_before bytes b = run_state gather_next [] (slots_before bytes (slots_a_block * b))

-- the words that end with block b
abbrev pub words_with_stream_block : List ℕ → ℕ → List (List ℕ)
words_with_stream_block bytes b =
    run_gives gather_next gather_gives (gathered_before bytes b)
    (slots_in (stream_block bytes b) 0 slots_a_block)

-- ---- Words and pictures. The symbols `others` are damaged, and `symbols` carry the packs.

-- The first n words were counted, and the instructions of their packs were carried out.
pub record AreTaken (symbols : List ℕ) (packs : List (List ℕ)) (others : List ℕ) (n : ℕ)
    (replay : Replay) : Type 0 where
  pub one : replay.one ≡ differing 1 n symbols others
  pub two : replay.two ≡ differing 2 n symbols others
  pub bad : replay.bad ≡ 0
  pub instrs : List Instr
  pub meant : AreMeantBy (take n packs) instrs
  pub screen : replay.screen ≡ standing_after blank instrs

-- Every picture that was ready after n slots was shown, and the next one is not ready yet.
pub record AreCompared (script : List Drawing) (n : ℕ) (gallery : Gallery) : Type 0 where
  pub equal : gallery.equal ≡ gallery.next
  pub later : gallery.next < pictures script → n < slots_a_block * ready_time script gallery.next

-- `AreTaken` and `AreCompared` hold after n slots.
pub record AreTakenAndCompared (script : List Drawing) (symbols : List ℕ) (packs : List (List ℕ))
    (others : List ℕ) (n : ℕ) (replay : Replay) (gallery : Gallery) : Type 0 where
  pub taken : AreTaken symbols packs others (whole_of_slots n) replay
  pub compared : AreCompared script n gallery

-- n words of a stream were played, if this stream is a damaged schedule of the script.
abbrev pub HasTaken : List Drawing → List ℕ → ℕ → Replay → Type 0
HasTaken script bytes n replay = (symbols : List ℕ) (packs : List (List ℕ))
    → IsDamagedSchedule script (length bytes / block_bytes) symbols packs (symbols_of bytes)
    → AreTaken symbols packs (symbols_of bytes) n replay

-- b blocks of a stream were played, if this stream is a damaged schedule of the script.
abbrev pub HasShown : List Drawing → List ℕ → ℕ → Replay → Gallery → Type 0
HasShown script bytes b replay gallery = (symbols : List ℕ) (packs : List (List ℕ))
    → IsDamagedSchedule script (length bytes / block_bytes) symbols packs (symbols_of bytes)
    → AreTakenAndCompared script symbols packs (symbols_of bytes) (slots_a_block * b) replay gallery

-- ---- The course of a trial.

-- The course has processed the first blocks of a stream, with the scratches of a seed.
pub record HasGoneOver (script : List Drawing) (seed : ℕ) (bytes : List ℕ) (course : Course) : Type 0 where
  pub scratches : course.scratches ≡ scratches_after seed bytes course.blocks
  pub gather : course.gather ≡ gathered_before (scratched 0 seed bytes) course.blocks
  pub shown : HasShown script (scratched 0 seed bytes) course.blocks course.replay course.gallery

-- The counts are in range, and the canvas is at the next picture.
pub record IsSteady (script : List Drawing) (course : Course) : Type 0 where
  pub small : IsBelow (slots_a_block * course.blocks) course.replay
  pub canvas : StandsBefore script course.gallery.next course.gallery.canvas
  pub next : course.gallery.next ≤ pictures script
  pub equal : course.gallery.equal ≤ course.gallery.next

-- The state of a trial after these bytes: it processed their whole blocks, regardless of what follows, and `block`
-- holds the first `filled` bytes of the next block.
pub record Knows (script : List Drawing) (seed count : ℕ) (course : Course) (block : List ℕ) (filled : ℕ)
    (bytes : List ℕ) : Type 0 where
  pub script_is : script ≡ generated_drawings seed count
  pub steady : IsSteady script course
  pub long : length block ≡ block_bytes
  pub size : length bytes ≡ block_bytes * course.blocks + filled
  pub begun : take filled block ≡ drop (block_bytes * course.blocks) bytes
  pub gone_over : (more : List ℕ) → HasGoneOver script seed (bytes ++ more) course
