-- The start, the preset and the length of the change of each picture.
use Rattle.std.specs.Prelude.{◌≡◌, ℕ, ◌-◌, ◌<◌, ◌≤◌, ⊤, List, [], length, slice_index_or, None, vec_capacity, vec_len}
use Rattle.picture_script.specs.Script.{Drawing, pictures, hold_time}
use Rattle.picture_script.specs.Board.{Board, IsBlank}
use Rattle.pack_schedule.specs.Schedule.{start_of, IsInTime, IsLate}
use Rattle.pack_schedule.specs.PlannedChange.{chosen_start, planned_change}
use Rattle.pack_schedule.specs.declared.surveys.SurveyRoom.{SurveyRoom}
use Rattle.pack_schedule.specs.declared.surveys.PlannedChange.{PlannedChange}
use Rattle.pack_schedule.specs.declared.stops.LatePicture.{LatePicture}
use Rattle.pack_schedule.specs.declared.stops.Stop.{Stop}
use Rattle.pack_schedule.specs.declared.stops.Stop.TheVariants.{PastEnd, Late, NoMemory}

abbrev pub nothing_planned : PlannedChange
nothing_planned = record { start = 0; need = 0; preset = None }

-- `planned` has the first pack, the length and the preset of the planned change of picture k. The picture is in time.
pub record IsPlanned (script : List Drawing) (k : ℕ) (planned : PlannedChange) : Type 0 where
  pub start_is : planned.start ≡ start_of script k
  pub preset_is : planned.preset ≡ chosen_start script k
  pub need_is : planned.need ≡ length (planned_change script k)
  pub in_time : IsInTime script k planned.need

-- The list has the planned changes of the first `count` pictures.
pub record ArePlanned (script : List Drawing) (count : ℕ) (planned : List PlannedChange) : Type 0 where
  pub count_is : length planned ≡ count
  pub each : (k : ℕ) → k < count → IsPlanned script k (slice_index_or planned k nothing_planned)

-- The list has the planned changes of all pictures of the script.
abbrev pub IsSurvey : List Drawing → List PlannedChange → Type 0
IsSurvey script planned = ArePlanned script (pictures script) planned

-- Every picture is held until at most this block.
abbrev pub IsWithin : List Drawing → ℕ → Type 0
IsWithin script blocks = (k : ℕ) → k < pictures script → hold_time script k ≤ blocks

-- The hold time of the last picture is after the end of a program of `blocks` blocks.
abbrev pub IsPastEnd : List Drawing → ℕ → Type 0
IsPastEnd script blocks = (0 < pictures script) × (blocks < hold_time script (pictures script - 1))

-- Nothing is drawn on the canvas.
abbrev pub IsUndrawn : Board → Type 0
IsUndrawn board = IsBlank board × (board.at ≡ None)

-- The memory is enough for a survey of this many pictures. Its canvases are empty, and it has no planned change yet.
pub record IsRoomFor (count : ℕ) (room : SurveyRoom) : Type 0 where
  pub before : IsUndrawn room.before
  pub now : IsUndrawn room.now
  pub none : (room.planned.items ≡ []) × (vec_len room.planned ≡ 0)
  pub fits : count ≤ vec_capacity room.planned

-- `late` is the first late picture, with its numbers.
abbrev pub IsLatePicture : List Drawing → LatePicture → Type 0
IsLatePicture script late = IsLate script late.picture late.need late.free

-- This is the reason why there is no schedule.
abbrev pub IsStop : List Drawing → ℕ → Stop → Type 0
IsStop script blocks (PastEnd program) = (program ≡ blocks) × IsPastEnd script blocks
IsStop script blocks (Late picture need free) = IsWithin script blocks × IsLate script picture need free
IsStop script blocks NoMemory = ⊤
