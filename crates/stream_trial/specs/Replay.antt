-- What is known while a stream is played again.
use Rattle.std.specs.Prelude.{◌≡◌, ℕ, ◌+◌, ◌-◌, ◌<◌, ◌≤◌, ◌==◌, ◌&&◌, nat_le, if◌then◌else◌, List, [], ◌∷◌, slice_index}
use Rattle.raw_subcode.specs.declared.form.Form.TheVariants.{Raw}
use Rattle.rw_code.specs.Codeword.{differences}
use Rattle.rw_interleave.specs.Interleave.{whole_packs, Carries}
use Rattle.rw_interleave.specs.Stream.{IsDamaged}
use Rattle.cdg_instructions.specs.Instruction.{Means}
use Rattle.cdg_instructions.specs.Sizes.{screen_height, screen_width, tile_height, tile_width, window_bottom, window_right}
use Rattle.cdg_instructions.specs.declared.instr.Instr.{Instr}
use Rattle.cdg_screen.specs.Standing.{Standing, standing_after, screen_pixel}
use Rattle.picture_script.specs.Script.{Drawing, pictures}
use Rattle.picture_script.specs.Board.{Board, pixel_of}
use Rattle.pack_schedule.specs.Schedule.{IsSchedule}
use Rattle.stream_trial.specs.Differing.{differing}
use Rattle.stream_trial.specs.declared.replay.Replay.{Replay}
use Rattle.stream_trial.specs.declared.run.Found.{Found}

-- the pixel that a screen must show for a canvas: that of the canvas in the window, else the border
abbrev pub wanted_pixel : Board → ℕ → ℕ → ℕ
wanted_pixel board x y = if nat_le tile_width x && nat_le x window_right && nat_le tile_height y
    && nat_le y window_bottom then pixel_of board.pixels (x - tile_width) (y - tile_height) else board.border

-- The screen shows the picture of the canvas.
pub record Agrees (now : Standing) (board : Board) : Type 0 where
  pub border : now.border ≡ board.border
  pub colours : (n : ℕ) → n < 16 → slice_index now.colours n ≡ slice_index board.colours n
  pub pixels : (x y : ℕ) → x < screen_width → y < screen_height
      → screen_pixel now x y ≡ wanted_pixel board x y

-- Each count is at most `most`.
pub record IsBelow (most : ℕ) (replay : Replay) : Type 0 where
  pub one : replay.one ≤ most
  pub two : replay.two ≤ most
  pub bad : replay.bad ≤ most

-- 1 if both numbers are equal, else 0
abbrev pub one_where : ℕ → ℕ → ℕ
one_where a b = if a == b then 1 else 0

-- A word near this codeword was counted, and the instruction of the codeword was carried out.
pub record TakesWord (word codeword : List ℕ) (old new : Replay) : Type 0 where
  pub one : new.one ≡ old.one + one_where (differences word codeword) 1
  pub two : new.two ≡ old.two + one_where (differences word codeword) 2
  pub bad : new.bad ≡ old.bad
  pub instr : Instr
  pub meant : Means codeword instr
  pub screen : new.screen ≡ standing_after old.screen (instr ∷ [])

-- A word with no codeword near was counted, and the screen is unchanged.
pub record TakesBad (old new : Replay) : Type 0 where
  pub one : new.one ≡ old.one
  pub two : new.two ≡ old.two
  pub bad : new.bad ≡ old.bad + 1
  pub screen : new.screen ≡ old.screen

-- The program symbols `others` are damaged, and `symbols` carry a schedule of the script.
pub record IsDamagedSchedule (script : List Drawing) (blocks : ℕ) (symbols : List ℕ) (packs : List (List ℕ))
    (others : List ℕ) : Type 0 where
  pub schedule : IsSchedule script blocks packs
  pub carries : Carries blocks symbols packs
  pub damaged : IsDamaged symbols Raw others

-- These are the counts of a trial of a damaged schedule: no word is bad, and every picture was shown in time.
pub record IsPlayedOut (script : List Drawing) (blocks : ℕ) (symbols others : List ℕ)
    (found : Found) : Type 0 where
  pub one : found.one ≡ differing 1 (whole_packs blocks) symbols others
  pub two : found.two ≡ differing 2 (whole_packs blocks) symbols others
  pub bad : found.bad ≡ 0
  pub equal : found.equal ≡ pictures script
