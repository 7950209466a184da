-- A pressed stream with damage, and its screens.
use Rattle.std.specs.Prelude.{◌≡◌, ℕ, ◌*◌, ◌%◌, ◌≤◌, List, length, take}
use Rattle.bit_lists.specs.Counting.{whole_parts}
use Rattle.raw_subcode.specs.Channels.{unit_size, program_symbols}
use Rattle.raw_subcode.specs.declared.form.Form.{Form}
use Rattle.raw_subcode.specs.declared.form.Form.TheVariants.{Raw}
use Rattle.cue_sheet.specs.CueSheet.{CueSheet}
use Rattle.rw_interleave.specs.Stream.{IsDamaged}
use Rattle.cdg_instructions.specs.declared.instr.Instr.{Instr}
use Rattle.cdg_screen.specs.Standing.{blank, standing_after}
use Rattle.cdg_screen.specs.Texts.{pixmap}
use Rattle.raw_subcode.specs.Sizes.{most_units, symbols_a_slot}
use Rattle.cdg_press.specs.Thin.{AreInstructionsOf}
use Rattle.cdg_press.specs.Pressed.{IsPressed, press_of}

-- The inputs of a press, if these whole units of a form differ from the program of the pressed stream in at most two
-- symbols of each word.
pub record DamagedPress (form : Form) (lead_in : ℕ) (others : List ℕ) : Type 0 where
  pub sheet : CueSheet
  pub file : List ℕ
  pub audio : ℕ
  pub bytes : List ℕ
  pub packs : List (List ℕ)
  pub pressed : IsPressed (press_of sheet file lead_in audio) bytes packs
  pub few : length others ≤ most_units * unit_size form
  pub whole : length others % unit_size form ≡ 0
  pub damaged : IsDamaged (program_symbols Raw bytes lead_in) form (program_symbols form others lead_in)

-- The text is the pixmap of the screen after the first `many` packs of a file, or after all its packs if it has fewer.
pub record IsFileText (file : List ℕ) (many : ℕ) (text : List ℕ) : Type 0 where
  pub instrs : List Instr
  pub read : AreInstructionsOf (take many (whole_parts symbols_a_slot file)) instrs
  pub text_is : text ≡ pixmap (standing_after blank instrs)
