-- The sheet of a trial.
use Rattle.std.proofs.Common.{◌≡◌, ℕ, ◌+◌, ◌*◌, ◌≤◌, Ok, refl, arith, List}
use Rattle.text_lines.specs.Text.{without_mark, lines_in, trimmed, without_blanks, first_word, argument_of, words_in, number_in, parsed_time}
use Rattle.cue_sheet.specs.CueSheet.{CueSheet}
use Rattle.cue_sheet.specs.CueLines.{command_named, is_file, quoted}
use Rattle.text_lines.specs.Reading.{read_on}
use Rattle.cue_sheet.specs.Grammar.{taken, read_cue}
use Rattle.toc_model.specs.Places.{pregaps_to, postgaps_to, program_blocks, greatest, audio_need}
use Rattle.subcode_author.specs.AuthorAnswer.{HasLayout, HasRoom}
use Rattle.stream_trial.specs.TrialSheet.{trial_text, trial_sheet}

pub is_read : read_cue trial_text ≡ Ok trial_sheet
unfolding read_on lines_in without_mark trimmed without_blanks command_named first_word is_file argument_of
    quoted words_in taken number_in parsed_time
is_read = refl

pub need_is : audio_need trial_sheet ≡ 1
unfolding audio_need greatest
need_is = refl

pub blocks_are : (audio : ℕ) → program_blocks trial_sheet audio ≡ 150 + audio
unfolding pregaps_to postgaps_to
blocks_are audio = omega arith

pub has_layout : (count : ℕ) → count ≤ 500 → HasLayout trial_sheet (800 * count + 20)
has_layout count few = (omega (arith, need_is), omega (arith, few, blocks_are (800 * count + 20)))

pub room_enough : (count : ℕ) → 800 * count + 20 ≤ program_blocks trial_sheet (800 * count + 20)
room_enough count = omega (arith, blocks_are (800 * count + 20))

pub no_lead_in : HasRoom trial_sheet 0
no_lead_in some = absurd (omega (arith, some))

-- the sheet that is read from a text is the only one
pub read_so : (sheet : CueSheet) (text : List ℕ) → read_cue text ≡ Ok trial_sheet → read_cue text ≡ Ok sheet
    → sheet ≡ trial_sheet
read_so sheet text read is = cc
