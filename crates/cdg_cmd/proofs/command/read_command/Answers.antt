use Rattle.std.proofs.Common.{Some, ap, sym}
use Rattle.cdg_cmd.proofs.Commands.{named, no_texts, some_texts}
use Rattle.cdg_cmd.proofs.StreamWords.{of_planar, of_raw, of_thin}
use Rattle.cdg_cmd.proofs.command.read_command.Goals as goal

pub returns-in-convert : goal.returns-in-convert
returns-in-convert c = named _ _ _ _ c.in-convert.is c.read_convert.ensures

pub returns-in-screen : goal.returns-in-screen
returns-in-screen c = named _ _ _ _ c.in-screen.is c.read_screen.ensures

pub returns-in-state : goal.returns-in-state
returns-in-state c = named _ _ _ _ c.in-state.is c.read_state.ensures

pub returns-in-check : goal.returns-in-check
returns-in-check c = named _ _ _ _ c.in-check.is c.read_check.ensures

pub returns-in-q : goal.returns-in-q
returns-in-q c = named _ _ _ _ c.in-q.is c.read_q.ensures

pub returns-in-text : goal.returns-in-text
returns-in-text c = named _ _ _ _ c.in-text.is c.read_text.ensures

pub returns-in-author : goal.returns-in-author
returns-in-author c = named _ _ _ _ c.in-author.is c.read_author.ensures

pub returns-in-scratch : goal.returns-in-scratch
returns-in-scratch c = named _ _ _ _ c.in-scratch.is c.read_scratch.ensures

pub returns-in-gen : goal.returns-in-gen
returns-in-gen c = named _ _ _ _ c.in-gen.is c.read_gen.ensures

pub returns-in-trial : goal.returns-in-trial
returns-in-trial c = named _ _ _ _ c.in-trial.is c.read_trial.ensures

pub returns-in-merge : goal.returns-in-merge
returns-in-merge c = named _ _ _ _ c.in-merge.is c.read_merge.ensures

pub returns-in-press : goal.returns-in-press
returns-in-press c = named _ _ _ _ c.in-press.is c.read_press.ensures

pub returns-in-save : goal.returns-in-save
returns-in-save c = named _ _ _ _ c.in-save.is c.read_save.ensures

pub returns-in-resume : goal.returns-in-resume
returns-in-resume c = named _ _ _ _ c.in-resume.is c.read_resume.ensures

pub returns-in-planar : goal.returns-in-planar
returns-in-planar c = (
  (c.in-planar.is, tt, no_texts _ c.if-is_empty.ensures),
  λ command spelled. ap Some (sym (of_planar command _ _ c.in-planar.is spelled).0),
)

pub returns-in_default : goal.returns-in_default
returns-in_default c = (
  tt,
  λ command spelled.
      absurd (some_texts _ c.if-is_empty.ensures (of_planar command _ _ c.in-planar.is spelled).1),
)

pub returns-in-raw : goal.returns-in-raw
returns-in-raw c = (
  (c.in-raw.is, tt, no_texts _ c.if-is_empty-2.ensures),
  λ command spelled. ap Some (sym (of_raw command _ _ c.in-raw.is spelled).0),
)

pub returns-in_default-2 : goal.returns-in_default-2
returns-in_default-2 c = (
  tt,
  λ command spelled.
      absurd (some_texts _ c.if-is_empty-2.ensures (of_raw command _ _ c.in-raw.is spelled).1),
)

pub returns-in-thin : goal.returns-in-thin
returns-in-thin c = (
  (c.in-thin.is, tt, no_texts _ c.if-is_empty-3.ensures),
  λ command spelled. ap Some (sym (of_thin command _ _ c.in-thin.is spelled).0),
)

pub returns-in_default-3 : goal.returns-in_default-3
returns-in_default-3 c = (
  tt,
  λ command spelled.
      absurd (some_texts _ c.if-is_empty-3.ensures (of_thin command _ _ c.in-thin.is spelled).1),
)
