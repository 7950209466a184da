use Rattle.cdg_cmd.specs.declared.command.Command.TheVariants.{Author, Convert, Merge, Q, Resume, Screen, Text, Thin}
use Rattle.raw_subcode.specs.declared.form.Form.TheVariants.{Raw}
use Rattle.cdg_cmd.proofs.Listings.{spells_allowed}
use Rattle.cdg_cmd.proofs.Performed.{did}
use Rattle.cdg_cmd.proofs.Statuses.{answered}
use Rattle.cdg_cmd.proofs.top.run.Goals as goal

pub returns-clause-usage : goal.returns-clause-usage
returns-clause-usage g c = (c.answer-status.ensures.usage, c.answer-status.ensures.untouched)

pub returns-clause-complete : goal.returns-clause-complete
returns-clause-complete g c = λ command spelled none.
    answered c.answer-status.result (λ e. c.answer-status.ensures.usage.0 e command spelled)
    (λ e. none.first (c.answer-status.ensures.faults.first.rose e))
    (λ e. none.second (c.answer-status.ensures.faults.second.rose e))
    (λ e. none.out (c.answer-status.ensures.faults.out.rose e))

pub returns-clause-authors : goal.returns-clause-authors
returns-clause-authors g c = λ disc spelled place.
    c.commands_are_answered.ensures.authors disc _ _
    (did (c.answer-status.ensures.performs (Author disc.lead_in disc.audio) spelled)) place

pub returns-clause-late : goal.returns-clause-late
returns-clause-late g c = λ lead_in audio picture need free script spelled reported.
    c.commands_are_answered.ensures.late lead_in audio picture need free script _ _
    (did (c.answer-status.ensures.performs (Author lead_in audio) spelled)) reported

pub returns-clause-gives_back : goal.returns-clause-gives_back
returns-clause-gives_back g c = λ form disc stream packs spelled authored.
    c.commands_are_answered.ensures.gives_back form disc stream packs _ _
    (did (c.answer-status.ensures.performs (Convert disc.lead_in form) spelled)) authored

pub returns-clause-shows : goal.returns-clause-shows
returns-clause-shows g c = λ form disc stream text packs k at spelled accepted held authored.
    c.commands_are_answered.ensures.shows form disc stream text packs k at _ _
    (did (c.answer-status.ensures.performs (Screen disc.lead_in form at) spelled)) accepted held authored

pub returns-clause-frames : goal.returns-clause-frames
returns-clause-frames g c = λ disc packs spelled few.
    c.commands_are_answered.ensures.frames disc packs _ _
    (did (c.answer-status.ensures.performs (Q disc.lead_in Raw) spelled))
    (spells_allowed (Q disc.lead_in Raw) _ spelled).0 few

pub returns-clause-strings : goal.returns-clause-strings
returns-clause-strings g c = λ form disc stream lines packs spelled authored.
    c.commands_are_answered.ensures.strings form disc stream lines packs _ _
    (did (c.answer-status.ensures.performs (Text disc.lead_in form) spelled)) authored

pub returns-clause-merges : goal.returns-clause-merges
returns-clause-merges g c = λ lead_in spelled.
    c.commands_are_answered.ensures.merges lead_in _ _
    (did (c.answer-status.ensures.performs (Merge lead_in) spelled))

pub returns-clause-unpresses : goal.returns-clause-unpresses
returns-clause-unpresses g c = λ command spelled.
    c.commands_are_answered.ensures.unpresses command _ _
    (did (c.answer-status.ensures.performs command spelled))

pub returns-clause-resumes : goal.returns-clause-resumes
returns-clause-resumes g c = λ at spelled answered found.
    c.commands_are_answered.ensures.resumes at _ _
    (did (c.answer-status.ensures.performs (Resume at) spelled)) answered found

pub returns-clause-thins : goal.returns-clause-thins
returns-clause-thins g c = λ spelled done.
    c.commands_are_answered.ensures.thins _ _ (did (c.answer-status.ensures.performs Thin spelled)) done
