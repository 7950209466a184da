use Rattle.subcode_author.specs.Authored.{IsAuthored}
use Rattle.cdg_cmd.specs.LeadInTexts.{AreLinesOf}
use Rattle.cdg_cmd.proofs.FirstHalf.{first_half}
use Rattle.cdg_cmd.proofs.LateReported.{late_cannot}
use Rattle.cdg_cmd.proofs.SecondHalf.{converted_back, gives_none_bad, gives_packs, packs_back, pictures_shown, shown_back}
use Rattle.cdg_cmd.proofs.Listings.{authored_size, frames_given, lines_given, strings_given}
use Rattle.cdg_cmd.proofs.Merged.{merged_back}
use Rattle.cdg_cmd.proofs.PressedBack.{PressesComeBack, pressed_back}
use Rattle.cdg_cmd.proofs.ResumedWhole.{Laws, resumed_from}
use Rattle.cdg_cmd.proofs.Thinning.{all_thinned}
use Rattle.cdg_cmd.proofs.laws.commands_are_answered.Goals as goal

pub returns-clause-authors : goal.returns-clause-authors
returns-clause-authors c = λ disc call status is place.
    first_half disc.sheet disc.script disc.lead_in disc.audio call.out call.first.before call.first.after
    call.second.before call.second.after status place is.does

pub returns-clause-late : goal.returns-clause-late
returns-clause-late c = λ lead_in audio picture need free script call status is reported.
    late_cannot lead_in audio call.out script picture need free
    (λ text read. c.needs_are_fewest.ensures.late script picture need free
    (c.accepted_scripts_are_in_order.ensures.times text script read)
    (c.accepted_scripts_are_in_order.ensures.colours text script read)
    (c.accepted_scripts_are_in_order.ensures.pixels text script read))
    call.first.before call.first.after call.second.before call.second.after status reported
    (is.does (λ e. cc))

pub returns-clause-gives_back : goal.returns-clause-gives_back
returns-clause-gives_back c = λ form disc stream packs call status is authored.
    packs_back disc.sheet disc.script disc.lead_in disc.audio stream packs form authored call.first.before
    call.out status
    (converted_back form disc.lead_in call.first.after call.second.before call.second.after call.out status
    (gives_packs c.packs_are_recovered.ensures c.found_packs_are_the_text.ensures.text
    c.found_packs_are_the_text.ensures.bad) (gives_none_bad c.packs_are_recovered.ensures
    c.found_packs_are_the_text.ensures.text c.found_packs_are_the_text.ensures.bad) call.first.before
    (is.does (is.never tt)))

pub returns-clause-shows : goal.returns-clause-shows
returns-clause-shows c = λ form disc stream text packs k at call status is accepted held authored.
    pictures_shown disc.sheet disc.script disc.lead_in disc.audio stream packs form authored
    call.first.before call.out at k status
    (c.accepted_scripts_are_in_order.ensures.times text disc.script accepted.reads)
    (c.accepted_scripts_are_in_order.ensures.colours text disc.script accepted.reads) held
    (shown_back form disc.lead_in call.first.after call.second.before call.second.after call.out status
    c.shown_moments_give_pictures.ensures at call.first.before is.does)

pub returns-clause-frames : goal.returns-clause-frames
returns-clause-frames c = λ disc packs call status is lead_in_few few.
    frames_given disc.lead_in call.first.after call.second.before call.second.after call.out status _
    (λ all. IsAuthored disc all packs) call.first.before (is.does (is.never tt))
    (λ all authored answer taken plays answered.
    c.frame_lists_are_answered.ensures disc.sheet disc.script disc.lead_in disc.audio all packs disc.lead_in _
    _ answer taken authored
    (authored_size disc.sheet disc.script disc.lead_in disc.audio all packs lead_in_few few authored) plays
    answered)

pub returns-clause-strings : goal.returns-clause-strings
returns-clause-strings c = λ form disc stream lines packs call status is authored.
    strings_given disc.lead_in call.first.after call.second.before call.second.after call.out status lines
    (λ all. AreLinesOf disc form stream all lines) form call.first.before is.does
    (λ all are answer taken lists listed.
    lines_given disc.sheet disc.script form disc.lead_in disc.audio stream all lines answer _
    (λ whole fits some slots input. c.damaged_text_lists_are_answered.ensures disc.sheet disc.script
    disc.lead_in disc.audio stream packs whole form all _ _ answer taken fits some authored slots input lists
    listed)
    (λ none slots input. c.copied_text_lists_are_answered.ensures.none disc.sheet disc.script disc.lead_in
    disc.audio stream packs form all _ _ answer taken none authored slots input lists listed) are)

pub returns-clause-merges : goal.returns-clause-merges
returns-clause-merges c = λ lead_in call status is.
    merged_back c.two_readings_give_packs.ensures.text lead_in call.first.after call.second.after call.out
    status call.first.before call.second.before (is.does (is.never tt))

pub returns-clause-unpresses : goal.returns-clause-unpresses
returns-clause-unpresses c = λ command call status is.
    let laws : PressesComeBack = record {
      stream = c.pressed_packs_come_back.ensures.stream;
      shown = record {
        text = c.pressed_files_are_shown.ensures.text;
        bad = c.pressed_files_are_shown.ensures.bad;
      };
      packs =
          gives_packs c.packs_are_recovered.ensures c.found_packs_are_the_text.ensures.text
          c.found_packs_are_the_text.ensures.bad;
      none_bad =
          gives_none_bad c.packs_are_recovered.ensures c.found_packs_are_the_text.ensures.text
          c.found_packs_are_the_text.ensures.bad;
    } in
    pressed_back laws command call.first.before call.first.after call.second.before call.second.after call.out
    status is.does is.never

pub returns-clause-resumes : goal.returns-clause-resumes
returns-clause-resumes c = λ at call status is answered found.
    let law = c.a_saved_stream_goes_on_as_the_whole.ensures in
    let laws : Laws =
    record { accepted = law.accepted; answer = law.answer; whole = law.whole; only = law.only } in
    resumed_from laws at call.first.before call.first.after call.second.before call.second.after call.out
    status answered (is.does found)

pub returns-clause-thins : goal.returns-clause-thins
returns-clause-thins c = λ call status is done.
    all_thinned call.first.before call.first.after call.second.before call.second.after call.out status done
    is.does
