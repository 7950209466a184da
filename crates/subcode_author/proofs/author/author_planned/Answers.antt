use Rattle.std.proofs.Common.{◌≡◌, ℕ, ◌<◌, ◌≤◌, List, ap, refl, rules, sym, subst, ◌∙◌}
use Rattle.std.proofs.lemmas.Result.{err_from_is_err_and}
use Rattle.cue_sheet.specs.CueSheet.{CueSheet}
use Rattle.toc_model.specs.Places.{DiscLayout, layout_of, program_blocks}
use Rattle.picture_script.specs.Script.{Drawing, pictures, ready_time, hold_time, picture_pixel}
use Rattle.pack_schedule.specs.Shown.{AreColoursInRange}
use Rattle.pack_schedule.specs.Survey.{IsSurvey, IsWithin}
use Rattle.pack_schedule.specs.declared.surveys.PlannedChange.{PlannedChange}
use Rattle.subcode_author.proofs.Schedules.{authored, cut_idle, part_of, IsPlannedScript}
use Rattle.subcode_author.proofs.author.author_planned.Goals as goal

pub allocate_inputs-requires-clause-need : goal.allocate_inputs-requires-clause-need
allocate_inputs-requires-clause-need g c = c.requires.disc.0.0

pub allocate_inputs-requires-clause-fits : goal.allocate_inputs-requires-clause-fits
allocate_inputs-requires-clause-fits g c = c.requires.disc.0.1

known_script : (script : List Drawing) (blocks blocks' : ℕ) → blocks ≡ blocks' → IsWithin script blocks
    → ((planned : List PlannedChange) × IsSurvey script planned)
    → ((k : ℕ) → k < pictures script → ready_time script k ≤ hold_time script k) → AreColoursInRange script
    → ((k x y : ℕ) → picture_pixel script k x y < 16)
    → IsPlannedScript script blocks'
known_script script blocks blocks' same within planned held ranges pixels = record {
  within = subst (IsWithin script) same within;
  survey = planned.0;
  surveyed = planned.1;
  held = held;
  ranges = ranges;
  pixels = pixels;
}

few_blocks : (sheet : CueSheet) (audio : ℕ) (layout : DiscLayout) → layout ≡ layout_of sheet audio
    → program_blocks sheet audio ≤ 449999 → layout.blocks ≤ 449999
few_blocks sheet audio layout is few = subst (λ (l : DiscLayout). l.blocks ≤ 449999) (sym is) few

same_blocks : (sheet : CueSheet) (audio : ℕ) (layout : DiscLayout) → layout ≡ layout_of sheet audio
    → program_blocks sheet audio ≡ layout.blocks
same_blocks sheet audio layout is = sym (ap (λ (l : DiscLayout). l.blocks) is)

pub write-requires-clause-cut : goal.write-requires-clause-cut
write-requires-clause-cut g c =
    let known = c.times_rise_and_colours_are_in_range.ensures in
    let is = c.in_ok-inputs.ensures.inputs in
    let inputs = c.in_ok-inputs.inputs in
    cut_idle c.args.script.now inputs.source.weaver inputs.layout.blocks
    (few_blocks c.args.sheet.now c.args.length inputs.layout is.layout_is c.requires.disc.0.1)
    (record { script_is = is.script_is; given_is = is.given_is })
    (known_script c.args.script.now (program_blocks c.args.sheet.now c.args.length) inputs.layout.blocks
    (same_blocks c.args.sheet.now c.args.length inputs.layout is.layout_is) c.requires.within
    (c.args.planned, c.requires.planned)
    known.held (record { border = known.borders; colour = known.colours }) known.pixels)

pub returns-in_err-write-clause-written : goal.returns-in_err-write-clause-written
returns-in_err-write-clause-written g c =
    let is = c.in_ok-inputs.ensures.inputs in
    let inputs = c.in_ok-inputs.inputs in
    let p =
    err_from_is_err_and c.from_residual-in_err-write.result c.from_residual-in_err-write.ensures.1 in
    let cause = c.in_err-write.ensures.cause in
    record {
      authored = rw p.1 tt;
      untouched = rw (p.1, p.2) (λ other. absurd (other refl));
      write_fault = record {
        later = cause.later;
        rose = λ _. cause.failed;
        same = rw (p.1, p.2) (λ other. absurd (other refl));
      };
      part = λ failed.
          part_of c.args.sheet.now c.args.script.now inputs.source.weaver inputs.layout inputs.texts.items
          c.args.lead_in c.args.length
          (g.K.Sink.held c.args.out.now) (g.K.Sink.held c.write.new.out)
          is.layout_is
          (few_blocks c.args.sheet.now c.args.length inputs.layout is.layout_is c.requires.disc.0.1)
          (record { script_is = is.script_is; given_is = is.given_is })
          is.texts_are c.in_err-write.ensures.part;
    }

pub returns-clause-written : goal.returns-clause-written
returns-clause-written g c =
    let known = c.times_rise_and_colours_are_in_range.ensures in
    let is = c.in_ok-inputs.ensures.inputs in
    let inputs = c.in_ok-inputs.inputs in
    record {
      untouched = search rules;
      write_fault = record {
        later = c.in_ok-write.ensures.cause.later;
        rose = search rules;
        same = λ _. c.in_ok-write.ensures.cause.same;
      };
      part = search rules;
      authored = authored c.packs_are_a_schedule.ensures.schedule c.args.sheet.now c.args.script.now
          inputs.source.weaver inputs.layout inputs.texts.items c.args.lead_in c.args.length
          (g.K.Sink.held c.args.out.now) (g.K.Sink.held c.write.new.out)
          is.layout_is
          (few_blocks c.args.sheet.now c.args.length inputs.layout is.layout_is c.requires.disc.0.1)
          (record { script_is = is.script_is; given_is = is.given_is })
          is.texts_are
          c.requires.room
          (known_script c.args.script.now (program_blocks c.args.sheet.now c.args.length) _ refl
          c.requires.within
          (c.args.planned, c.requires.planned)
          known.held (record { border = known.borders; colour = known.colours }) known.pixels)
          c.in_ok-write.ensures.ok;
    }
