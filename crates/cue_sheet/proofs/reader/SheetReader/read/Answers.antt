use Rattle.std.proofs.Common.{Some, None, arith, refl, sym, ◌∙◌}
use Rattle.cue_sheet.specs.Grammar.{nothing_said}
use Rattle.cue_sheet.proofs.Reading.{reading_starts, reading_goes_on, reading_stops, reading_ends, reading_is_sheet}
use Rattle.cue_sheet.proofs.reader.SheetReader.read.Goals as goal

pub loop-line-init : goal.loop-line-init
loop-line-init c = (
  nothing_said,
  reading_starts c.args.text.now _ nothing_said c.without_mark-rest.ensures.rest
      (omega (arith, c.without_mark-rest.ensures.length, c.requires.size)) refl,
  c.requires.fresh,
)

pub take-requires : goal.take-requires
take-requires c =
    omega (arith, c.in-Some.ensures.shorter, c.loop-line.invariant.1.bound, c.loop-line.invariant.1.positive)

pub loop-line-preserved : goal.loop-line-preserved
loop-line-preserved c =
    let said = c.loop-line.invariant.0 in
    let taken = c.in_default-take.ensures said c.loop-line.invariant.2 in (
      taken.0,
      reading_goes_on c.args.text.now c.loop-line.rest.now c.in-Some.line.now c.in-Some.after.now
          c.loop-line.number said taken.0 c.loop-line.invariant.1 c.in-Some.ensures.lines
          c.in-Some.ensures.ends taken.1,
      taken.2,
    )

pub returns-in-Err : goal.returns-in-Err
returns-in-Err c =
    let said = c.loop-line.invariant.0 in
    record {
      sheet = tt;
      stop =
          reading_stops c.args.text.now c.loop-line.rest.now c.in-Some.line.now c.in-Some.after.now
          c.loop-line.number said _ c.loop-line.invariant.1 c.in-Some.ensures.lines
          (c.in-Err.ensures said c.loop-line.invariant.2);
    }

pub returns-in-Some-end_reason : goal.returns-in-Some-end_reason
returns-in-Some-end_reason c =
    let said = c.loop-line.invariant.0 in
    record {
      sheet = tt;
      stop =
          reading_ends c.args.text.now c.loop-line.rest.now c.loop-line.number said
          (Some c.in-Some-end_reason.why) c.loop-line.invariant.1 c.in_default.ensures.lines
          (sym c.in-Some-end_reason.is ∙ c.end_reason.ensures said c.loop-line.invariant.2.judged);
    }

pub returns-in-None : goal.returns-in-None
returns-in-None c =
    let said = c.loop-line.invariant.0 in
    let reason = c.end_reason.ensures said c.loop-line.invariant.2.judged in
    record {
      sheet = (
        said,
        c.loop-line.invariant.2,
        reading_ends c.args.text.now c.loop-line.rest.now c.loop-line.number said None
            c.loop-line.invariant.1 c.in_default.ensures.lines (sym c.in-None.is ∙ reason),
        reading_is_sheet c.args.text.now c.loop-line.rest.now c.loop-line.number said
            c.loop-line.invariant.1 (sym reason ∙ c.in-None.is),
      );
      stop = tt;
    }
