use Rattle.std.proofs.Common.{refl, rules}
use Rattle.std.proofs.lemmas.Result.{err_from_is_err_and}
use Rattle.cdg_press.proofs.Presses.{part_pressed, prefix_pressed, pressed}
use Rattle.cdg_press.proofs.press.press_stream.Goals as goal

pub returns-in_err-write-clause-written : goal.returns-in_err-write-clause-written
returns-in_err-write-clause-written g c =
    let ready = c.in_ok-ready.ready in
    let part = part_pressed c.args.sheet.now c.args.cdg.now ready.layout ready.texts.items
    c.args.lead_in c.args.length
    (g.K.Sink.held c.args.out.now) (g.K.Sink.held c.write.new.out) c.in_ok-ready.ensures.layout
    c.in_ok-ready.ensures.texts c.in_err-write.ensures.part in
    let p =
    err_from_is_err_and c.from_residual-in_err-write.result c.from_residual-in_err-write.ensures.1 in
    let cause = c.in_err-write.ensures.cause in
    record {
      pressed = rw p.1 tt;
      untouched = rw (p.1, p.2) (λ other. absurd (other refl));
      write_fault = record {
        later = cause.later;
        rose = λ _. cause.failed;
        same = rw (p.1, p.2) (λ other. absurd (other refl));
      };
      part = λ failed. part;
      prefix = λ failed.
          prefix_pressed c.pressable_files_have_streams.ensures.stream
          c.pressable_files_have_streams.ensures.part
          c.args.sheet.now c.args.cdg.now c.args.lead_in c.args.length
          (g.K.Sink.held c.args.out.now) (g.K.Sink.held c.write.new.out)
          c.tracks_are_in_order.ensures c.requires.lead_in c.in_ok-judge.ensures.accepted part;
    }

pub returns-clause-written : goal.returns-clause-written
returns-clause-written g c =
    let ready = c.in_ok-ready.ready in
    record {
      pressed = pressed c.args.sheet.now c.args.cdg.now ready.layout ready.texts.items
          c.args.lead_in c.args.length
          (g.K.Sink.held c.args.out.now) (g.K.Sink.held c.write.new.out) c.in_ok-ready.ensures.layout
          c.in_ok-judge.ensures.accepted.in_time.0.0 c.in_ok-judge.ensures.accepted.in_time.2
          c.in_ok-ready.ensures.texts c.in_ok-judge.ensures.accepted.room c.in_ok-write.ensures.ok;
      untouched = search rules;
      write_fault = record {
        later = c.in_ok-write.ensures.cause.later;
        rose = search rules;
        same = λ _. c.in_ok-write.ensures.cause.same;
      };
      part = search rules;
      prefix = search rules;
    }
