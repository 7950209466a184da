use Rattle.std.proofs.Common.{◌≡◌, ◌<◌, ◌≤◌, ◌+◌, ◌∙◌, ◌++◌, length, take, sym, arith, length-append, length-take-le}
use Rattle.std.proofs.lemmas.List.{length-take}
use Rattle.std.proofs.KnownBytes.{Consumes-trans}
use Rattle.cdg_io.proofs.Stops.{Consumes-still, rose_once_since}
use Rattle.cdg_io.proofs.ReadStops.{none_below, offer_fits, offer_some, refilled, some_at_least}
use Rattle.cdg_io.proofs.whole.read_on.Goals as goal

pub slice_bounds-chunk-end : goal.slice_bounds-chunk-end
slice_bounds-chunk-end g c =
    offer_fits _ _ c.loop-count.chunk c.min-offered.ensures c.loop-count.invariant.size

pub slice_bounds-take-end : goal.slice_bounds-take-end
slice_bounds-take-end g c =
    sym (length-take-le (c.min-offered.result + 1) c.loop-count.chunk
    (offer_fits _ _ c.loop-count.chunk c.min-offered.ensures c.loop-count.invariant.size))

pub take-requires : goal.take-requires
take-requires g c = offer_some _ _ c.loop-count.chunk c.min-offered.ensures c.loop-count.invariant.size

pub returns-in-Ok-clause-too_long : goal.returns-in-Ok-clause-too_long
returns-in-Ok-clause-too_long g c = λ _.
    let (xs, count, taken) = c.loop-count.invariant.taken in
    let more = take c.in-Ok.count c.take.new.buf in
    let bound : c.in-Ok.count ≤ length c.take.new.buf = c.in-Ok.ensures.bound.0 in
    let size : length more ≡ c.in-Ok.count = omega (arith, length-take c.in-Ok.count c.take.new.buf, bound) in
    let room : length c.take.new.buf ≤ c.loop-count.room + 1 = omega (
      arith,
      c.take.auto.buf,
      length-take (c.min-offered.result + 1) c.loop-count.chunk,
      c.min-offered.ensures,
    ) in (
      xs ++ more,
      omega (arith, length-append xs more, size, count, room, bound, c.if-count-room.true),
      Consumes-trans _ _ _ _ _ taken c.in-Ok.ensures.bytes.0,
    )

pub loop-count-preserved : goal.loop-count-preserved
loop-count-preserved g c =
    let before = c.loop-count.invariant in
    let (xs, count, taken) = before.taken in
    let more = take c.in-Ok.count c.take.new.buf in
    let bound : c.in-Ok.count ≤ length c.take.new.buf = c.in-Ok.ensures.bound.0 in
    let size : length more ≡ c.in-Ok.count = omega (arith, length-take c.in-Ok.count c.take.new.buf, bound) in
    record {
      size =
          refilled c.take.new.buf c.loop-count.chunk _ _ c.min-offered.ensures before.size c.take.auto.buf;
      taken = (
        xs ++ more,
        omega (arith, length-append xs more, size, count, c.if-count-room.false),
        Consumes-trans _ _ _ _ _ taken c.in-Ok.ensures.bytes.0,
      );
      reported = c.in-Ok.ensures.counts.end.goes_on (some_at_least c.in-Ok.count-test.1) ∙ before.reported;
      same = c.in-Ok.ensures.cause.same ∙ before.same;
    }

pub returns-in-Ok-eq0-clause-no_memory : goal.returns-in-Ok-eq0-clause-no_memory
returns-in-Ok-eq0-clause-no_memory g c = λ _.
    let before = c.loop-count.invariant in
    let (xs, count, taken) = before.taken in
    let zero = c.in-Ok-eq0.field-0-test in
    let some : 0 < length c.take.new.buf = omega (
      arith,
      c.take.auto.buf,
      length-take (c.min-offered.result + 1) c.loop-count.chunk,
      before.size,
      c.min-offered.ensures,
    ) in
    record {
      taken = xs;
      within = omega (arith, count);
      took = Consumes-still _ _ _ _ _ _ zero taken c.in-Ok-eq0.ensures.bytes.0;
      end = c.in-Ok-eq0.ensures.bytes.1 zero some;
    }

pub returns-in-Ok-eq0-clause-reported : goal.returns-in-Ok-eq0-clause-reported
returns-in-Ok-eq0-clause-reported g c =
    rose_once_since c.loop-count.invariant.reported
    (c.in-Ok-eq0.ensures.counts.end.ended (none_below c.in-Ok-eq0.field-0-test))

pub returns-in-Ok-clause-reported : goal.returns-in-Ok-clause-reported
returns-in-Ok-clause-reported g c =
    c.in-Ok.ensures.counts.end.goes_on (some_at_least c.in-Ok.count-test.1) ∙ c.loop-count.invariant.reported

pub returns-in-Err-clause-reported : goal.returns-in-Err-clause-reported
returns-in-Err-clause-reported g c = c.in-Err.ensures.counts.end.failed ∙ c.loop-count.invariant.reported

pub returns-in-Err-clause-cut : goal.returns-in-Err-clause-cut
returns-in-Err-clause-cut g c = λ _.
    let (xs, count, taken) = c.loop-count.invariant.taken in
    record {
      last = c.loop-count.source;
      taken = xs;
      within = omega (arith, count);
      took = taken;
      quiet = c.loop-count.invariant.same;
      nothing = c.in-Err.ensures.bytes;
    }

pub returns-in-Err-clause-no_memory : goal.returns-in-Err-clause-no_memory
returns-in-Err-clause-no_memory g c = λ e. cc

pub returns-in-Err-clause-too_long : goal.returns-in-Err-clause-too_long
returns-in-Err-clause-too_long g c = λ e. cc

pub returns-in-Ok-clause-no_memory : goal.returns-in-Ok-clause-no_memory
returns-in-Ok-clause-no_memory g c = λ e. cc

pub returns-in-Ok-clause-cut : goal.returns-in-Ok-clause-cut
returns-in-Ok-clause-cut g c = λ e. cc

pub returns-in-Ok-eq0-clause-too_long : goal.returns-in-Ok-eq0-clause-too_long
returns-in-Ok-eq0-clause-too_long g c = λ e. cc

pub returns-in-Ok-eq0-clause-cut : goal.returns-in-Ok-eq0-clause-cut
returns-in-Ok-eq0-clause-cut g c = λ e. cc
