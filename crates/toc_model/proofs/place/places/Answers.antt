use Rattle.std.proofs.Common.{arith, ap, ◌+◌, List, sym, ◌∙◌, ◌++◌, ◌∷◌, [], length, ◌<◌}
use Rattle.std.specs.Prelude.{map}
use Rattle.std.proofs.lemmas.Result.{IfOk-from_err}
use Rattle.bit_lists.specs.Counting.{below}
use Rattle.toc_model.specs.Places.{TrackPlace, place_of}
use Rattle.toc_model.proofs.Gaps.{pregaps_to-zero, postgaps_to-zero, pregaps_to-more, postgaps_to-more, pregaps_to-le, postgaps_to-le}
use Rattle.toc_model.proofs.SheetPlaces.{one_more_place}
use Rattle.toc_model.proofs.place.places.Goals as goal

pub loop-k-init : goal.loop-k-init
loop-k-init c = record {
  places = c.in_ok-places.ensures.items;
  gaps = omega (arith, pregaps_to-zero c.args.sheet.now, postgaps_to-zero c.args.sheet.now);
  small = omega arith;
}

pub loop-k-preserved : goal.loop-k-preserved
loop-k-preserved c =
    let sheet = c.args.sheet.now in
    let k = c.loop-k.k in
    let lt : c.loop-k.k < length c.args.sheet.now.tracks = omega arith in
    record {
      places =
          c.in_ok-push.ensures.items
          ∙ (ap (λ (ps : List TrackPlace). ps ++ c.in_ok-track_place.field-0 ∷ []) c.loop-k.invariant.places
          ∙ (ap (λ (p : TrackPlace). map (place_of c.args.sheet.now) (below c.loop-k.k) ++ p ∷ [])
          c.in_ok-track_place.ensures
          ∙ sym (one_more_place c.args.sheet.now c.loop-k.k)));
      gaps = omega (arith, pregaps_to-more sheet k lt, postgaps_to-more sheet k lt, c.loop-k.invariant.gaps);
      small = omega (
        arith,
        pregaps_to-more sheet k lt,
        postgaps_to-more sheet k lt,
        c.loop-k.invariant.gaps,
        pregaps_to-le sheet (k + 1) (length sheet.tracks) (omega arith),
        postgaps_to-le sheet (k + 1) (length sheet.tracks) (omega arith),
        c.requires.fits,
      );
    }

pub pregap-requires : goal.pregap-requires
pregap-requires c = omega arith

pub postgap-requires : goal.postgap-requires
postgap-requires c = omega arith

pub track_place-requires-clause-track : goal.track_place-requires-clause-track
track_place-requires-clause-track c = omega arith

pub track_place-requires-clause-gaps : goal.track_place-requires-clause-gaps
track_place-requires-clause-gaps c = c.loop-k.invariant.gaps

pub track_place-requires-clause-fits : goal.track_place-requires-clause-fits
track_place-requires-clause-fits c = c.requires.fits

pub track_place-requires-clause-small : goal.track_place-requires-clause-small
track_place-requires-clause-small c = c.loop-k.invariant.small

pub returns-in_err-places : goal.returns-in_err-places
returns-in_err-places c = IfOk-from_err c.from_residual.result _ c.from_residual.ensures.0

pub returns-in_err-track_place : goal.returns-in_err-track_place
returns-in_err-track_place c =
    IfOk-from_err c.from_residual-in_err-track_place.result _ c.from_residual-in_err-track_place.ensures.0

pub returns-in_err-push : goal.returns-in_err-push
returns-in_err-push c =
    IfOk-from_err c.from_residual-in_err-push.result _ c.from_residual-in_err-push.ensures.0
