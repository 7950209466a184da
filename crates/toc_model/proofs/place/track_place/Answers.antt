use Rattle.std.proofs.Common.{arith, ap, sym, ◌∙◌, ◌≡◌, ◌<◌, ◌≤◌, ◌+◌, ◌++◌, ◌∷◌, [], ℕ, List, length, slice_index_or, take, subst}
use Rattle.std.specs.Prelude.{map}
use Rattle.std.proofs.lemmas.List.{map_more, take_all}
use Rattle.std.proofs.lemmas.Result.{IfOk-from_err}
use Rattle.cue_sheet.specs.CueSheet.{track_of}
use Rattle.toc_model.specs.Places.{TrackPlace, blocks_before, place_of, track_begin}
use Rattle.toc_model.specs.Layout.{IsPlace}
use Rattle.toc_model.proofs.Codes.{code_parts, copied_array, copied_none}
use Rattle.toc_model.proofs.Gaps.{pregaps_to-more}
use Rattle.toc_model.proofs.SheetPlaces.{IsPlace-of, begin_after_gaps, begin_at_start, same_place}
use Rattle.toc_model.proofs.place.track_place.Goals as goal
use Rattle.toc_model.proofs.place.track_place.Goals.{After-control, in-Some, in-None, then-k-eq0, else-k-eq0}

same : (c : After-control)
    → (let place : TrackPlace = record {
      number = c.first.result + c.args.k;
      control = c.control.result;
      isrc = c.match-isrc.isrc;
      begin = c.if-k-eq0.begin;
      lines = c.loop-j.lines.items;
    } in
    place)
    ≡ place_of c.args.sheet.now c.args.k
same c =
    let sheet = c.args.sheet.now in
    let k = c.args.k in
    let number : c.first.result + c.args.k ≡ (track_of c.args.sheet.now c.args.k).number =
    omega (arith, c.first.ensures.number, c.tracks_are_in_order.ensures.next k c.requires.track) in
    let isrc : c.match-isrc.isrc ≡ (track_of c.args.sheet.now c.args.k).isrc =
    elim c.match-isrc.branch [
      | in-Some w ↦
          copied_array c.isrc.result w.in-Some.code w.as_array.result _ _ 12 c.isrc.ensures.code w.in-Some.is
          (code_parts w.in-Some.code.now w.in-Some.ensures.characters).0 w.as_array.ensures.cases
          (w.isrc-is ∙ w.copied-isrc.ensures)
      | in-None w ↦ copied_none c.isrc.result _ _ c.isrc.ensures.code w.in-None.is w.isrc-is
    ] in
    let begin : c.if-k-eq0.begin ≡ track_begin c.args.sheet.now c.args.k =
    elim c.if-k-eq0.branch [
      | then-k-eq0 w ↦ begin_at_start c.args.sheet.now c.args.k _ w.if-k-eq0.true w.begin-is
      | else-k-eq0 w ↦
          begin_after_gaps c.args.sheet.now c.args.k _ c.args.gaps w.index.result.1 w.if-k-eq0.false
          c.requires.gaps (ap (λ (l : ℕ × ℕ). l.1) w.index.ensures.line) w.begin-is
    ] in
    let before : 150 + c.args.gaps + c.pregap.result ≡ blocks_before c.args.sheet.now c.args.k =
    omega (arith, pregaps_to-more sheet k c.requires.track, c.requires.gaps, c.pregap.ensures.gap) in
    let whole : length (track_of c.args.sheet.now c.args.k).indices ≤ c.loop-j.j =
    omega (arith, c.indices-count.ensures.count) in
    same_place sheet k _ c.control.result c.match-isrc.isrc c.if-k-eq0.begin c.loop-j.lines.items
    number c.control.ensures.control isrc begin
    (c.loop-j.invariant
    ∙ (ap
    (λ (lines : List (ℕ × ℕ)).
    map (λ (line : ℕ × ℕ). (line.0, 150 + c.args.gaps + c.pregap.result + line.1)) lines)
    (take_all c.loop-j.j (track_of c.args.sheet.now c.args.k).indices whole)
    ∙ ap
    (λ (b : ℕ). map (λ (line : ℕ × ℕ). (line.0, b + line.1)) (track_of c.args.sheet.now c.args.k).indices)
    before))

pub returns : goal.returns
returns c = same c

pub invariant_of-result : goal.invariant_of-result
invariant_of-result c =
    subst IsPlace (sym (same c))
    (IsPlace-of c.args.sheet.now c.args.k c.tracks_are_in_order.ensures c.requires.track c.requires.fits)

pub isrc-requires : goal.isrc-requires
isrc-requires c = c.requires.track

pub pregap-requires : goal.pregap-requires
pregap-requires c = c.requires.track

pub indices-count-requires : goal.indices-count-requires
indices-count-requires c = c.requires.track

pub control-requires : goal.control-requires
control-requires c = c.requires.track

pub index-requires-clause-track : goal.index-requires-clause-track
index-requires-clause-track c = c.requires.track

pub index-number-requires-clause-track : goal.index-number-requires-clause-track
index-number-requires-clause-track c = c.requires.track

pub index-number-requires-clause-line : goal.index-number-requires-clause-line
index-number-requires-clause-line c = omega (arith, c.loop-j-test.true, c.indices-count.ensures.count)

pub returns-in_err-lines : goal.returns-in_err-lines
returns-in_err-lines c = IfOk-from_err c.from_residual.result _ c.from_residual.ensures.0

pub returns-in_err-push : goal.returns-in_err-push
returns-in_err-push c =
    IfOk-from_err c.from_residual-in_err-push.result _ c.from_residual-in_err-push.ensures.0

pub loop-j-init : goal.loop-j-init
loop-j-init c = c.in_ok-lines.ensures.items

pub overflow_add-before : goal.overflow_add-before
overflow_add-before c = omega (arith, c.requires.small)

pub overflow_add-before-2 : goal.overflow_add-before-2
overflow_add-before-2 c = omega (arith, c.requires.small, c.pregap.ensures.bound)

pub overflow_add-before-in-loop-j : goal.overflow_add-before-in-loop-j
overflow_add-before-in-loop-j c =
    omega (arith, c.requires.small, c.pregap.ensures.bound, c.index-number.ensures.bound.1)

pub overflow_cast-result : goal.overflow_cast-result
overflow_cast-result c =
    omega (
      arith,
      c.tracks_are_in_order.ensures.next c.args.k c.requires.track,
      (c.tracks_are_in_order.ensures.tracks c.args.k c.requires.track).number,
    )

pub overflow_add-result : goal.overflow_add-result
overflow_add-result c =
    omega (
      arith,
      c.first.ensures.number,
      c.tracks_are_in_order.ensures.next c.args.k c.requires.track,
      (c.tracks_are_in_order.ensures.tracks c.args.k c.requires.track).number,
    )

-- one more line
line_more : (f : ℕ × ℕ → ℕ × ℕ) (lines : List (ℕ × ℕ)) (j : ℕ) (line : ℕ × ℕ) → j < length lines
    → line ≡ slice_index_or lines j (0, 0)
    → map f (take j lines) ++ f line ∷ [] ≡ map f (take (j + 1) lines)
line_more f lines j line below is =
    ap (λ (l : ℕ × ℕ). map f (take j lines) ++ f l ∷ []) is
    ∙ sym (map_more f lines j (0, 0) below)

pub loop-j-preserved : goal.loop-j-preserved
loop-j-preserved c =
    let f : ℕ × ℕ → ℕ × ℕ = λ line. (line.0, 150 + c.args.gaps + c.pregap.result + line.1) in
    c.in_ok-push.ensures.items
    ∙ ap (λ (lines : List (ℕ × ℕ)). lines ++ f c.index-number.result ∷ []) c.loop-j.invariant
    ∙ line_more f (track_of c.args.sheet.now c.args.k).indices c.loop-j.j c.index-number.result
    (omega (arith, c.loop-j-test.true, c.indices-count.ensures.count)) c.index-number.ensures.line
