use Rattle.std.proofs.Common.{◌≡◌, ◌∙◌, ◌+◌, ◌-◌, ℕ, flat_map, take, sym, subst, ap, arith}
use Rattle.std.specs.Io.KnownBytes.{Appends}
use Rattle.std.proofs.KnownBytes.{Appends-nil}
use Rattle.cdg_io.specs.Moves.{AppendsPrefix}
use Rattle.cdtext_packs.specs.TextLines.{text_line, tracks_of, kind_lines}
use Rattle.cdtext_packs.proofs.Pieces.{on_err, part_of_all, piece_more, all_put}
use Rattle.cdtext_packs.proofs.TextLines.{album_at, track_at, length-tracks_of}
use Rattle.cdtext_packs.proofs.text.write_kind.Goals as goal

pub returns-in_err-write_line-clause-part : goal.returns-in_err-write_line-clause-part
unfolding kind_lines
returns-in_err-write_line-clause-part g c =
    let texts = c.args.map.now in
    let size = length-tracks_of texts in
    on_err c.from_residual.result _ (part_of_all (g.K.Sink.held c.args.out.now) (g.K.Sink.held c.args.out.now)
    (g.K.Sink.held c.write_line.new.out) (text_line texts c.args.kind) (tracks_of texts) 0 0 (omega arith)
    (Appends-nil (g.K.Sink.held c.args.out.now))
    (subst (AppendsPrefix (g.K.Sink.held c.args.out.now) (g.K.Sink.held c.write_line.new.out))
    (ap (text_line texts c.args.kind) (sym (album_at texts))) c.in_err-write_line.ensures.part))

pub loop-track-init : goal.loop-track-init
loop-track-init g c =
    let texts = c.args.map.now in
    let first = c.first-track.ensures.number in
    let size = length-tracks_of texts in
    let none : 0 + 1 ≡ c.first-track.result - texts.first + 1 = omega arith in
    record {
      put =
          subst (λ (n : ℕ). Appends (g.K.Sink.held c.args.out.now) (g.K.Sink.held c.write_line.new.out)
          (flat_map (text_line texts c.args.kind) (take n (tracks_of texts)))) none
          (piece_more (g.K.Sink.held c.args.out.now) (g.K.Sink.held c.args.out.now)
          (g.K.Sink.held c.write_line.new.out) (text_line texts c.args.kind) (tracks_of texts) 0 0
          (omega arith) (Appends-nil (g.K.Sink.held c.args.out.now))
          (subst (Appends (g.K.Sink.held c.args.out.now) (g.K.Sink.held c.write_line.new.out))
          (ap (text_line texts c.args.kind) (sym (album_at texts))) c.in_ok-write_line.ensures.ok));
      same = c.in_ok-write_line.ensures.cause.same;
    }

pub returns-in_err-write_line-2-clause-part : goal.returns-in_err-write_line-2-clause-part
unfolding kind_lines
returns-in_err-write_line-2-clause-part g c =
    let texts = c.args.map.now in
    let first = c.first-track.ensures.number in
    let last = c.last-track-end.ensures.number in
    let size = length-tracks_of texts in
    let at = track_at texts c.loop-track.track (omega arith) (omega arith) in
    on_err c.from_residual-in_err-write_line-2.result _ (part_of_all (g.K.Sink.held c.args.out.now)
    (g.K.Sink.held c.loop-track.out) (g.K.Sink.held c.write_line-in-loop-track.new.out)
    (text_line texts c.args.kind) (tracks_of texts) (c.loop-track.track - texts.first + 1) 0 (omega arith)
    c.loop-track.invariant.put
    (subst (AppendsPrefix (g.K.Sink.held c.loop-track.out) (g.K.Sink.held c.write_line-in-loop-track.new.out))
    (ap (text_line texts c.args.kind) (sym at)) c.in_err-write_line-2.ensures.part))

pub loop-track-preserved : goal.loop-track-preserved
loop-track-preserved g c =
    let texts = c.args.map.now in
    let first = c.first-track.ensures.number in
    let last = c.last-track-end.ensures.number in
    let size = length-tracks_of texts in
    let at = track_at texts c.loop-track.track (omega arith) (omega arith) in
    let more : c.loop-track.track - texts.first + 1 + 1 ≡ c.loop-track.track + 1 - texts.first + 1 =
    omega arith in
    record {
      put =
          subst (λ (n : ℕ). Appends (g.K.Sink.held c.args.out.now)
          (g.K.Sink.held c.write_line-in-loop-track.new.out)
          (flat_map (text_line texts c.args.kind) (take n (tracks_of texts)))) more
          (piece_more (g.K.Sink.held c.args.out.now) (g.K.Sink.held c.loop-track.out)
          (g.K.Sink.held c.write_line-in-loop-track.new.out) (text_line texts c.args.kind) (tracks_of texts)
          (c.loop-track.track - texts.first + 1) 0 (omega arith) c.loop-track.invariant.put
          (subst (Appends (g.K.Sink.held c.loop-track.out) (g.K.Sink.held c.write_line-in-loop-track.new.out))
          (ap (text_line texts c.args.kind) (sym at)) c.in_ok-write_line-2.ensures.ok));
      same = c.in_ok-write_line-2.ensures.cause.same ∙ c.loop-track.invariant.same;
    }

pub returns-in_ok-write_line-2-clause-ok : goal.returns-in_ok-write_line-2-clause-ok
unfolding kind_lines
returns-in_ok-write_line-2-clause-ok g c =
    let texts = c.args.map.now in
    let first = c.first-track.ensures.number in
    let last = c.last-track-end.ensures.number in
    let size = length-tracks_of texts in
    let at = track_at texts c.loop-track.track (omega arith) (omega arith) in
    all_put (g.K.Sink.held c.args.out.now) (g.K.Sink.held c.write_line-in-loop-track.new.out)
    (text_line texts c.args.kind) (tracks_of texts) (c.loop-track.track - texts.first + 1 + 1) (omega arith)
    (piece_more (g.K.Sink.held c.args.out.now) (g.K.Sink.held c.loop-track.out)
    (g.K.Sink.held c.write_line-in-loop-track.new.out) (text_line texts c.args.kind) (tracks_of texts)
    (c.loop-track.track - texts.first + 1) 0 (omega arith) c.loop-track.invariant.put
    (subst (Appends (g.K.Sink.held c.loop-track.out) (g.K.Sink.held c.write_line-in-loop-track.new.out))
    (ap (text_line texts c.args.kind) (sym at)) c.in_ok-write_line-2.ensures.ok))
