use Rattle.std.proofs.Common.{ap, sym, ◌∙◌, arith, length}
use Rattle.toc_model.specs.Places.{DiscLayout, TrackPlace}
use Rattle.toc_model.proofs.Entries.{track_entry_at, first_entry_at, last_entry_at, lead_out_entry_at}
use Rattle.toc_model.proofs.layout.Layout.entry.Goals as goal

pub returns-then-k-count-clause-entry : goal.returns-then-k-count-clause-entry
returns-then-k-count-clause-entry c =
    track_entry_at c.args.self.now c.self.inside.tracks.items c.args.k c.index-track.result.now
    c.track.inside.control c.track.inside.number c.of_block-start.result _
    (ap (λ (l : DiscLayout). l.tracks) (sym c.self.view_is)) (omega arith) c.index-track.ensures
    (ap (λ (p : TrackPlace). p.control) c.track.view_is) (ap (λ (p : TrackPlace). p.number) c.track.view_is)
    (c.of_block-start.ensures ∙ c.music_begin.ensures.block)

pub returns-in-0-clause-entry : goal.returns-in-0-clause-entry
returns-in-0-clause-entry c =
    first_entry_at c.args.self.now c.self.inside.tracks.items c.args.k c.len-count.result
    c.index-first.result.now c.first.inside.control c.first.inside.number _
    (ap (λ (l : DiscLayout). l.tracks) (sym c.self.view_is)) (omega arith) c.self.invariant.count.0
    (c.if-k-count.false, c.in-0.is) c.index-first.ensures
    (ap (λ (p : TrackPlace). p.control) c.first.view_is) (ap (λ (p : TrackPlace). p.number) c.first.view_is)

pub returns-in-1-clause-entry : goal.returns-in-1-clause-entry
returns-in-1-clause-entry c =
    last_entry_at c.args.self.now c.self.inside.tracks.items c.args.k c.len-count.result
    c.index-last.result.now c.last.inside.control c.last.inside.number _
    (ap (λ (l : DiscLayout). l.tracks) (sym c.self.view_is)) (omega arith) c.self.invariant.count.0
    (c.if-k-count.false, c.in-1.is) c.index-last.ensures
    (ap (λ (p : TrackPlace). p.control) c.last.view_is) (ap (λ (p : TrackPlace). p.number) c.last.view_is)

pub returns-in_default-clause-entry : goal.returns-in_default-clause-entry
returns-in_default-clause-entry c =
    lead_out_entry_at c.args.self.now c.self.inside.tracks.items c.args.k c.len-count.result
    c.index-last.result.now c.last.inside.control c.of_block-start-in_default.result _
    (ap (λ (l : DiscLayout). l.tracks) (sym c.self.view_is)) (omega arith) c.self.invariant.count.0
    (omega (arith, ap (λ (l : DiscLayout). length l.tracks) c.self.view_is)) c.index-last.ensures
    (ap (λ (p : TrackPlace). p.control) c.last.view_is)
    (c.of_block-start-in_default.ensures ∙ ap (λ (l : DiscLayout). l.blocks) c.self.view_is)
