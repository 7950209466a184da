use Rattle.std.proofs.Common.{ap, sym}
use Rattle.toc_model.specs.Places.{TrackPlace}
use Rattle.toc_model.proofs.Lines.{music_of}
use Rattle.toc_model.proofs.place.Place.music_begin.Goals as goal

pub returns-clause-block : goal.returns-clause-block
returns-clause-block c =
    music_of c.args.self.now c.self.inside.lines.items c.from-one.result c.index.result.now
    c.index-2.result.now
    (ap (λ (p : TrackPlace). p.lines) (sym c.self.view_is)) c.self.invariant.lines c.index.ensures
    c.from-one.ensures c.index-2.ensures
