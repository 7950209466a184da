use Rattle.std.proofs.Common.{ap, sym, rules, tests, ◌≡◌, true, false}
use Rattle.std.specs.Prelude.{nat_le}
use Rattle.std.specs.List.Sorted.{IsPartitionPoint}
use Rattle.std.proofs.lemmas.List.Sorted.{IsPartitionPoint-from_clause, IsPartitionedBy-leb}
use Rattle.toc_model.specs.Places.{TrackPlace, DiscLayout}
use Rattle.toc_model.specs.Layout.{music_begin}
use Rattle.toc_model.proofs.Tracks.{no_pause, next_pause_begun}
use Rattle.toc_model.proofs.layout.Layout.p_bit.Goals as goal

pub returns : goal.returns
returns c =
    let same = c.deref.ensures.value in
    let same_again = c.deref-2.ensures.value in
    let point : IsPartitionPoint (λ (p : TrackPlace). nat_le (music_begin p) c.args.block ≡ true)
    (λ (p : TrackPlace). nat_le (music_begin p) c.args.block ≡ false) c.deref.result.now
    c.partition_point-past.result =
    IsPartitionPoint-from_clause (λ (p : TrackPlace). nat_le (music_begin p) c.args.block) c.deref.result.now
    c.partition_point-past.result c.partition_point-past.ensures.partitioned
    (rw same (IsPartitionedBy-leb music_begin c.self.inside.tracks.items c.args.block c.self.invariant.music))
    (λ a r f k. search (rules, tests)) in
    next_pause_begun c.args.self.now c.self.inside.tracks.items c.args.block c.partition_point-past.result
    c.in-Some.next.now c.music_begin-music.result c.next.inside.begin c.max-pause.result
    (ap (λ (l : DiscLayout). l.tracks) (sym c.self.view_is)) (rw same at point) c.self.invariant.begins
    c.self.invariant.music
    (rw same_again at c.in-Some.ensures.lookup.3.0) (rw same_again at c.in-Some.ensures.lookup.1)
    c.music_begin-music.ensures.block (ap (λ (p : TrackPlace). p.begin) c.next.view_is) c.max-pause.ensures

pub returns-in_default : goal.returns-in_default
returns-in_default c =
    let same = c.deref.ensures.value in
    let same_again = c.deref-2.ensures.value in
    let point : IsPartitionPoint (λ (p : TrackPlace). nat_le (music_begin p) c.args.block ≡ true)
    (λ (p : TrackPlace). nat_le (music_begin p) c.args.block ≡ false) c.deref.result.now
    c.partition_point-past.result =
    IsPartitionPoint-from_clause (λ (p : TrackPlace). nat_le (music_begin p) c.args.block) c.deref.result.now
    c.partition_point-past.result c.partition_point-past.ensures.partitioned
    (rw same (IsPartitionedBy-leb music_begin c.self.inside.tracks.items c.args.block c.self.invariant.music))
    (λ a r f k. search (rules, tests)) in
    no_pause c.args.self.now c.self.inside.tracks.items c.args.block c.partition_point-past.result
    (ap (λ (l : DiscLayout). l.tracks) (sym c.self.view_is)) (rw same at point)
    (rw same_again at c.in_default.ensures.lookup.3)
