use Rattle.std.proofs.Common.{ap, sym, arith, List, length, ◌∙◌, rules, tests, ◌≡◌, true, false}
use Rattle.std.specs.Prelude.{nat_le}
use Rattle.std.specs.List.Sorted.{IsPartitionPoint}
use Rattle.std.proofs.lemmas.List.Sorted.{IsPartitionPoint-from_clause, IsPartitionedBy-leb}
use Rattle.toc_model.specs.Places.{TrackPlace, DiscLayout}
use Rattle.disc_time.specs.Time.{frame_of}
use Rattle.toc_model.proofs.Codes.{code_parts, number_parts}
use Rattle.toc_model.proofs.Frames.{frame_of_number, frame_of_code, time_without_number, time_in_pause, time_without_code, time_otherwise}
use Rattle.toc_model.proofs.Tracks.{some_begun, track_found}
use Rattle.toc_model.proofs.layout.Layout.program_frame.Goals as goal
use Rattle.toc_model.proofs.layout.Layout.program_frame.Goals.{in_default-via-in-49+in_default, in_default-via-in-99-default-Some+else-index_at-ne0, in_default-via-in-99+in_default, in_default-via-in_default}

pub overflow_sub-begun : goal.overflow_sub-begun
overflow_sub-begun c =
    let same = c.deref.ensures.value in
    let point : IsPartitionPoint (λ (p : TrackPlace). nat_le p.begin c.args.block ≡ true)
    (λ (p : TrackPlace). nat_le p.begin c.args.block ≡ false) c.deref.result.now
    c.partition_point-begun.result =
    IsPartitionPoint-from_clause (λ (p : TrackPlace). nat_le p.begin c.args.block) c.deref.result.now
    c.partition_point-begun.result c.partition_point-begun.ensures.partitioned
    (rw same (IsPartitionedBy-leb (λ (p : TrackPlace). p.begin) c.self.inside.tracks.items c.args.block
    c.self.invariant.begins)) (λ a r f k. search (rules, tests)) in
    some_begun c.self.inside.tracks.items c.args.block c.partition_point-begun.result (rw same at point)
    c.self.invariant.count.0 c.self.invariant.first

pub returns-in-49-Some-default-clause-frame : goal.returns-in-49-Some-default-clause-frame
returns-in-49-Some-default-clause-frame c =
    let place =
    track_found c.args.self.now c.self.inside.tracks.items c.deref.result.now c.args.block
    c.partition_point-begun.result c.index-place.result.now
    (ap (λ (l : DiscLayout). l.tracks) (sym c.self.view_is)) c.deref.ensures.value
    (IsPartitionPoint-from_clause (λ (p : TrackPlace). nat_le p.begin c.args.block) c.deref.result.now
    c.partition_point-begun.result c.partition_point-begun.ensures.partitioned
    (rw c.deref.ensures.value (IsPartitionedBy-leb (λ (p : TrackPlace). p.begin) c.self.inside.tracks.items
    c.args.block c.self.invariant.begins)) (λ a r f k. search (rules, tests)))
    c.self.invariant.count.0 c.self.invariant.first c.partition_point-begun.ensures.bound
    c.index-place.ensures in
    frame_of_number c.args.self.now c.args.block c.index-place.result.now _ c.in-49-Some-default.digits _
    place
    c.in-49-Some-default.is-0
    (ap (λ (l : DiscLayout). l.catalogue) (sym c.self.view_is) ∙ c.in-49-Some-default.is-1)
    (ap (λ (p : TrackPlace). p.control) c.place.view_is)
    (c.frame.ensures.part ∙ ap frame_of c.of_block.ensures)

pub returns-in-99-default-Some-clause-frame : goal.returns-in-99-default-Some-clause-frame
returns-in-99-default-Some-clause-frame c =
    let place =
    track_found c.args.self.now c.self.inside.tracks.items c.deref.result.now c.args.block
    c.partition_point-begun.result c.index-place.result.now
    (ap (λ (l : DiscLayout). l.tracks) (sym c.self.view_is)) c.deref.ensures.value
    (IsPartitionPoint-from_clause (λ (p : TrackPlace). nat_le p.begin c.args.block) c.deref.result.now
    c.partition_point-begun.result c.partition_point-begun.ensures.partitioned
    (rw c.deref.ensures.value (IsPartitionedBy-leb (λ (p : TrackPlace). p.begin) c.self.inside.tracks.items
    c.args.block c.self.invariant.begins)) (λ a r f k. search (rules, tests)))
    c.self.invariant.count.0 c.self.invariant.first c.partition_point-begun.ensures.bound
    c.index-place.ensures in
    frame_of_code c.args.self.now c.args.block c.index-place.result.now _ c.in-99-default-Some.code _ place
    c.in-99-default-Some.is-0
    (ap (λ (p : TrackPlace). p.isrc) (sym c.place.view_is) ∙ c.in-99-default-Some.is-2)
    (λ zero. c.if-index_at-ne0.true (c.index_at.ensures.index ∙ zero))
    (ap (λ (p : TrackPlace). p.control) c.place.view_is)
    (c.frame-in-99-default-Some.ensures.part ∙ ap frame_of c.of_block-in-99-default-Some.ensures)

pub returns-in-99-default-Some-clause-valid : goal.returns-in-99-default-Some-clause-valid
returns-in-99-default-Some-clause-valid c =
    let p = code_parts c.in-99-default-Some.code
    (c.place.invariant.isrc c.in-99-default-Some.code c.in-99-default-Some.is-2) in
    (c.place.invariant.control, p.0, p.1, p.2, p.3, c.frame-in-99-default-Some.ensures.bound)

pub returns-in_default-clause-frame : goal.returns-in_default-clause-frame
returns-in_default-clause-frame c =
    let place =
    track_found c.args.self.now c.self.inside.tracks.items c.deref.result.now c.args.block
    c.partition_point-begun.result c.index-place.result.now
    (ap (λ (l : DiscLayout). l.tracks) (sym c.self.view_is)) c.deref.ensures.value
    (IsPartitionPoint-from_clause (λ (p : TrackPlace). nat_le p.begin c.args.block) c.deref.result.now
    c.partition_point-begun.result c.partition_point-begun.ensures.partitioned
    (rw c.deref.ensures.value (IsPartitionedBy-leb (λ (p : TrackPlace). p.begin) c.self.inside.tracks.items
    c.args.block c.self.invariant.begins)) (λ a r f k. search (rules, tests)))
    c.self.invariant.count.0 c.self.invariant.first c.partition_point-begun.ensures.bound
    c.index-place.ensures in
    c.time_frame.ensures.frame
    ∙ elim c.in_default.branch [
      | in_default-via-in-49+in_default w ↦
          time_without_number c.args.self.now c.args.block c.index-place.result.now place w.in_default.is-0
          (ap (λ (l : DiscLayout). l.catalogue) (sym c.self.view_is) ∙ w.in_default.is-1)
      | in_default-via-in-99-default-Some+else-index_at-ne0 w ↦
          time_in_pause c.args.self.now c.args.block c.index-place.result.now w.in-99-default-Some.code place
          w.in-99-default-Some.is-0
          (ap (λ (p : TrackPlace). p.isrc) (sym c.place.view_is) ∙ w.in-99-default-Some.is-2)
          (sym w.index_at.ensures.index ∙ w.if-index_at-ne0.false)
      | in_default-via-in-99+in_default w ↦
          time_without_code c.args.self.now c.args.block c.index-place.result.now place w.in_default.is-0
          (ap (λ (p : TrackPlace). p.isrc) (sym c.place.view_is) ∙ w.in_default.is-2)
      | in_default-via-in_default w ↦
          time_otherwise c.args.self.now c.args.block c.index-place.result.now place w.in_default.is-0.0.1
          w.in_default.is-0.1
    ]

pub returns-in_default-clause-valid : goal.returns-in_default-clause-valid
returns-in_default-clause-valid c = c.time_frame.ensures.valid

pub index-place-requires : goal.index-place-requires
index-place-requires c =
    omega (
      arith,
      c.partition_point-begun.ensures.bound,
      ap (λ (ts : List TrackPlace). length ts) c.deref.ensures.value,
      c.self.invariant.count.0,
    )

pub time_frame-requires : goal.time_frame-requires
time_frame-requires c =
    omega (
      arith,
      c.requires,
      c.self.invariant.blocks,
      ap (λ (l : DiscLayout). l.blocks) c.self.view_is,
    )

pub of_block-requires : goal.of_block-requires
of_block-requires c =
    omega (
      arith,
      c.requires,
      c.self.invariant.blocks,
      ap (λ (l : DiscLayout). l.blocks) c.self.view_is,
    )

pub of_block-requires-in-99-default-Some : goal.of_block-requires-in-99-default-Some
of_block-requires-in-99-default-Some c =
    omega (
      arith,
      c.requires,
      c.self.invariant.blocks,
      ap (λ (l : DiscLayout). l.blocks) c.self.view_is,
    )

pub returns-in-49-Some-default-clause-valid : goal.returns-in-49-Some-default-clause-valid
returns-in-49-Some-default-clause-valid c =
    let parts = number_parts c.in-49-Some-default.digits
    (c.self.invariant.catalogue c.in-49-Some-default.digits c.in-49-Some-default.is-1) in
    (c.place.invariant.control, parts.0, parts.1, c.frame.ensures.bound)
