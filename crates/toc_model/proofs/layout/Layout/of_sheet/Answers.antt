use Rattle.std.proofs.Common.{arith, sym, ◌≡◌, ◌+◌, ◌∙◌, subst}
use Rattle.disc_time.specs.Counts.{pause_blocks}
use Rattle.toc_model.specs.Places.{DiscLayout, layout_of, program_blocks}
use Rattle.toc_model.specs.Layout.{IsLayout}
use Rattle.toc_model.proofs.Codes.{copied_array, copied_none, number_length}
use Rattle.toc_model.proofs.SheetPlaces.{IsLayout-of, same_layout}
use Rattle.toc_model.proofs.layout.Layout.of_sheet.Goals as goal
use Rattle.toc_model.proofs.layout.Layout.of_sheet.Goals.{After-gaps, in-Some, in-None}

same : (c : After-gaps)
    → (let layout : DiscLayout = record {
      catalogue = c.match-catalogue.catalogue;
      tracks = c.in_ok-places.field-0.items;
      blocks = 150 + c.args.length + c.gaps.result;
    } in
    layout)
    ≡ layout_of c.args.sheet.now c.args.length
same c =
    let sheet = c.args.sheet.now in
    let catalogue : c.match-catalogue.catalogue ≡ c.args.sheet.now.catalogue =
    elim c.match-catalogue.branch [
      | in-Some w ↦
          copied_array c.catalogue.result w.in-Some.digits w.as_array.result _ _ 13 c.catalogue.ensures.number
          w.in-Some.is (number_length w.in-Some.digits.now w.in-Some.ensures.digits) w.as_array.ensures.cases
          (w.catalogue-is ∙ w.copied-catalogue.ensures)
      | in-None w ↦ copied_none c.catalogue.result _ _ c.catalogue.ensures.number w.in-None.is w.catalogue-is
    ] in
    let blocks : pause_blocks + c.args.length + c.gaps.result
    ≡ program_blocks c.args.sheet.now c.args.length =
    omega (arith, c.gaps.ensures.sum) in
    same_layout sheet c.args.length c.match-catalogue.catalogue c.in_ok-places.field-0.items _ catalogue
    c.in_ok-places.ensures blocks

pub returns : goal.returns
returns c = same c

pub invariant_of-result : goal.invariant_of-result
invariant_of-result c =
    subst IsLayout (sym (same c))
    (IsLayout-of c.args.sheet.now c.args.length c.tracks_are_in_order.ensures c.requires.need c.requires.fits)
