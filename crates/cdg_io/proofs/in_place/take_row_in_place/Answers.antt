use Rattle.std.proofs.Common.{◌≡◌, ◌≤◌, ◌+◌, ◌-◌, ◌*◌, ◌/◌, ◌++◌, ℕ, List, min, take, drop, length, length-take-le, refl, sym, rules, arith, ◌∙◌, ap}
use Rattle.std.proofs.lemmas.List.{length-drop, length-take, take_rest}
use Rattle.cdg_io.proofs.Changed.{row_passes, put_behind, stays_behind}
use Rattle.std.proofs.Math.Nat.{mul_comm, mul-le-mul_right, div-mul-le_self}
use Rattle.cdg_io.proofs.Idle.{units_fit}
use Rattle.cdg_io.proofs.in_place.take_row_in_place.Goals as goal

-- the units fit into the row and into the buffer
size_fits : (unit count least row room most : ℕ) → least ≡ min (row / unit) (room / unit)
    → count ≡ min least most
    → (unit * count ≤ row) × (unit * count ≤ room)
size_fits unit count least row room most least_is count_is =
    let comm = mul_comm unit count in
    let in_row : count ≤ row / unit = omega arith in
    let in_room : count ≤ room / unit = omega arith in (
      omega (arith, comm, mul-le-mul_right unit in_row, div-mul-le_self row unit),
      omega (arith, comm, mul-le-mul_right unit in_room, div-mul-le_self room unit),
    )

end_fits : (start size room : ℕ) → start ≤ room → size ≤ room - start → start + size ≤ room
end_fits start size room within fits = omega arith

-- the place in the buffer is as long as the units
same_size : (start size : ℕ) (buffer row : List ℕ) → start ≤ length buffer → size ≤ length buffer - start
    → size ≤ length row
    → length (take (start + size - start) (drop start buffer)) ≡ length (take size row)
same_size start size buffer row within room fits =
    omega (
      arith,
      length-take (start + size - start) (drop start buffer),
      length-drop start buffer,
      length-take size row,
    )

pub nonzero_div-room : goal.nonzero_div-room
nonzero_div-room g c = omega (arith, c.SIZE-unit.ensures, c.requires.size)

pub nonzero_div-row : goal.nonzero_div-row
nonzero_div-row g c = omega (arith, c.SIZE-unit.ensures, c.requires.size)

pub overflow_mul-size : goal.overflow_mul-size
overflow_mul-size g c =
    let fits = size_fits c.SIZE-unit.result c.min-count.result c.min.result _ _ _ c.min.ensures
    c.min-count.ensures in
    search (rules, fits.1)

pub overflow_add-end : goal.overflow_add-end
overflow_add-end g c =
    let fits = size_fits c.SIZE-unit.result c.min-count.result c.min.result _ _ _ c.min.ensures
    c.min-count.ensures in
    search (rules, fits.1)

pub change_row-requires : goal.change_row-requires
change_row-requires g c =
    let fits = size_fits c.SIZE-unit.result c.min-count.result c.min.result _ _ _ c.min.ensures
    c.min-count.ensures in
    search (rules, fits.0, c.SIZE-unit.ensures)

pub returns-clause-most : goal.returns-clause-most
returns-clause-most g c = omega (arith, c.min-count.ensures)

pub overflow_cast-result : goal.overflow_cast-result
overflow_cast-result g c = omega (arith, c.min-count.ensures, c.ranges.most)

pub returns-clause-works : goal.returns-clause-works
returns-clause-works g c =
    let row = c.args.row.now.now in
    let buffer = c.args.buffer.now in
    let start = c.args.start in
    let n = c.min-count.result in
    let unit = c.SIZE-unit.result in
    let size = unit * n in
    let copied = c.copy_from_slice.new.self in
    let changed = c.change_row.new.units in
    let count : size ≡ g.G.InPlace.SIZE * n = ap (λ (k : ℕ). k * n) c.SIZE-unit.ensures in
    let few : n ≤ length row / unit = omega arith in
    let fits : size ≤ length row = units_fit unit n row few in
    let copy : copied ≡ take size row = search rules in
    let long : length changed ≡ size = search rules in
    let behind = put_behind buffer changed start size (start + size) c.requires.start refl long in (
      copied,
      row_passes g.G.InPlace.next g.G.InPlace.gives c.args.stage.now c.change_row.new.self row
          (take (length row - size) (drop size row)) copied buffer _ start g.G.InPlace.SIZE n size
          (start + size)
          count fits copy (take_rest row size) c.change_row.ensures.next
          (behind ∙ ap (λ l. take start buffer ++ l) c.change_row.ensures.gives),
    )

pub returns-clause-behind : goal.returns-clause-behind
returns-clause-behind g c =
    let size = c.SIZE-unit.result * c.min-count.result in
    let long : length c.change_row.new.units ≡ size = search rules in
    stays_behind c.args.buffer.now c.change_row.new.units c.args.start size (c.args.start + size)
    c.requires.start refl long

pub slice_bounds-place-end : goal.slice_bounds-place-end
slice_bounds-place-end g c =
    let fits = size_fits c.SIZE-unit.result c.min-count.result c.min.result _ _ _ c.min.ensures
    c.min-count.ensures in
    end_fits c.args.start _ (length c.args.buffer.now) c.requires.start fits.1

pub slice_bounds-copy_from_slice-end : goal.slice_bounds-copy_from_slice-end
slice_bounds-copy_from_slice-end g c =
    let fits = size_fits c.SIZE-unit.result c.min-count.result c.min.result _ _ _ c.min.ensures
    c.min-count.ensures in
    sym (length-take-le _ c.args.row.now.now fits.0)

pub copy_from_slice-requires : goal.copy_from_slice-requires
copy_from_slice-requires g c =
    let fits = size_fits c.SIZE-unit.result c.min-count.result c.min.result _ _ _ c.min.ensures
    c.min-count.ensures in
    same_size c.args.start _ c.args.buffer.now c.args.row.now.now c.requires.start fits.1 fits.0
