use Rattle.std.proofs.Common.{◌≡◌, length, rules, sym, subst}
use Rattle.rw_code.specs.Codeword.{IsWord}
use Rattle.rw_code.proofs.Weights.{eights_put, eights_room, eights_size}
use Rattle.rw_code.proofs.word.Word.of_eights.Goals as goal

pub returns : goal.returns
returns c =
    let low : length c.args.low ≡ 8 = search rules in
    let middle : length c.args.middle ≡ 8 = search rules in
    let high : length c.args.high ≡ 8 = search rules in
    eights_put c.args.low c.args.middle c.args.high _ _ _ low middle high c.copy_from_slice.ensures.after
    c.copy_from_slice-2.ensures.after c.copy_from_slice-3.ensures.after

pub invariant_of-result : goal.invariant_of-result
invariant_of-result c =
    let low : length c.args.low ≡ 8 = search rules in
    let middle : length c.args.middle ≡ 8 = search rules in
    let high : length c.args.high ≡ 8 = search rules in
    subst IsWord (sym (returns c)) (record {
      size = eights_size c.args.low c.args.middle c.args.high low middle high;
      symbols = c.requires;
    })

pub slice_bounds-bytes-end-3 : goal.slice_bounds-bytes-end-3
slice_bounds-bytes-end-3 c =
    eights_room c.copy_from_slice.new.self c.copy_from_slice-2.new.self (search rules) (search rules)
