use Rattle.std.proofs.Common.{◌≡◌, ◌++◌, ◌+◌, ◌-◌, ◌∙◌, arith, rules, ap, length}
use Rattle.std.specs.Prelude.{slice_index}
use Rattle.std.proofs.lemmas.List.{get_or_append_left, get_or-append_right}
use Rattle.rw_interleave.proofs.FourWords.{four_of}
use Rattle.rw_interleave.proofs.four_words.four.Goals as goal

pub returns-then-at-lt-EARLY_BYTES-clause-lanes : goal.returns-then-at-lt-EARLY_BYTES-clause-lanes
returns-then-at-lt-EARLY_BYTES-clause-lanes c =
    let early = c.args.early.now in
    let at = c.args.at in
    let size : length early ≡ 72 = search rules in
    let four = c.requires.four in
    four_of early (early ++ (c.args.late.now ++ c.args.block.now)) at at (72 - at) (omega (arith, size))
    (omega (arith, four))
    (λ k lt. get_or_append_left early (c.args.late.now ++ c.args.block.now) 0 (at + k)
    (omega (arith, size, four, lt)))

pub returns-then-at-lt-BEFORE_BYTES-clause-lanes : goal.returns-then-at-lt-BEFORE_BYTES-clause-lanes
returns-then-at-lt-BEFORE_BYTES-clause-lanes c =
    let early = c.args.early.now in
    let late = c.args.late.now in
    let block = c.args.block.now in
    let at = c.args.at in
    let early_size : length early ≡ 72 = search rules in
    let late_size : length late ≡ 96 = search rules in
    let four = c.requires.four in
    four_of late (early ++ (late ++ block)) (at - 72) at (96 - (at - 72)) (omega (arith, late_size))
    (omega (arith, four))
    (λ k lt.
    let place : at + k - 72 ≡ at - 72 + k = omega arith in
    get_or-append_right early (late ++ block) 72 (at + k) 0 early_size (omega arith)
    ∙ ap (slice_index (late ++ block)) place
    ∙ get_or_append_left late block 0 (at - 72 + k) (omega (arith, late_size, four, lt)))

pub returns-clause-lanes : goal.returns-clause-lanes
returns-clause-lanes c =
    let early = c.args.early.now in
    let late = c.args.late.now in
    let block = c.args.block.now in
    let at = c.args.at in
    let early_size : length early ≡ 72 = search rules in
    let late_size : length late ≡ 96 = search rules in
    let block_size : length block ≡ 96 = search rules in
    let within = c.requires.within in
    four_of block (early ++ (late ++ block)) (at - 168) at (96 - (at - 168))
    (omega (arith, block_size)) (omega (arith, within))
    (λ k lt.
    let place : at + k - 72 - 96 ≡ at - 168 + k = omega arith in
    get_or-append_right early (late ++ block) 72 (at + k) 0 early_size (omega arith)
    ∙ get_or-append_right late block 96 (at + k - 72) 0 late_size (omega arith)
    ∙ ap (slice_index block) place)
