use Rattle.std.proofs.Common.{◌≡◌, ◌+◌, ◌*◌, ◌∙◌, ap, arith, List, ℕ, length}
use Rattle.std.specs.Prelude.{slice_index}
use Rattle.std.specs.Simd.Lanes.{chunk}
use Rattle.std.proofs.lemmas.Simd.{get_or-chunk, length-chunk}
use Rattle.raw_subcode.proofs.RowBits.{four_on}
use Rattle.raw_subcode.proofs.rows.channel_row.Goals.{then-channel-lt7, else-channel-lt7}
use Rattle.raw_subcode.proofs.rows.channel_row.Goals as goal

pub returns-clause-lanes : goal.returns-clause-lanes
returns-clause-lanes c = λ k lt.
    let planar = c.args.planar.now in
    let row : List ℕ = c.if-channel-lt7.result in
    elim c.if-channel-lt7.branch [
      | then-channel-lt7 w ↦
          ap (λ (l : List ℕ). slice_index l k) w.result-is
          ∙ get_or-chunk (12 * c.args.channel) 16 planar k 0 (omega arith)
      | else-channel-lt7 w ↦
          let size : length (chunk 80 16 planar) ≡ 16 = length-chunk 80 16 planar (omega arith) in
          let place : 80 + (k + 4) ≡ 12 * c.args.channel + k = omega arith in
          ap (λ (l : List ℕ). slice_index l k) w.result-is
          ∙ four_on (chunk 80 16 planar) size k lt
          ∙ get_or-chunk 80 16 planar (k + 4) 0 (omega arith)
          ∙ ap (slice_index planar) place
    ]
