use Rattle.std.proofs.Common.{◌+◌, ◌/◌, ◌%◌, ◌∙◌, arith, inl, inr}
use Rattle.std.specs.Prelude.{slice_index}
use Rattle.std.proofs.lemmas.Bool.{cases_lt}
use Rattle.raw_subcode.proofs.RowBits.{woven_thrice}
use Rattle.raw_subcode.proofs.rows.side_by_side.Goals as goal

pub woven-requires-clause-even : goal.woven-requires-clause-even
woven-requires-clause-even c = c.requires.lanes 0 (omega arith)

pub woven-requires-clause-odd : goal.woven-requires-clause-odd
woven-requires-clause-odd c = c.requires.lanes 4 (omega arith)

pub woven-requires-2-clause-even : goal.woven-requires-2-clause-even
woven-requires-2-clause-even c = c.requires.lanes 1 (omega arith)

pub woven-requires-2-clause-odd : goal.woven-requires-2-clause-odd
woven-requires-2-clause-odd c = c.requires.lanes 5 (omega arith)

pub woven-requires-3-clause-even : goal.woven-requires-3-clause-even
woven-requires-3-clause-even c = c.requires.lanes 2 (omega arith)

pub woven-requires-3-clause-odd : goal.woven-requires-3-clause-odd
woven-requires-3-clause-odd c = c.requires.lanes 6 (omega arith)

pub woven-requires-4-clause-even : goal.woven-requires-4-clause-even
woven-requires-4-clause-even c = c.requires.lanes 3 (omega arith)

pub woven-requires-4-clause-odd : goal.woven-requires-4-clause-odd
woven-requires-4-clause-odd c = c.requires.lanes 7 (omega arith)

pub returns : goal.returns
returns c = λ n lt.
    let rows = c.args.rows in
    elim (cases_lt n 64) [
      | inr third ↦
          woven_thrice rows c.woven.result.1 c.woven-2.result.1 c.woven-3.result.1 c.woven-4.result.1
          c.woven-7.result.0 c.woven-8.result.0 (slice_index c.put_woven-3.new.bytes n) n (n % 32 / 2)
          (n % 32 / 2 / 2) (8 + (n % 32 / 2 / 2) / 2)
          (c.put_woven-3.ensures.here n lt (omega arith)) (c.woven-7.ensures.first (n % 32 / 2) (omega arith))
          (c.woven-8.ensures.first (n % 32 / 2) (omega arith))
          (c.woven.ensures.second (n % 32 / 2 / 2) (omega arith))
          (c.woven-2.ensures.second (n % 32 / 2 / 2) (omega arith))
          (c.woven-3.ensures.second (n % 32 / 2 / 2) (omega arith))
          (c.woven-4.ensures.second (n % 32 / 2 / 2) (omega arith))
          (omega arith) (omega arith)
      | inl under ↦ c.put_woven-3.ensures.elsewhere n under ∙ elim (cases_lt n 32) [
        | inr second ↦
            woven_thrice rows c.woven.result.0 c.woven-2.result.0 c.woven-3.result.0 c.woven-4.result.0
            c.woven-5.result.1 c.woven-6.result.1 (slice_index c.put_woven-2.new.bytes n) n (n % 32 / 2)
            (8 + n % 32 / 2 / 2) ((8 + n % 32 / 2 / 2) / 2)
            (c.put_woven-2.ensures.here n lt (omega arith))
            (c.woven-5.ensures.second (n % 32 / 2) (omega arith))
            (c.woven-6.ensures.second (n % 32 / 2) (omega arith))
            (c.woven.ensures.first (8 + n % 32 / 2 / 2) (omega arith))
            (c.woven-2.ensures.first (8 + n % 32 / 2 / 2) (omega arith))
            (c.woven-3.ensures.first (8 + n % 32 / 2 / 2) (omega arith))
            (c.woven-4.ensures.first (8 + n % 32 / 2 / 2) (omega arith))
            (omega arith) (omega arith)
        | inl first ↦ c.put_woven-2.ensures.elsewhere n first
            ∙ woven_thrice rows c.woven.result.0 c.woven-2.result.0 c.woven-3.result.0 c.woven-4.result.0
            c.woven-5.result.0 c.woven-6.result.0 (slice_index c.put_woven.new.bytes n) n (n % 32 / 2)
            (n % 32 / 2 / 2) ((n % 32 / 2 / 2) / 2)
            (c.put_woven.ensures.here n lt (omega arith)) (c.woven-5.ensures.first (n % 32 / 2) (omega arith))
            (c.woven-6.ensures.first (n % 32 / 2) (omega arith))
            (c.woven.ensures.first (n % 32 / 2 / 2) (omega arith))
            (c.woven-2.ensures.first (n % 32 / 2 / 2) (omega arith))
            (c.woven-3.ensures.first (n % 32 / 2 / 2) (omega arith))
            (c.woven-4.ensures.first (n % 32 / 2 / 2) (omega arith))
            (omega arith) (omega arith)
      ]
    ]
