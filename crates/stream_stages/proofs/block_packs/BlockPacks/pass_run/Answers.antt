use Rattle.std.proofs.Common.{◌≡◌, ◌*◌, ◌≤◌, ◌/◌, List, ℕ, Some, length, length-take, refl, take, rules, arith}
use Rattle.std.specs.Prelude.{replicate}
use Rattle.std.proofs.lemmas.List.{take_rest}
use Rattle.std.proofs.lemmas.List.Elements.{All-more}
use Rattle.stream_stages.proofs.IdleBlocks.{idle_stays, idle_gives}
use Rattle.cdg_io.specs.Pump.{units_of}
use Rattle.cdg_io.proofs.Idle.{first_units, rest_kept, run_passes, units_fit, zeros_behind}
use Rattle.stream_stages.specs.Steps.{packs_next, packs_give}
use Rattle.stream_stages.proofs.block_packs.BlockPacks.pass_run.Goals as goal

pub loop-count-preserved : goal.loop-count-preserved
loop-count-preserved c =
    let s = c.args.self.now in
    let blocks = take c.min-most.result c.as_chunks.result.0.now in
    let stays : List ℕ → Type 0 = λ x. packs_next s x ≡ s in
    let gives : List ℕ → Type 0 = λ x. packs_give s x ≡ Some (replicate 96 0) in
    let idles = c.stays_idle.ensures c.if-stays_idle.true in
    let codeword = c.idle_is_codeword.ensures in
    record {
      within = omega (arith, c.loop-count-test.true);
      stays =
          All-more stays blocks c.loop-count.count _ c.loop-count-test.true c.loop-count.invariant.stays
          (idle_stays s _ codeword idles);
      gives =
          All-more gives blocks c.loop-count.count _ c.loop-count-test.true c.loop-count.invariant.gives
          (idle_gives s _ codeword idles);
    }

pub returns-clause-works : goal.returns-clause-works
returns-clause-works c =
    let row = c.args.row.now.now in
    let buffer = c.args.buffer.now in
    let start = c.args.start in
    let most = c.min-most.result in
    let n = c.loop-count.count in
    let looked = c.loop-count.invariant in
    let units = c.as_chunks.result.0.now in
    let zeroed = c.clear.new.bytes in
    let few : n ≤ most = omega (arith, looked.within, length-take most units) in
    let whole : most ≤ length row / 96 = omega (arith, c.as_chunks.ensures.front_len) in
    let front : take n (take most units) ≡ units_of 96 n row =
    first_units 96 n most (length row / 96) row units c.as_chunks.ensures.front few whole in
    let long : length zeroed ≡ 96 * n = search rules in (
      take (96 * n) row,
      run_passes packs_next packs_give c.args.self.now (Some (replicate 96 0)) row _ buffer _
          (take n (take most units)) 96 n 96 start _ refl
          (units_fit 96 n row (omega (arith, few, whole)))
          (take_rest row (96 * n)) front looked.stays looked.gives
          (zeros_behind buffer zeroed start _ (96 * n) c.requires.start c.clear.ensures long),
    )

pub returns-clause-behind : goal.returns-clause-behind
returns-clause-behind c =
    let size = 96 * c.loop-count.count in
    let long : length c.clear.new.bytes ≡ size = search rules in
    rest_kept c.args.buffer.now c.clear.new.bytes c.args.start size c.requires.start long
