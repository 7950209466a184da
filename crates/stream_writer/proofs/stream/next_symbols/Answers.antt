use Rattle.std.proofs.Common.{ℕ, ◌<◌, All, List, replicate, sym, arith, subst}
use Rattle.std.proofs.lemmas.List.{get_or-replicate}
use Rattle.cdg_io.specs.Change.{from_to}
use Rattle.rw_code.proofs.CodewordLemmas.{idle_is_codeword}
use Rattle.rw_code.specs.Packs.{idle_pack}
use Rattle.stream_writer.specs.Given.{TakesPacks}
use Rattle.stream_writer.proofs.Quiet.{quiet_block}
use Rattle.stream_writer.proofs.stream.next_symbols.Goals as goal

pub returns-then-pass_idle-clause-symbols : goal.returns-then-pass_idle-clause-symbols
returns-then-pass_idle-clause-symbols g c =
    let Comes : ℕ → List ℕ → Type 0 = g.P.PackSource.comes c.args.source.now in
    let spread = c.args.spread.now in
    let idles : List (List ℕ) = replicate 4 idle_pack in (
      idles,
      subst (λ symbols. TakesPacks Comes 4 (from_to spread spread) symbols idles) (sym c.requires.zeros)
          (quiet_block Comes spread c.args.quiet.now c.requires.quiet
          (omega (arith, c.if-quiet-eq-ALL_QUIET.true)) (c.pass_idle.ensures.idle c.if-pass_idle.true)
          idle_is_codeword),
    )

pub returns-then-pass_idle-clause-bound : goal.returns-then-pass_idle-clause-bound
returns-then-pass_idle-clause-bound g c =
    subst (All (λ s. s < 64)) (sym c.requires.zeros)
    (λ k d lt. subst (λ s. s < 64) (sym (get_or-replicate 96 k 0 d lt)) (omega arith))
