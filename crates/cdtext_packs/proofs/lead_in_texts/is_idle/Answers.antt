use Rattle.std.proofs.Common.{◌≡◌, ◌%◌, arith, ap, ◌∙◌, inl, inr, eqb-true, replicate}
use Rattle.std.specs.Prelude.{slice_index}
use Rattle.std.proofs.lemmas.Bool.{cases_lt}
use Rattle.cdtext_packs.proofs.EmptyBlocks.{or_zeros, no_symbols}
use Rattle.cdtext_packs.proofs.lead_in_texts.is_idle.Goals as goal

pub loop-byte-preserved : goal.loop-byte-preserved
loop-byte-preserved c = λ none n lt.
    let parts = or_zeros c.loop-byte.all (slice_index c.args.block.now c.loop-byte.byte-index) none in
    elim (cases_lt n c.loop-byte.byte-index) [
      | inl early ↦ c.loop-byte.invariant parts.0 n early
      | inr late ↦ let at : n ≡ c.loop-byte.byte-index = omega arith in
          ap (λ k. slice_index c.args.block.now k % 64) at ∙ parts.1
    ]

pub returns : goal.returns
returns c = λ yes.
    let block = c.args.block.now in
    no_symbols block
    (λ n lt. c.loop-byte.invariant (eqb-true _ _ yes) n (omega (arith, lt, c.told-block)))
    ∙ ap (λ n. replicate n 0) c.told-block
