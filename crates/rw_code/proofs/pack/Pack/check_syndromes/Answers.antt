use Rattle.std.proofs.Common.{refl}
use Rattle.rw_code.proofs.SyndromeLemmas.{codeword_of_zero, zero_of_codeword}
use Rattle.rw_code.proofs.pack.Pack.check_syndromes.Goals as goal

pub invariant_of-result : goal.invariant_of-result
invariant_of-result c =
    codeword_of_zero c.args.word.now c.args.syndromes.lanes c.words_have_24_symbols.ensures c.requires
    c.if-syndromes-eq0.true

pub returns-then-syndromes-eq0 : goal.returns-then-syndromes-eq0
returns-then-syndromes-eq0 c = (
  codeword_of_zero c.args.word.now c.args.syndromes.lanes c.words_have_24_symbols.ensures c.requires
      c.if-syndromes-eq0.true,
  refl,
)

pub returns-else-syndromes-eq0 : goal.returns-else-syndromes-eq0
returns-else-syndromes-eq0 c = λ is.
    c.if-syndromes-eq0.false (zero_of_codeword c.args.word.now c.args.syndromes.lanes c.requires is)
