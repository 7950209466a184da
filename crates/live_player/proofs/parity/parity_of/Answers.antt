use Rattle.std.proofs.Common.{◌∙◌, ap}
use Rattle.rw_code.specs.Codeword.{differences}
use Rattle.rw_code.specs.Packs.{idle_pack}
use Rattle.live_player.specs.Parity.{low_symbols}
use Rattle.live_player.proofs.Parities.{reported_by_sums}
use Rattle.live_player.proofs.parity.parity_of.Goals as goal

pub returns-clause-valid : goal.returns-clause-valid
returns-clause-valid c =
    reported_by_sums c.new-word.result (low_symbols c.args.pack.now) c.is_codeword.result
    (differences (low_symbols c.args.pack.now) idle_pack) c.new-word.ensures c.weight.ensures.word
    c.is_codeword.ensures
    (λ none. c.if-weight-eq0.false (c.weight.ensures.count
    ∙ ap (λ w. differences w idle_pack) c.new-word.ensures ∙ none))
