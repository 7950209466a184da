use Rattle.std.proofs.Common.{ap, ◌∙◌}
use Rattle.rw_interleave.specs.Texts.{entry_bytes}
use Rattle.stream_stages.proofs.Recovers.{found_some, found_none, bad_some, bad_none}
use Rattle.stream_stages.proofs.block_packs.recovered.Goals as goal

pub returns-in-Some-clause-bytes : goal.returns-in-Some-clause-bytes
returns-in-Some-clause-bytes c =
    c.bytes.ensures.same
    ∙ c.word.ensures.same
    ∙ ap entry_bytes (found_some c.args.word.now _ c.correct_by_sums.ensures.word c.in-Some.ensures.reads.0)

pub returns-in-Some-clause-bad : goal.returns-in-Some-clause-bad
returns-in-Some-clause-bad c =
    bad_some _ _ _ (found_some c.args.word.now _ c.correct_by_sums.ensures.word c.in-Some.ensures.reads.0)

pub returns-in-None-clause-bytes : goal.returns-in-None-clause-bytes
returns-in-None-clause-bytes c =
    ap entry_bytes (found_none c.args.word.now c.correct_by_sums.ensures.word c.in-None.ensures.reads)

pub returns-in-None-clause-bad : goal.returns-in-None-clause-bad
returns-in-None-clause-bad c =
    c.saturating_add.ensures
    ∙ bad_none _ _ (found_none c.args.word.now c.correct_by_sums.ensures.word c.in-None.ensures.reads)
