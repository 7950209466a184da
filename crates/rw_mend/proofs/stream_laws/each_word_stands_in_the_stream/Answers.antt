use Rattle.std.proofs.Common.{arith}
use Rattle.rw_mend.proofs.Codewords.{own_codeword}
use Rattle.rw_mend.proofs.Recovered.{mended_word, other_word}
use Rattle.rw_mend.proofs.stream_laws.each_word_stands_in_the_stream.Goals as goal

pub returns-clause-mended : goal.returns-clause-mended
returns-clause-mended c words lead_in n readings programs said found stream own are is whole lt here =
    mended_word lead_in readings found stream is whole n own lt here
    ((own_codeword words programs said found n own are (omega (arith, lt, are.count)) here).is_word.size)

pub returns-clause-others : goal.returns-clause-others
returns-clause-others c lead_in n readings found stream is whole lt none =
    other_word lead_in readings found stream is whole n lt none
