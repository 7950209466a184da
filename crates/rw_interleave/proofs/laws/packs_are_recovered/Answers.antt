use Rattle.std.proofs.Common.{◌∙◌, subst}
use Rattle.rw_code.specs.Codeword.{IsCodeword}
use Rattle.rw_interleave.proofs.Recovery.{small_get, packs_found}
use Rattle.rw_interleave.proofs.laws.packs_are_recovered.Goals as goal

pub returns : goal.returns
returns c form blocks symbols others packs found carries small damaged recovered =
    let idle = subst IsCodeword (c.word.ensures.same ∙ c.idle.ensures) c.word.ensures.codeword in
    packs_found form blocks symbols others packs c.only_one_codeword_is_near.ensures idle carries
    (small_get others small) damaged found recovered
