use Rattle.live_player.proofs.Parities.{pack_is_word, parity_decided}
use Rattle.live_player.proofs.parity.valid_parity_is_that_of_a_codeword.Goals as goal

pub returns : goal.returns
returns c = λ pack size. parity_decided _ (pack_is_word pack size)
