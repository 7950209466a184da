use Rattle.run_laws.proofs.Clean.{clean_given}
use Rattle.run_laws.proofs.conversions.clean_streams_give_their_words.Goals as goal

pub returns : goal.returns
returns c = λ lead_in form call status is.
    clean_given form lead_in call.first.after call.second.before call.second.after call.out status
    (λ symbols found. c.clean_words_are_found.ensures form symbols found)
    c.found_packs_are_the_text.ensures.text c.found_packs_are_the_text.ensures.bad call.first.before
    (is.does (is.never tt))
