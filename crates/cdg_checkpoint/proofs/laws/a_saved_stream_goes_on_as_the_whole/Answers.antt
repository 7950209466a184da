use Rattle.cdg_checkpoint.proofs.Bridge.{whole_accepted, whole_answered, whole_shown, called, one_screen}
use Rattle.cdg_checkpoint.proofs.laws.a_saved_stream_goes_on_as_the_whole.Goals as goal

pub returns-clause-accepted : goal.returns-clause-accepted
returns-clause-accepted c lead_in bytes file pumped first saved =
    whole_accepted lead_in bytes first file pumped saved

pub returns-clause-answer : goal.returns-clause-answer
returns-clause-answer c lead_in time bytes rest file pumped result first saved h =
    whole_answered lead_in bytes first time rest file pumped result saved h

pub returns-clause-shown : goal.returns-clause-shown
returns-clause-shown c lead_in time bytes rest file text pumped resumed first rest_whole saved reached r =
    whole_shown lead_in bytes first time rest file text pumped resumed rest_whole saved reached r

pub returns-clause-only : goal.returns-clause-only
returns-clause-only c = one_screen

pub returns-clause-whole : goal.returns-clause-whole
returns-clause-whole c = called
