use Rattle.rw_mend.proofs.Exchanged.{exchanged_two, same_two}
use Rattle.rw_mend.proofs.Reordered.{drops_reordered, reordered, reordered_many, reordered_text}
use Rattle.rw_mend.proofs.laws.the_order_of_readings_changes_names_alone.Goals as goal

pub returns-clause-words : goal.returns-clause-words
returns-clause-words c words programs others said saying found other =
    reordered words programs others said saying found other

pub returns-clause-text : goal.returns-clause-text
returns-clause-text c words programs others said saying found other =
    reordered_text words programs others said saying found other

pub returns-clause-many : goal.returns-clause-many
returns-clause-many c count lead_in readings others old new turned old_sources sources named reported
    reported_too =
    reordered_many count lead_in readings others old new turned old_sources sources named reported
    reported_too

pub returns-clause-dropped : goal.returns-clause-dropped
returns-clause-dropped c words programs others r k count again =
    drops_reordered words programs others r k count again

pub returns-clause-two : goal.returns-clause-two
returns-clause-two c lead_in first second old new turned counts others same done done' = (
  same_two lead_in first second old new turned counts others same done done',
  exchanged_two lead_in first second old new old turned counts others same done done',
)
