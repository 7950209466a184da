use Rattle.rw_mend.proofs.StreamReordered.{same_calls, same_stream}
use Rattle.rw_mend.proofs.stream_laws.the_order_of_readings_changes_no_byte.Goals as goal

pub returns-clause-streams : goal.returns-clause-streams
returns-clause-streams c words lead_in readings others said saying found other stream turned =
    same_stream words lead_in readings others said saying found other stream turned

pub returns-clause-calls : goal.returns-clause-calls
returns-clause-calls c count lead_in readings others old new turned old_sources sources named reported
    reported_too =
    same_calls count lead_in readings others old new turned old_sources sources named reported reported_too
