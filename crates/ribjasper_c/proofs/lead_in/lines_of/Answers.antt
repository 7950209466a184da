use Rattle.ribjasper_c.proofs.Listing.{all_listed, all_refused}
use Rattle.ribjasper_c.proofs.lead_in.lines_of.Goals as goal

pub returns-clause-lines : goal.returns-clause-lines
returns-clause-lines c =
    all_listed c.args.form c.args.lead_in c.args.stream.now (λ lines. lines.items) c.read_lead_in.new.texts
    c.write_texts-lines.result c.read_lead_in.ensures c.write_texts-lines.ensures.lines

pub returns-clause-fault : goal.returns-clause-fault
returns-clause-fault c =
    all_refused c.args.form c.args.lead_in c.args.stream.now c.read_lead_in.new.texts
    c.write_texts-lines.result c.read_lead_in.ensures c.write_texts-lines.ensures.fault
