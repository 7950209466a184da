use Rattle.std.proofs.Common.{subst, rules}
use Rattle.raw_subcode.specs.declared.form.Form.{Form}
use Rattle.stream_stages.specs.TextListing.{texts_of_lead_in, IsTextFault}
use Rattle.ribjasper_c.specs.Conversions.{stream_form}
use Rattle.ribjasper_c.proofs.Listing.{fault_or_short, gives_texts, refused_texts, passed_on}
use Rattle.ribjasper_c.proofs.lead_in.texts_in.Goals as goal

pub returns-in-Err-clause-writes : goal.returns-in-Err-clause-writes
returns-in-Err-clause-writes c =
    let form = stream_form c.args.form in
    let stream = c.args.stream.now in
    let fault : IsTextFault c.in-Err.fault (texts_of_lead_in form c.args.lead_in stream) =
    subst (λ (form : Form). IsTextFault c.in-Err.fault (texts_of_lead_in form c.args.lead_in stream))
    c.stream_form-form.ensures c.in-Err.ensures.fault in
    let same = passed_on c.in-Err.fault c.refuse.result c.refuse.ensures.answer in
    record {
      done = search rules;
      usage = search rules;
      refused = search rules;
      whole = search rules;
      small = search rules;
      texts = refused_texts form c.args.lead_in stream c.in-Err.fault _ c.refuse.new.listed
          (fault_or_short c.in-Err.fault _ fault) same c.refuse.ensures.listed;
      memory = gives_texts c.in-Err.fault _ (texts_of_lead_in form c.args.lead_in stream) fault same;
      answer = search rules;
      untouched = search rules;
      same = search rules;
    }
