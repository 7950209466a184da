use Rattle.round_trips.proofs.StringBytes.{strings_are_bytes}
use Rattle.round_trips.proofs.texts.accepted_sheets_have_text_packs.Goals as goal

pub returns : goal.returns
returns c = λ text sheet bytes short read few.
    let accepted = c.accepted_sheets_are_in_order.ensures in
    let is = accepted.order text sheet short read in
    record {
      is_sheet = is;
      bytes = strings_are_bytes sheet is (accepted.texts text sheet bytes short read);
      few = few;
    }
