use Rattle.subcode_author.proofs.author.plans_report_what_an_author_reports.Goals as goal

pub returns-clause-accepted : goal.returns-clause-accepted
returns-clause-accepted c sheet script lead_in audio rows disc room are prompt = record {
  disc = disc;
  room = room;
  ready = c.plans_report_what_a_survey_reports.ensures.none script rows are prompt;
}
