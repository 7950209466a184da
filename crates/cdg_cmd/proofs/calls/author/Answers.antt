use Rattle.cdg_cmd.proofs.AuthorStatus.{put_for}
use Rattle.cdg_cmd.proofs.calls.author.Goals as goal

pub returns-clause-put : goal.returns-clause-put
returns-clause-put g c =
    put_for g.K.Sink.held c.args.out.now c.author_in.new.out c.args.sheet.now
    c.args.script.now
    c.args.lead_in c.args.length c.author_in.result
    c.author_in.ensures.written.authored c.author_in.ensures.answer.accepted
    c.author_in.ensures.answer.stop
    c.author_in.ensures.written.untouched
    (λ fault accepted. let (n, packs, put) = c.author_in.ensures.written.part fault in
    c.accepted_scripts_have_streams.ensures.part c.args.sheet.now c.args.script.now c.args.lead_in
    c.args.length n packs _ _ c.tracks_are_in_order.ensures
    (record {
      held = c.times_rise_and_colours_are_in_range.ensures.held;
      later = c.times_rise_and_colours_are_in_range.ensures.later;
    }) (record {
      border = c.times_rise_and_colours_are_in_range.ensures.borders;
      colour = c.times_rise_and_colours_are_in_range.ensures.colours;
    })
    c.times_rise_and_colours_are_in_range.ensures.pixels c.requires.lead_in accepted put)
