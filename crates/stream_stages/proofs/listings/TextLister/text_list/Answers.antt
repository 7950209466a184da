use Rattle.std.proofs.Common.{refl}
use Rattle.stream_stages.proofs.Ends.{ends_texts, ends_unread, stops_list, stops_unread}
use Rattle.stream_stages.proofs.Reported.{texts_reported, unread}
use Rattle.stream_stages.proofs.TextLists.{lists_done, lists_stop, listed_done, listed_stop}
use Rattle.stream_stages.proofs.listings.TextLister.text_list.Goals as goal

pub returns-in-Ok : goal.returns-in-Ok
returns-in-Ok g c =
    let (taken, w) = c.in-Ok.ensures.watches in
    let wrote = c.write_texts.ensures in
    let lists = lists_done c.args.form c.args.lead_in _ _ _ _ c.begin.new.self c.watch.new.stages.blocks taken
    c.in-Ok.pumped _ _ c.lead_in_packs_are_read.ensures c.requires.lead_in c.begin.ensures w
    c.saturating_sub.ensures wrote.writes in
    record {
      plays = record {
        plays = record {
          taken = taken;
          puts = lists;
          stops = stops_list c.watch.new.stages.blocks _ (g.K.Sink.held c.args.out.now)
              (g.K.Sink.held c.write_texts.new.out) c.write_texts.result wrote.writes;
          answer = listed_done c.args.form c.args.lead_in c.in-Ok.pumped _ _ _ _ _ c.begin.new.self
              c.watch.new.stages.blocks taken _ w wrote.writes lists c.in-Ok.ensures.reads.answer;
          faults = texts_reported _ _ _ _ c.in-Ok.ensures.reads.read_fault.later wrote.write_fault.later
              c.watch.new.stages.blocks _
              (g.K.Sink.held c.args.out.now) (g.K.Sink.held c.write_texts.new.out) c.in-Ok.pumped
              c.write_texts.result
              wrote.writes c.in-Ok.ensures.reads.read_fault.same wrote.write_fault.rose
              wrote.write_fault.same;
          ended = ends_texts c.watch.new.stages.blocks _ (g.K.Sink.held c.args.out.now)
              (g.K.Sink.held c.write_texts.new.out) c.write_texts.result _ _ wrote.writes
              c.in-Ok.ensures.reads.ended;
        };
        untouched = wrote.untouched;
      };
    }

pub returns-in-Err : goal.returns-in-Err
returns-in-Err g c =
    let (taken, w) = c.in-Err.ensures.watches in
    record {
      plays = record {
        plays = record {
          taken = taken;
          puts = lists_stop c.args.form c.args.lead_in _ _ (g.K.Sink.held c.args.out.now) c.begin.new.self
              c.watch.new.stages.blocks taken c.in-Err.stop c.play_stop.result w c.play_stop.ensures;
          stops = stops_unread c.in-Err.stop c.play_stop.result c.play_stop.ensures;
          answer =
              listed_stop c.args.form c.args.lead_in c.in-Err.stop c.play_stop.result _ c.play_stop.ensures
              c.in-Err.ensures.reads.answer;
          faults = unread _ _ _ c.in-Err.ensures.reads.read_fault.later _ _ c.play_stop.ensures w.no_write
              c.in-Err.ensures.reads.read_fault.rose c.in-Err.ensures.reads.read_fault.same;
          ended = ends_unread c.in-Err.stop c.play_stop.result _ _ c.play_stop.ensures w.no_write
              c.in-Err.ensures.reads.ended;
        };
        untouched = λ other. refl;
      };
    }
