use Rattle.pack_schedule.proofs.length_laws.schedules_of_ordered_changes_are_schedules.Goals as goal

pub returns : goal.returns
returns c script blocks packs ranges small s = record {
  count = s.count;
  held = s.held;
  changes = s.changes;
  change = λ k lt. c.ordered_changes_are_shortest.ensures script k _ ranges small (s.change k lt);
  fits = s.fits;
  written = s.written;
  others = s.others;
}
