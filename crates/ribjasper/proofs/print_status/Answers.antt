use Rattle.std.proofs.Common.{ap, ◌∙◌, rules}
use Rattle.cdg_io.specs.Change.{from_to}
use Rattle.ribjasper.proofs.print_status.Goals as goal

pub returns : goal.returns
returns g c = record {
  err = from_to c.new-err.result c.report_status-reported.new.err;
  over = ap (λ s. s.inner.writer) c.new-err.ensures ∙ c.new.ensures.writer;
  taken = ap (λ s. s.inner.taken.bytes) c.new-err.ensures ∙ c.new.ensures.nothing;
  reported = search rules;
}
