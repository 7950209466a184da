-- The lines of a report.
use Rattle.std.specs.Prelude.{ℕ, List, ◌++◌}
use Rattle.stream_trial.specs.TrialLines.{input_lines, output_lines}
use Rattle.stream_trial.specs.declared.lines.Report.{Report}

-- the lines of a report
abbrev pub report_lines : Report → List ℕ
report_lines report = input_lines report.seed report.pictures report.blocks report.packs report.changes
    ++ output_lines report.one report.two report.bad report.equal
