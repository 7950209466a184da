-- The survey of a stream in memory.
use Rattle.std.specs.Prelude.{ℕ, ℤ, pos, ◌/◌, ◌%◌, ◌||◌, nat_lt, if◌then◌else◌, List, length}
use Rattle.disc_time.specs.Counts.{most_lead_in}
use Rattle.raw_subcode.specs.Channels.{unit_size}
use Rattle.raw_subcode.specs.Sizes.{most_units}
use Rattle.raw_subcode.specs.declared.form.Form.{Form}
use Rattle.ribjasper_c.specs.declared.surveying.Surveyed.{Surveyed}

-- the number of whole blocks of some bytes
abbrev pub whole_blocks : Form → List ℕ → ℕ
whole_blocks form bytes = length bytes / unit_size form

-- the result for this number of whole blocks, with room for this number of rows
abbrev pub survey_answer : ℕ → ℕ → ℕ → ℕ → ℤ
survey_answer form lead_in blocks room =
    if nat_lt 2 form || nat_lt most_lead_in lead_in then pos 2
    else if nat_lt most_units blocks then pos 3
    else if nat_lt room blocks then pos 6
    else pos 0

-- the report of a survey: the whole blocks and the bytes after them
abbrev pub survey_counts : Form → List ℕ → Surveyed
survey_counts form bytes = record {
  blocks = whole_blocks form bytes;
  rest = length bytes % unit_size form;
}
