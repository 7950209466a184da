use Rattle.std.proofs.Common.{◌≡◌, ◌≤◌, ◌-◌, ◌*◌, ◌/◌, ℕ, length, refl, ap, ◌∙◌, arith}
use Rattle.rw_mend.specs.Many.{words_in_each}
use Rattle.rw_mend.proofs.Streaming.{stream_done}
use Rattle.rw_mend.proofs.mended_stream.mend_stream_report.Goals as goal

pub returns : goal.returns
returns c =
    let readings = c.args.readings.now in
    let count = c.args.count in
    let size : ℕ = length readings / count in
    let words = c.saturating_sub-words.result in
    let number : words ≡ words_in_each count c.args.lead_in readings =
    c.saturating_sub-words.ensures
    ∙ ap (λ n. 4 * n - 7) c.saturating_sub-program.ensures in
    let start : ℕ = size - 24 * words in
    let fits : 24 * words ≤ size = omega (arith, number, c.requires.whole) in
    stream_done count c.args.lead_in start readings c.args.blocks.now c.write_blocks.new.blocks
    c.mend_report-report.new.packs c.args.sources.now c.mend_report-report.new.sources _
    c.mend_report-report.result.tallies c.mend_report-report.result.lost c.write_blocks.ensures.blocks
    c.requires.some c.requires.few
    c.requires.equal
    c.requires.whole number refl refl c.requires.sources refl fits c.requires.room
    c.mend_report-report.ensures
    c.write_blocks.ensures.size c.write_blocks.ensures.behind
