use Rattle.std.proofs.Common.{ℕ, ◌++◌, ◌+◌, ◌-◌, ◌/◌, ◌%◌, ◌∙◌, ap, codes, decimal}
use Rattle.bit_lists.specs.Digits.{line_feed}
use Rattle.rand_pcg.specs.Lcg.{Lcg}
use Rattle.rand_pcg.specs.Pcg.{pcg32}
use Rattle.cdg_workload.proofs.ScriptTexts.{eleven_joined, halves_text, halves_text_is}
use Rattle.cdg_workload.proofs.script.add_rect.Goals as goal

pub returns-clause-line : goal.returns-clause-line
unfolding halves_text
returns-clause-line c =
    let x = c.low_half-x.result in
    let y = c.high_half-y.result in
    let w = c.low_half.result in
    let h = c.high_half.result in
    let size = c.next_word-size.result in
    let place_is = ap (λ (p : ℕ × Lcg). p.0) c.next_word-place.ensures in
    let size_is = ap (λ (p : ℕ × Lcg). p.0) c.next_word-size.ensures
    ∙ ap (λ (p : ℕ × Lcg). (pcg32 p.1).0) c.next_word-place.ensures in
    eleven_joined c.args.lines.now c.add.new.self c.add_number.new.lines c.add-2.new.self
    c.add_number-2.new.lines c.add-3.new.self c.add_number-3.new.lines
    c.add-4.new.self c.add_number-4.new.lines c.add-5.new.self c.add_number-5.new.lines c.add-6.new.self
    (codes "rect ") (decimal (x % 288)) (codes " ") (decimal (y % 192)) (codes " ")
    (decimal (1 + w % (288 - x % 288))) (codes " ") (decimal (1 + h % (192 - y % 192))) (codes " ")
    (decimal (size / 256 % 16)) line_feed
    c.add.ensures.bytes c.add_number.ensures.text c.add-2.ensures.bytes c.add_number-2.ensures.text
    c.add-3.ensures.bytes c.add_number-3.ensures.text c.add-4.ensures.bytes c.add_number-4.ensures.text
    c.add-5.ensures.bytes c.add_number-5.ensures.text c.add-6.ensures.bytes
    ∙ ap (λ l. c.args.lines.now ++ l)
    (halves_text_is c.args.words.now c.next_word-place.result size x y w h place_is size_is
    c.low_half-x.ensures c.high_half-y.ensures c.low_half.ensures c.high_half.ensures)
