use Rattle.std.proofs.Common.{◌++◌, ◌∙◌, ap, codes}
use Rattle.bit_lists.specs.Digits.{line_feed}
use Rattle.disc_time.specs.Time.{time_text}
use Rattle.cdg_workload.proofs.ScriptTexts.{five_joined, show_text, show_text_is}
use Rattle.cdg_workload.proofs.script.add_show.Goals as goal

pub returns : goal.returns
unfolding show_text
returns c =
    five_joined c.args.lines.now c.add.new.self c.add-2.new.self c.add-3.new.self c.add-4.new.self
    c.add-5.new.self
    (codes "show ") c.text.result (codes " ") c.text-2.result line_feed
    c.add.ensures.bytes c.add-2.ensures.bytes c.add-3.ensures.bytes c.add-4.ensures.bytes
    c.add-5.ensures.bytes
    ∙ ap (λ l. c.args.lines.now ++ l) (show_text_is c.args.k c.text.result c.text-2.result (c.text.ensures
    ∙ ap time_text c.of_block.ensures) (c.text-2.ensures ∙ ap time_text c.of_block-2.ensures))
