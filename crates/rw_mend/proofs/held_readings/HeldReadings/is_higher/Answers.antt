use Rattle.std.proofs.Common.{◌∙◌, ap, get_or, []}
use Rattle.rw_mend.specs.HeldReadings.{held_blocks, matches_in, part_of, rule_of}
use Rattle.rw_mend.proofs.Ranks.{gt_is, higher_part, same_ranks}
use Rattle.rw_mend.proofs.held_readings.HeldReadings.is_higher.Goals as goal

pub returns : goal.returns
returns c =
    let part = c.args.part.now in
    let blocks = held_blocks c.args.self.now c.args.b in
    higher_part (rule_of part blocks) blocks (get_or blocks c.args.one []) (get_or blocks c.args.other [])
    c.matches-matches.result c.matches-its_matches.result c.votes-votes.result c.votes-its_votes.result
    c.of-own.result c.of-its.result c.gt.result
    (gt_is c.of-own.result c.of-its.result c.gt.result c.gt.ensures)
    (c.matches-matches.ensures.value ∙ ap (matches_in part) c.block.ensures.block)
    (c.matches-its_matches.ensures.value ∙ ap (matches_in part) c.block-2.ensures.block)
    (c.of-own.ensures ∙ ap (part_of part) c.block-3.ensures.block)
    (c.of-its.ensures ∙ ap (part_of part) c.block-4.ensures.block) c.votes-votes.ensures
    c.votes-its_votes.ensures c.if-matches-its_matches.false c.if-votes-its_votes.false

pub returns-then-are_same : goal.returns-then-are_same
returns-then-are_same c =
    let part = c.args.part.now in
    let blocks = held_blocks c.args.self.now c.args.b in
    same_ranks (rule_of part blocks) blocks (get_or blocks c.args.one []) (get_or blocks c.args.other [])
    c.matches-matches.result c.matches-its_matches.result c.of-own.result c.of-its.result c.are_same.result
    c.are_same.ensures c.if-are_same.true
    (c.matches-matches.ensures.value ∙ ap (matches_in part) c.block.ensures.block)
    (c.matches-its_matches.ensures.value ∙ ap (matches_in part) c.block-2.ensures.block)
    (c.of-own.ensures ∙ ap (part_of part) c.block-3.ensures.block)
    (c.of-its.ensures ∙ ap (part_of part) c.block-4.ensures.block) c.if-matches-its_matches.false
