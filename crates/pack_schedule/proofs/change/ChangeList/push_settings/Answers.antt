use Rattle.std.proofs.Common.{◌≡◌, ◌≤◌, ◌+◌, ◌∙◌, List, ℕ, map, length, length-append, inl, inr, refl, ap, sym, arith}
use Rattle.std.specs.Prelude.{slice_index}
use Rattle.bit_lists.specs.Counting.{below}
use Rattle.cdg_instructions.specs.declared.instr.Instr.TheVariants.{BorderPreset, ColoursLow, ColoursHigh}
use Rattle.picture_script.specs.Board.{Board}
use Rattle.pack_schedule.specs.Change.{settings}
use Rattle.pack_schedule.proofs.PlanLists.{IsAppended, all_appended, kept_few, pushed_few, reported_other, reported_same}
use Rattle.pack_schedule.proofs.Short.{settings_few}
use Rattle.pack_schedule.proofs.change.ChangeList.push_settings.Goals as goal
use Rattle.pack_schedule.proofs.change.ChangeList.push_settings.Goals.{then-k-eq0, then-k-eq0-via-then-k-eq0, then-k-eq0-via-else-k-eq0+then-border, else-k-eq0+else-border, then-k-eq0-2, then-k-eq0-2-via-then-k-eq0-2, then-k-eq0-2-via-else-k-eq0-2+then-ne, else-k-eq0-2+else-ne, then-k-eq0-3-via-then-k-eq0-3, then-k-eq0-3-via-else-k-eq0-3+then-ne-2}

eight : ℕ → Board → List ℕ
eight from board = map (λ n. slice_index board.colours (from + n)) (below 8)

pub returns-then-k-eq0-3-clause-whole : goal.returns-then-k-eq0-3-clause-whole
unfolding eight
returns-then-k-eq0-3-clause-whole c =
    let k = c.args.k in
    let old = c.args.before.now in
    let low = eight 0 old in
    let high = eight 8 old in
    let first : IsAppended k (old.border ≡ c.border-border.result) (BorderPreset c.border-border.result)
    c.args.self.now c.if-k-eq0.self = elim c.if-k-eq0.branch [
      | then-k-eq0 w ↦ inl (
        w.self-is ∙ w.push.ensures,
        λ pos same. elim w.then-k-eq0.branch [
          | then-k-eq0-via-then-k-eq0 v ↦ omega (arith, pos, v.if-k-eq0.true)
          | then-k-eq0-via-else-k-eq0+then-border v ↦ v.if-border.true (v.border.ensures.value ∙ same)
        ],
      )
      | else-k-eq0+else-border w ↦
          inr (w.self-is, omega (arith, w.if-k-eq0.false), sym w.border.ensures.value ∙ w.if-border.false)
    ] in
    let second : IsAppended k (low ≡ c.colours-low.result) (ColoursLow c.colours-low.result) c.if-k-eq0.self
    c.if-k-eq0-2.self = elim c.if-k-eq0-2.branch [
      | then-k-eq0-2 w ↦ inl (
        w.self-is ∙ w.push-then-k-eq0-2.ensures,
        λ pos. elim w.then-k-eq0-2.branch [
          | then-k-eq0-2-via-then-k-eq0-2 v ↦ absurd (omega (arith, pos, v.if-k-eq0-2.true))
          | then-k-eq0-2-via-else-k-eq0-2+then-ne v ↦
              reported_other v.ne.result v.colours.result c.colours-low.result low v.ne.ensures
              v.colours.ensures
              v.if-ne.true
        ],
      )
      | else-k-eq0-2+else-ne w ↦ inr (
        w.self-is,
        omega (arith, w.if-k-eq0-2.false),
        reported_same w.ne.result w.colours.result c.colours-low.result low w.ne.ensures w.colours.ensures
            w.if-ne.false,
      )
    ] in
    let third : IsAppended k (high ≡ c.colours-high.result) (ColoursHigh c.colours-high.result)
    c.if-k-eq0-2.self c.push-then-k-eq0-3.new.self = inl (
      c.push-then-k-eq0-3.ensures,
      λ pos. elim c.then-k-eq0-3.branch [
        | then-k-eq0-3-via-then-k-eq0-3 v ↦ absurd (omega (arith, pos, v.if-k-eq0-3.true))
        | then-k-eq0-3-via-else-k-eq0-3+then-ne-2 v ↦
            reported_other v.ne-else-k-eq0-3.result v.colours-else-k-eq0-3.result c.colours-high.result high
            v.ne-else-k-eq0-3.ensures v.colours-else-k-eq0-3.ensures v.if-ne-2.true
      ],
    ) in
    all_appended c.args.script.now k old c.args.now.now c.border-border.result c.colours-low.result
    c.colours-high.result c.args.self.now c.if-k-eq0.self c.if-k-eq0-2.self c.push-then-k-eq0-3.new.self
    c.requires.before c.requires.now c.border-border.ensures.value c.colours-low.ensures
    c.colours-high.ensures first second third

pub returns-then-k-eq0-3-clause-few : goal.returns-then-k-eq0-3-clause-few
returns-then-k-eq0-3-clause-few c =
    omega (
      arith,
      c.requires.few,
      settings_few c.args.script.now c.args.k,
      ap length (returns-then-k-eq0-3-clause-whole c),
      length-append c.args.self.now (settings c.args.script.now c.args.k),
    )

pub returns-else-ne-2-clause-whole : goal.returns-else-ne-2-clause-whole
unfolding eight
returns-else-ne-2-clause-whole c =
    let k = c.args.k in
    let old = c.args.before.now in
    let low = eight 0 old in
    let high = eight 8 old in
    let first : IsAppended k (old.border ≡ c.border-border.result) (BorderPreset c.border-border.result)
    c.args.self.now c.if-k-eq0.self = elim c.if-k-eq0.branch [
      | then-k-eq0 w ↦ inl (
        w.self-is ∙ w.push.ensures,
        λ pos same. elim w.then-k-eq0.branch [
          | then-k-eq0-via-then-k-eq0 v ↦ omega (arith, pos, v.if-k-eq0.true)
          | then-k-eq0-via-else-k-eq0+then-border v ↦ v.if-border.true (v.border.ensures.value ∙ same)
        ],
      )
      | else-k-eq0+else-border w ↦
          inr (w.self-is, omega (arith, w.if-k-eq0.false), sym w.border.ensures.value ∙ w.if-border.false)
    ] in
    let second : IsAppended k (low ≡ c.colours-low.result) (ColoursLow c.colours-low.result) c.if-k-eq0.self
    c.if-k-eq0-2.self = elim c.if-k-eq0-2.branch [
      | then-k-eq0-2 w ↦ inl (
        w.self-is ∙ w.push-then-k-eq0-2.ensures,
        λ pos. elim w.then-k-eq0-2.branch [
          | then-k-eq0-2-via-then-k-eq0-2 v ↦ absurd (omega (arith, pos, v.if-k-eq0-2.true))
          | then-k-eq0-2-via-else-k-eq0-2+then-ne v ↦
              reported_other v.ne.result v.colours.result c.colours-low.result low v.ne.ensures
              v.colours.ensures
              v.if-ne.true
        ],
      )
      | else-k-eq0-2+else-ne w ↦ inr (
        w.self-is,
        omega (arith, w.if-k-eq0-2.false),
        reported_same w.ne.result w.colours.result c.colours-low.result low w.ne.ensures w.colours.ensures
            w.if-ne.false,
      )
    ] in
    let third : IsAppended k (high ≡ c.colours-high.result) (ColoursHigh c.colours-high.result)
    c.if-k-eq0-2.self c.if-k-eq0-2.self = inr (
      refl,
      omega (arith, c.if-k-eq0-3.false),
      reported_same c.ne-else-k-eq0-3.result c.colours-else-k-eq0-3.result c.colours-high.result high
          c.ne-else-k-eq0-3.ensures c.colours-else-k-eq0-3.ensures c.if-ne-2.false,
    ) in
    all_appended c.args.script.now k old c.args.now.now c.border-border.result c.colours-low.result
    c.colours-high.result c.args.self.now c.if-k-eq0.self c.if-k-eq0-2.self c.if-k-eq0-2.self
    c.requires.before c.requires.now c.border-border.ensures.value c.colours-low.ensures
    c.colours-high.ensures first second third

pub returns-else-ne-2-clause-few : goal.returns-else-ne-2-clause-few
returns-else-ne-2-clause-few c =
    omega (
      arith,
      c.requires.few,
      settings_few c.args.script.now c.args.k,
      ap length (returns-else-ne-2-clause-whole c),
      length-append c.args.self.now (settings c.args.script.now c.args.k),
    )

pub push-requires-then-k-eq0-2 : goal.push-requires-then-k-eq0-2
push-requires-then-k-eq0-2 c =
    let first : length c.if-k-eq0.self ≤ 2 = elim c.if-k-eq0.branch [
      | then-k-eq0 w ↦
          pushed_few 1 (BorderPreset c.border-border.result) c.args.self.now c.if-k-eq0.self c.requires.few
          (w.self-is ∙ w.push.ensures)
      | else-k-eq0+else-border w ↦
          kept_few 1 c.args.self.now c.if-k-eq0.self c.requires.few w.self-is
    ] in
    omega (arith, first)

pub push-requires-then-k-eq0-3 : goal.push-requires-then-k-eq0-3
push-requires-then-k-eq0-3 c =
    let first : length c.if-k-eq0.self ≤ 2 = elim c.if-k-eq0.branch [
      | then-k-eq0 w ↦
          pushed_few 1 (BorderPreset c.border-border.result) c.args.self.now c.if-k-eq0.self c.requires.few
          (w.self-is ∙ w.push.ensures)
      | else-k-eq0+else-border w ↦
          kept_few 1 c.args.self.now c.if-k-eq0.self c.requires.few w.self-is
    ] in
    let second : length c.if-k-eq0-2.self ≤ 3 = elim c.if-k-eq0-2.branch [
      | then-k-eq0-2 w ↦
          pushed_few 2 (ColoursLow c.colours-low.result) c.if-k-eq0.self c.if-k-eq0-2.self first
          (w.self-is ∙ w.push-then-k-eq0-2.ensures)
      | else-k-eq0-2+else-ne w ↦ kept_few 2 c.if-k-eq0.self c.if-k-eq0-2.self first w.self-is
    ] in
    omega (arith, second)
