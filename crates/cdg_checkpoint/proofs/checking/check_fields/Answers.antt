use Rattle.std.proofs.Common.{[], ◌∷◌, refl}
use Rattle.cdg_checkpoint.specs.Table.{Mark, ToCome, LeadIn, Program, Bad, Slots, Memory, Border, Across, Down, Colours, Levels, Check}
use Rattle.cdg_checkpoint.proofs.SlotRanges.{all_checked, exits}
use Rattle.cdg_checkpoint.proofs.checking.check_fields.Goals as goal

pub returns-in_err-check_mark : goal.returns-in_err-check_mark
returns-in_err-check_mark c = exits c.args.bytes.now c.from_residual.result _ c.from_residual.ensures.1
    (record {
      early = [];
      part = Mark;
      late =
          ToCome ∷ LeadIn ∷ Program ∷ Bad ∷ Slots ∷ Memory ∷ Border ∷ Across ∷ Down ∷ Colours ∷ Levels ∷ Check
          ∷ [];
      order = refl;
      earlier = tt;
      here = c.in_err-check_mark.ensures;
    })

pub returns-in_err-check_to_come : goal.returns-in_err-check_to_come
returns-in_err-check_to_come c =
    exits c.args.bytes.now c.from_residual-in_err-check_to_come.result _
    c.from_residual-in_err-check_to_come.ensures.1
    (record {
      early = Mark ∷ [];
      part = ToCome;
      late = LeadIn ∷ Program ∷ Bad ∷ Slots ∷ Memory ∷ Border ∷ Across ∷ Down ∷ Colours ∷ Levels ∷ Check ∷ [];
      order = refl;
      earlier = (c.in_ok-check_mark.ensures, tt);
      here = c.in_err-check_to_come.ensures;
    })

pub returns-in_err-check_lead_in : goal.returns-in_err-check_lead_in
returns-in_err-check_lead_in c =
    exits c.args.bytes.now c.from_residual-in_err-check_lead_in.result _
    c.from_residual-in_err-check_lead_in.ensures.1
    (record {
      early = Mark ∷ ToCome ∷ [];
      part = LeadIn;
      late = Program ∷ Bad ∷ Slots ∷ Memory ∷ Border ∷ Across ∷ Down ∷ Colours ∷ Levels ∷ Check ∷ [];
      order = refl;
      earlier = (c.in_ok-check_mark.ensures, (c.in_ok-check_to_come.ensures, tt));
      here = c.in_err-check_lead_in.ensures;
    })

pub returns-in_err-check_program : goal.returns-in_err-check_program
returns-in_err-check_program c =
    exits c.args.bytes.now c.from_residual-in_err-check_program.result _
    c.from_residual-in_err-check_program.ensures.1
    (record {
      early = Mark ∷ ToCome ∷ LeadIn ∷ [];
      part = Program;
      late = Bad ∷ Slots ∷ Memory ∷ Border ∷ Across ∷ Down ∷ Colours ∷ Levels ∷ Check ∷ [];
      order = refl;
      earlier =
          (c.in_ok-check_mark.ensures, (c.in_ok-check_to_come.ensures, (c.in_ok-check_lead_in.ensures, tt)));
      here = c.in_err-check_program.ensures;
    })

pub returns-in_err-check_bad : goal.returns-in_err-check_bad
returns-in_err-check_bad c =
    exits c.args.bytes.now c.from_residual-in_err-check_bad.result _
    c.from_residual-in_err-check_bad.ensures.1
    (record {
      early = Mark ∷ ToCome ∷ LeadIn ∷ Program ∷ [];
      part = Bad;
      late = Slots ∷ Memory ∷ Border ∷ Across ∷ Down ∷ Colours ∷ Levels ∷ Check ∷ [];
      order = refl;
      earlier = (
        c.in_ok-check_mark.ensures,
        (c.in_ok-check_to_come.ensures, (c.in_ok-check_lead_in.ensures, (c.in_ok-check_program.ensures, tt))),
      );
      here = c.in_err-check_bad.ensures;
    })

pub returns-in_err-check_slots : goal.returns-in_err-check_slots
returns-in_err-check_slots c =
    exits c.args.bytes.now c.from_residual-in_err-check_slots.result _
    c.from_residual-in_err-check_slots.ensures.1
    (record {
      early = Mark ∷ ToCome ∷ LeadIn ∷ Program ∷ Bad ∷ [];
      part = Slots;
      late = Memory ∷ Border ∷ Across ∷ Down ∷ Colours ∷ Levels ∷ Check ∷ [];
      order = refl;
      earlier = (
        c.in_ok-check_mark.ensures,
        (
          c.in_ok-check_to_come.ensures,
          (c.in_ok-check_lead_in.ensures, (c.in_ok-check_program.ensures, (c.in_ok-check_bad.ensures, tt))),
        ),
      );
      here = c.in_err-check_slots.ensures;
    })

pub returns-in_err-check_memory : goal.returns-in_err-check_memory
returns-in_err-check_memory c =
    exits c.args.bytes.now c.from_residual-in_err-check_memory.result _
    c.from_residual-in_err-check_memory.ensures.1
    (record {
      early = Mark ∷ ToCome ∷ LeadIn ∷ Program ∷ Bad ∷ Slots ∷ [];
      part = Memory;
      late = Border ∷ Across ∷ Down ∷ Colours ∷ Levels ∷ Check ∷ [];
      order = refl;
      earlier = (
        c.in_ok-check_mark.ensures,
        (
          c.in_ok-check_to_come.ensures,
          (
            c.in_ok-check_lead_in.ensures,
            (c.in_ok-check_program.ensures, (c.in_ok-check_bad.ensures, (c.in_ok-check_slots.ensures, tt))),
          ),
        ),
      );
      here = c.in_err-check_memory.ensures;
    })

pub returns-in_err-check_border : goal.returns-in_err-check_border
returns-in_err-check_border c =
    exits c.args.bytes.now c.from_residual-in_err-check_border.result _
    c.from_residual-in_err-check_border.ensures.1
    (record {
      early = Mark ∷ ToCome ∷ LeadIn ∷ Program ∷ Bad ∷ Slots ∷ Memory ∷ [];
      part = Border;
      late = Across ∷ Down ∷ Colours ∷ Levels ∷ Check ∷ [];
      order = refl;
      earlier = (
        c.in_ok-check_mark.ensures,
        (
          c.in_ok-check_to_come.ensures,
          (
            c.in_ok-check_lead_in.ensures,
            (
              c.in_ok-check_program.ensures,
              (c.in_ok-check_bad.ensures, (c.in_ok-check_slots.ensures, (c.in_ok-check_memory.ensures, tt))),
            ),
          ),
        ),
      );
      here = c.in_err-check_border.ensures;
    })

pub returns-in_err-check_across : goal.returns-in_err-check_across
returns-in_err-check_across c =
    exits c.args.bytes.now c.from_residual-in_err-check_across.result _
    c.from_residual-in_err-check_across.ensures.1
    (record {
      early = Mark ∷ ToCome ∷ LeadIn ∷ Program ∷ Bad ∷ Slots ∷ Memory ∷ Border ∷ [];
      part = Across;
      late = Down ∷ Colours ∷ Levels ∷ Check ∷ [];
      order = refl;
      earlier = (
        c.in_ok-check_mark.ensures,
        (
          c.in_ok-check_to_come.ensures,
          (
            c.in_ok-check_lead_in.ensures,
            (
              c.in_ok-check_program.ensures,
              (
                c.in_ok-check_bad.ensures,
                (
                  c.in_ok-check_slots.ensures,
                  (c.in_ok-check_memory.ensures, (c.in_ok-check_border.ensures, tt)),
                ),
              ),
            ),
          ),
        ),
      );
      here = c.in_err-check_across.ensures;
    })

pub returns-in_err-check_down : goal.returns-in_err-check_down
returns-in_err-check_down c =
    exits c.args.bytes.now c.from_residual-in_err-check_down.result _
    c.from_residual-in_err-check_down.ensures.1
    (record {
      early = Mark ∷ ToCome ∷ LeadIn ∷ Program ∷ Bad ∷ Slots ∷ Memory ∷ Border ∷ Across ∷ [];
      part = Down;
      late = Colours ∷ Levels ∷ Check ∷ [];
      order = refl;
      earlier = (
        c.in_ok-check_mark.ensures,
        (
          c.in_ok-check_to_come.ensures,
          (
            c.in_ok-check_lead_in.ensures,
            (
              c.in_ok-check_program.ensures,
              (
                c.in_ok-check_bad.ensures,
                (
                  c.in_ok-check_slots.ensures,
                  (
                    c.in_ok-check_memory.ensures,
                    (c.in_ok-check_border.ensures, (c.in_ok-check_across.ensures, tt)),
                  ),
                ),
              ),
            ),
          ),
        ),
      );
      here = c.in_err-check_down.ensures;
    })

pub returns-in_err-check_colours : goal.returns-in_err-check_colours
returns-in_err-check_colours c =
    exits c.args.bytes.now c.from_residual-in_err-check_colours.result _
    c.from_residual-in_err-check_colours.ensures.1
    (record {
      early = Mark ∷ ToCome ∷ LeadIn ∷ Program ∷ Bad ∷ Slots ∷ Memory ∷ Border ∷ Across ∷ Down ∷ [];
      part = Colours;
      late = Levels ∷ Check ∷ [];
      order = refl;
      earlier = (
        c.in_ok-check_mark.ensures,
        (
          c.in_ok-check_to_come.ensures,
          (
            c.in_ok-check_lead_in.ensures,
            (
              c.in_ok-check_program.ensures,
              (
                c.in_ok-check_bad.ensures,
                (
                  c.in_ok-check_slots.ensures,
                  (
                    c.in_ok-check_memory.ensures,
                    (
                      c.in_ok-check_border.ensures,
                      (c.in_ok-check_across.ensures, (c.in_ok-check_down.ensures, tt)),
                    ),
                  ),
                ),
              ),
            ),
          ),
        ),
      );
      here = c.in_err-check_colours.ensures;
    })

pub returns-in_err-check_levels : goal.returns-in_err-check_levels
returns-in_err-check_levels c =
    exits c.args.bytes.now c.from_residual-in_err-check_levels.result _
    c.from_residual-in_err-check_levels.ensures.1
    (record {
      early = Mark ∷ ToCome ∷ LeadIn ∷ Program ∷ Bad ∷ Slots ∷ Memory ∷ Border ∷ Across ∷ Down ∷ Colours ∷ [];
      part = Levels;
      late = Check ∷ [];
      order = refl;
      earlier = (
        c.in_ok-check_mark.ensures,
        (
          c.in_ok-check_to_come.ensures,
          (
            c.in_ok-check_lead_in.ensures,
            (
              c.in_ok-check_program.ensures,
              (
                c.in_ok-check_bad.ensures,
                (
                  c.in_ok-check_slots.ensures,
                  (
                    c.in_ok-check_memory.ensures,
                    (
                      c.in_ok-check_border.ensures,
                      (
                        c.in_ok-check_across.ensures,
                        (c.in_ok-check_down.ensures, (c.in_ok-check_colours.ensures, tt)),
                      ),
                    ),
                  ),
                ),
              ),
            ),
          ),
        ),
      );
      here = c.in_err-check_levels.ensures;
    })

pub returns : goal.returns
returns c = all_checked c.args.bytes.now c.check_check.result (
  c.in_ok-check_mark.ensures,
  (
    c.in_ok-check_to_come.ensures,
    (
      c.in_ok-check_lead_in.ensures,
      (
        c.in_ok-check_program.ensures,
        (
          c.in_ok-check_bad.ensures,
          (
            c.in_ok-check_slots.ensures,
            (
              c.in_ok-check_memory.ensures,
              (
                c.in_ok-check_border.ensures,
                (
                  c.in_ok-check_across.ensures,
                  (
                    c.in_ok-check_down.ensures,
                    (c.in_ok-check_colours.ensures, (c.in_ok-check_levels.ensures, tt)),
                  ),
                ),
              ),
            ),
          ),
        ),
      ),
    ),
  ),
) c.check_check.ensures
