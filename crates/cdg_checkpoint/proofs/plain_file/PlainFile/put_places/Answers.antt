use Rattle.cdg_screen.specs.Memory.{seen}
use Rattle.std.proofs.Common.{refl, sym, arith}
use Rattle.cdg_checkpoint.specs.Table.{Border, Across, Down}
use Rattle.cdg_checkpoint.specs.Checkpoint.{Checkpoint, kept}
use Rattle.cdg_checkpoint.proofs.Writing.{then_part, written_byte}
use Rattle.cdg_checkpoint.proofs.plain_file.PlainFile.put_places.Goals as goal

pub returns-clause-parts : goal.returns-clause-parts
returns-clause-parts c counts slots =
    let k : Checkpoint = kept counts slots (seen c.args.screen.now) in
    then_part _ _ _ _ k Down c.put-3.ensures
    (then_part _ _ _ _ k Across c.put-2.ensures
    (then_part _ _ _ _ k Border c.put.ensures refl refl
    (written_byte _ _ (sym c.border.ensures.border) (omega (arith, c.border.ensures.range))))
    refl (written_byte _ _ (sym c.offset_h.ensures.offset) (omega (arith, c.offset_h.ensures.range))))
    refl (written_byte _ _ (sym c.offset_v.ensures.offset) (omega (arith, c.offset_v.ensures.range)))
