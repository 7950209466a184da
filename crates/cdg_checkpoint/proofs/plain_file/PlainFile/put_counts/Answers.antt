use Rattle.std.proofs.Common.{refl}
use Rattle.cdg_checkpoint.specs.Table.{Mark, ToCome, LeadIn, Program, Bad}
use Rattle.cdg_checkpoint.specs.Checkpoint.{Checkpoint, kept}
use Rattle.cdg_checkpoint.proofs.Writing.{then_part}
use Rattle.cdg_checkpoint.proofs.plain_file.PlainFile.put_counts.Goals as goal

pub returns-clause-parts : goal.returns-clause-parts
returns-clause-parts c slots now =
    let k : Checkpoint = kept c.args.counts.now slots now in
    then_part _ _ _ _ k Bad c.put_number-4.ensures.bytes
    (then_part _ _ _ _ k Program c.put_number-3.ensures.bytes
    (then_part _ _ _ _ k LeadIn c.put_number-2.ensures.bytes
    (then_part _ _ _ _ k ToCome c.put_number.ensures.bytes
    (then_part _ _ _ _ k Mark c.put.ensures refl refl refl) refl refl) refl refl) refl refl) refl refl
