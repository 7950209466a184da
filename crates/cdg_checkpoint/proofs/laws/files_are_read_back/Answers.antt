use Rattle.std.proofs.Common.{refl}
use Rattle.cdg_checkpoint.specs.Table.{Bad, LeadIn, Memory, Program, Slots, ToCome}
use Rattle.cdg_checkpoint.proofs.ReadBack.{length-file, byte_read, four_read, at_to_come, at_lead_in, at_program, at_bad, at_slots, at_memory}
use Rattle.cdg_checkpoint.proofs.laws.files_are_read_back.Goals as goal

pub returns-clause-size : goal.returns-clause-size
returns-clause-size c = length-file

pub returns-clause-to_come : goal.returns-clause-to_come
returns-clause-to_come c k lt = four_read k ToCome _ 8 refl refl (at_to_come k) refl lt

pub returns-clause-lead_in : goal.returns-clause-lead_in
returns-clause-lead_in c k lt = four_read k LeadIn _ 12 refl refl (at_lead_in k) refl lt

pub returns-clause-program : goal.returns-clause-program
returns-clause-program c k lt = four_read k Program _ 16 refl refl (at_program k) refl lt

pub returns-clause-bad : goal.returns-clause-bad
returns-clause-bad c k lt = four_read k Bad _ 20 refl refl (at_bad k) refl lt

pub returns-clause-slots : goal.returns-clause-slots
returns-clause-slots c k i lt = byte_read k Slots _ i 24 168 refl (at_slots k) refl refl lt

pub returns-clause-memory : goal.returns-clause-memory
returns-clause-memory c k i lt = byte_read k Memory _ i 192 64800 refl (at_memory k) refl refl lt
