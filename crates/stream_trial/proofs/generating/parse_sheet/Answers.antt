use Rattle.std.proofs.Common.{refl}
use Rattle.stream_trial.proofs.Sheets.{read_so}
use Rattle.stream_trial.proofs.generating.parse_sheet.Goals as goal

pub returns-in-Ok-clause-sheet : goal.returns-in-Ok-clause-sheet
returns-in-Ok-clause-sheet c = read_so c.in-Ok.sheet _ c.trial_sheet_is_read.ensures.read c.in-Ok.ensures.read

pub returns-in-Ok-clause-err : goal.returns-in-Ok-clause-err
returns-in-Ok-clause-err c = tt

pub returns-in-Err-NoMemory-clause-sheet : goal.returns-in-Err-NoMemory-clause-sheet
returns-in-Err-NoMemory-clause-sheet c = tt

pub returns-in-Err-NoMemory-clause-err : goal.returns-in-Err-NoMemory-clause-err
returns-in-Err-NoMemory-clause-err c = refl
