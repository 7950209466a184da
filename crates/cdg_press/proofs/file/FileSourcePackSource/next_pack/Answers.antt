use Rattle.std.proofs.Common.{arith}
use Rattle.cdg_press.proofs.Files.{file_later}
use Rattle.cdg_press.proofs.file.FileSourcePackSource.next_pack.Goals as goal

pub returns-clause-later : goal.returns-clause-later
returns-clause-later c =
    file_later c.args.self.now.wait c.args.self.now.rest.now c.split_at.result.1.now (omega arith)
    (omega arith) c.split_at.ensures.back
