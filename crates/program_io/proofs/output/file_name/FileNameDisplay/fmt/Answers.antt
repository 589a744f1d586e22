use Rattle.std.proofs.Common.{rules, arith}
use Rattle.program_io.proofs.Text.{file_name_printed}
use Rattle.program_io.proofs.output.file_name.FileNameDisplay.fmt.Goals as goal

pub returns-clause-writes : goal.returns-clause-writes
returns-clause-writes g c = rw (file_name_printed c.args.self.now.folder.now c.args.self.now.stem.now c.args.self.now.ending.now c.args.self.now.number (omega arith)) (search rules)
