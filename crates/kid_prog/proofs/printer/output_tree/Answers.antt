use Rattle.kid_prog.proofs.ProgramParts.{spelled_parts}
use Rattle.kid_prog.specs.ProgramView.{plain_program}
use Rattle.kid_prog.proofs.printer.output_tree.Goals as goal

pub with_name-requires : goal.with_name-requires
with_name-requires c = (spelled_parts (plain_program c.args.program.now) c.requires).output
