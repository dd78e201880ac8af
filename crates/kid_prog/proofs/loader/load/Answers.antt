use Rattle.kid_prog.proofs.Laws.{loaded_result}
use Rattle.kid_prog.proofs.loader.load.Goals as goal

pub returns-clause-loaded : goal.returns-clause-loaded
returns-clause-loaded c = loaded_result c.args.bytes.now c.read_program.result c.read_program.ensures
