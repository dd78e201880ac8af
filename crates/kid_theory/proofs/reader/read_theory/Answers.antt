use Rattle.kid_theory.proofs.Laws.{spelled_result}
use Rattle.kid_theory.proofs.reader.read_theory.Goals as goal

pub returns-clause-spelled : goal.returns-clause-spelled
returns-clause-spelled c = spelled_result c.args.bytes.now c.theory_from.result c.theory_from.ensures
