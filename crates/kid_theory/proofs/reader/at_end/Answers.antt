use Rattle.std.proofs.Common.{sym, ◌+◌, subst, arith}
use Rattle.kid_sexp.specs.Tree.{plains}
use Rattle.kid_theory.specs.FileView.{plain_file}
use Rattle.kid_theory.specs.Answers.{Reads}
use Rattle.kid_theory.specs.Reading.{at_end}
use Rattle.kid_theory.proofs.StageLemmas.{ended_not}
use Rattle.kid_theory.proofs.reader.at_end.Goals as goal

pub returns-else-is_empty : goal.returns-else-is_empty
returns-else-is_empty c =
    let e = ended_not c.args.before (c.args.before + 1) (plain_file c.args.file) c.args.trees.now c.if-is_empty.ensures (omega arith) in
    subst (λ r. Reads plain_file r (at_end c.args.before (plain_file c.args.file) (plains c.args.trees.now))) (sym c.at.ensures) e
