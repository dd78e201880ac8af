use Rattle.std.proofs.Common.{map}
use Rattle.kid_kernel.specs.LawView.{plain_axiom}
use Rattle.kid_kernel.specs.TheoryView.{plain_theory}
use Rattle.kid_term.specs.DefView.{plain_def}
use Rattle.kid_theory.proofs.KnownAfter.{judged_names}
use Rattle.kid_theory.proofs.law_form.law_form.Goals as goal

pub proved-requires-clause-names : goal.proved-requires-clause-names
proved-requires-clause-names c =
    judged_names (plain_theory c.args.theory.now) c.args.taken.now c.args.variables.now (plain_axiom c.in_ok-law.law) (plain_axiom c.in_ok-law-2.law) (map plain_def c.definitions.result.now) c.names.result.now
    c.requires c.definitions.ensures c.names.ensures c.in_ok-law-2.ensures
