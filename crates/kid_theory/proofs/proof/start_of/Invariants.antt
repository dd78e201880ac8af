use Rattle.std.proofs.Common.{◌≡◌, ◌++◌, drop, map}
use Rattle.kid_kernel.specs.LawView.{plain_axiom}
use Rattle.kid_kernel.specs.TheoryView.{plain_theory}
use Rattle.kid_term.specs.TermView.{plain_term}
use Rattle.kid_theory.specs.Proof.{proof_start}
use Rattle.kid_theory.proofs.proof.start_of.Given as goal

abbrev pub invariant-loop-condition : goal.invariant-loop-condition
invariant-loop-condition l = l.start ++ map plain_term (drop l.condition-index l.condition-items) ≡ proof_start (plain_theory l.theory) (plain_axiom l.law)
