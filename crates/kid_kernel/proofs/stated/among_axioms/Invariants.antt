use Rattle.std.proofs.Common.{◌≡◌, map, drop}
use Rattle.kid_scope.specs.LawRules.{law_named}
use Rattle.kid_kernel.specs.LawView.{plain_axiom}
use Rattle.kid_kernel.proofs.stated.among_axioms.Given as goal

abbrev pub invariant-loop-assumed : goal.invariant-loop-assumed
invariant-loop-assumed l = law_named l.name (map plain_axiom l.axioms) ≡ law_named l.name (map plain_axiom (drop l.assumed-index l.axioms))
