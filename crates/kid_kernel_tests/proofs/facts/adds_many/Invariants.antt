use Rattle.std.proofs.Common.{◌≡◌}
use Rattle.kid_kernel.specs.Key.{key}
use Rattle.kid_kernel.specs.TheoryView.{plain_theory}
use Rattle.kid_kernel_tests.proofs.facts.adds_many.Given as goal

-- the facts are over the theory
abbrev pub invariant-loop : goal.invariant-loop
invariant-loop l = key (plain_theory l.theory) ≡ l.more.theory
