use Rattle.std.proofs.Common.{◌≡◌}
use Rattle.kid_kernel.specs.Key.{key}
use Rattle.kid_kernel.specs.TheoryView.{plain_theory}
use Rattle.kid_kernel_tests.proofs.rows.proves.Given as goal

-- the facts are over the theory
abbrev pub invariant-loop-step : goal.invariant-loop-step
invariant-loop-step l = key (plain_theory l.theory) ≡ l.proof.theory
