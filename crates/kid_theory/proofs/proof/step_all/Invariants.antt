use Rattle.std.proofs.Common.{◌≡◌, drop, map}
use Rattle.kid_kernel.specs.Key.{key}
use Rattle.kid_kernel.specs.TheoryView.{plain_theory}
use Rattle.kid_moves.specs.MoveView.{plain_move}
use Rattle.kid_theory.specs.Proof.{all_stepped}
use Rattle.kid_theory.proofs.proof.step_all.Given as goal

-- the moves that are left lead from these facts to where all of them lead
abbrev pub invariant-loop-step : goal.invariant-loop-step
invariant-loop-step l = record {
  theory : key (plain_theory l.theory) ≡ l.facts.theory;
  whole : all_stepped (plain_theory l.theory) (map plain_move (drop l.step-index l.moves)) l.facts ≡ all_stepped (plain_theory l.theory) (map plain_move l.moves) l.fn.begun;
}
