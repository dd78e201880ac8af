use Rattle.std.proofs.Common.{◌≡◌, length}
use Rattle.kid_run.specs.Frames.{kept}
use Rattle.kid_run.proofs.frame.cut.Given as goal

abbrev pub invariant-loop-env : goal.invariant-loop-env
invariant-loop-env l = kept l.names l.env ≡ kept l.names l.initial.env

abbrev pub decreases-loop-env : goal.decreases-loop-env
decreases-loop-env l = length l.env
