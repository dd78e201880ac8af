use Rattle.std.proofs.Common.{◌≡◌, drop}
use Rattle.kid_term.specs.CallDepth.{depth_at}
use Rattle.kid_term.proofs.call_depth.CallDepths.of_name.Given as goal

-- no definition that was passed has the name
abbrev pub invariant-loop-definition : goal.invariant-loop-definition
invariant-loop-definition l = depth_at l.name (drop l.definition-index l.definition-items) ≡ depth_at l.name l.self
