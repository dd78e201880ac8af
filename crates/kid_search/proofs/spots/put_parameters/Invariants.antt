use Rattle.std.proofs.Common.{◌≡◌, ◌++◌, drop, map}
use Rattle.kid_search.specs.Contexts.{kept_names}
use Rattle.kid_search.specs.PlanView.{plain_parameter}
use Rattle.kid_search.proofs.spots.put_parameters.Given as goal

abbrev pub invariant-loop-parameter : goal.invariant-loop-parameter
invariant-loop-parameter l = l.names ++ kept_names (map plain_parameter (drop l.parameter-index l.parameters)) ≡ l.initial.names ++ kept_names (map plain_parameter l.parameters)
