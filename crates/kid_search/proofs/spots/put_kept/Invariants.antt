use Rattle.std.proofs.Common.{◌≡◌, ◌++◌, drop, map}
use Rattle.kid_search.specs.Contexts.{kept_facts}
use Rattle.kid_search.specs.PlanView.{plain_parameter}
use Rattle.kid_search.proofs.spots.put_kept.Given as goal

abbrev pub invariant-loop-parameter : goal.invariant-loop-parameter
invariant-loop-parameter l = l.terms ++ kept_facts (map plain_parameter (drop l.parameter-index l.parameters)) ≡ l.initial.terms ++ kept_facts (map plain_parameter l.parameters)
