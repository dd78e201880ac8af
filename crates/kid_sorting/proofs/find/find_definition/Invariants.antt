use Rattle.std.proofs.Common.{◌≡◌, map, length}
use Rattle.kid_term.specs.DefView.{plain_def}
use Rattle.kid_term.specs.Definition.{definition_of}
use Rattle.kid_sorting.proofs.find.find_definition.Given as goal

abbrev pub decreases-loop-latest : goal.decreases-loop-latest
decreases-loop-latest l = length l.rest

-- no definition that was passed has the name
abbrev pub invariant-loop-latest : goal.invariant-loop-latest
invariant-loop-latest l = definition_of l.name (map plain_def l.rest) ≡ definition_of l.name (map plain_def l.definitions)
