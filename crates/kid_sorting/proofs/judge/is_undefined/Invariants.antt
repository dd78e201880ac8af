use Rattle.std.proofs.Common.{◌≡◌, map, drop}
use Rattle.kid_term.specs.DefView.{plain_def}
use Rattle.kid_sorting.specs.Declaring.{is_undefined}
use Rattle.kid_sorting.proofs.judge.is_undefined.Given as goal

-- no definition that was passed has the name
abbrev pub invariant-loop-definition : goal.invariant-loop-definition
invariant-loop-definition l = is_undefined l.name (map plain_def (drop l.definition-index l.definitions)) ≡ is_undefined l.name (map plain_def l.definitions)
