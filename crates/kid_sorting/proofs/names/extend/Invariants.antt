use Rattle.std.proofs.Common.{◌≡◌, ◌++◌, map, drop}
use Rattle.kid_value.specs.NameView.{plain_name}
use Rattle.kid_sorting.proofs.names.extend.Given as goal

abbrev pub invariant-loop-name : goal.invariant-loop-name
invariant-loop-name l = l.names ++ map plain_name (drop l.name-index l.name-items) ≡ l.initial.names ++ l.more
