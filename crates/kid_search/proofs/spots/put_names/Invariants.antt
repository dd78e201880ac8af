use Rattle.std.proofs.Common.{◌≡◌, ◌++◌, drop, map}
use Rattle.kid_value.specs.NameView.{plain_name}
use Rattle.kid_search.proofs.spots.put_names.Given as goal

abbrev pub invariant-loop-name : goal.invariant-loop-name
invariant-loop-name l = l.names ++ map plain_name (drop l.name-index l.more) ≡ l.initial.names ++ map plain_name l.more
