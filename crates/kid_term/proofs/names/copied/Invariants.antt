use Rattle.std.proofs.Common.{◌≡◌, ◌++◌, map, drop}
use Rattle.kid_value.specs.NameView.{plain_name}
use Rattle.kid_term.proofs.names.copied.Given as goal

-- the names so far and those that are left are all names
abbrev pub invariant-loop-name : goal.invariant-loop-name
invariant-loop-name l = l.copy ++ map plain_name (drop l.name-index l.name-items) ≡ l.names
