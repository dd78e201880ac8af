use Rattle.std.proofs.Common.{◌≡◌, ◌++◌, map, drop}
use Rattle.kid_value.specs.ValueView.{plain, plain_entry}
use Rattle.kid_ops.specs.Parts.{without_key}
use Rattle.kid_ops.proofs.map.entries_but.Given as goal

abbrev pub invariant-loop-e : goal.invariant-loop-e
invariant-loop-e l = l.others ++ without_key (plain l.x) (map plain_entry (drop l.e-index l.entries)) ≡ without_key (plain l.x) (map plain_entry l.entries)
