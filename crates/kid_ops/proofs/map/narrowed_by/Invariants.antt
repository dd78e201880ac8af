use Rattle.std.proofs.Common.{◌≡◌, ◌++◌, map, drop}
use Rattle.kid_value.specs.ValueView.{plain_entry}
use Rattle.kid_ops.specs.Parts.{narrowed}
use Rattle.kid_ops.proofs.map.narrowed_by.Given as goal

abbrev pub invariant-loop-e : goal.invariant-loop-e
invariant-loop-e l = l.cut ++ narrowed l.map (map plain_entry (drop l.e-index l.entries)) ≡ narrowed l.map (map plain_entry l.entries)
