use Rattle.std.proofs.Common.{◌≡◌, map, drop}
use Rattle.std.specs.List.{list_all}
use Rattle.kid_value.specs.Rows.Map.{has_value}
use Rattle.kid_value.specs.ValueMap.{lookup}
use Rattle.kid_value.specs.ValueView.{plain_entry}
use Rattle.kid_ops.proofs.map.each_in.Given as goal

abbrev pub invariant-loop-e : goal.invariant-loop-e
invariant-loop-e l =
    list_all (λ e. has_value (lookup e.0 l.map) e.1) (map plain_entry (drop l.e-index l.entries)) ≡ list_all (λ e. has_value (lookup e.0 l.map) e.1) (map plain_entry l.entries)
