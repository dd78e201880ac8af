use Rattle.std.proofs.Common.{◌≡◌, ◌++◌, map, drop, take}
use Rattle.kid_value.specs.NameView.{plain_name}
use Rattle.kid_sorting.specs.Declaring.{are_new}
use Rattle.kid_sorting.proofs.names.are_new.Given as goal

abbrev pub invariant-loop-i : goal.invariant-loop-i
invariant-loop-i l = are_new (l.taken ++ map plain_name (take l.i l.items)) (map plain_name (drop l.i l.items)) ≡ are_new l.taken (map plain_name l.items)
