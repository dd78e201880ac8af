use Rattle.std.proofs.Common.{◌≡◌, ◌≤◌, map, drop, length}
use Rattle.kid_value.specs.SortView.{plain_sort}
use Rattle.kid_value.specs.NameView.{plain_name}
use Rattle.kid_term.specs.Sorting.{fit_parameters}
use Rattle.kid_prog.proofs.rules.are_within.Given as goal

abbrev pub invariant-loop-i : goal.invariant-loop-i
invariant-loop-i l = record {
  told : fit_parameters (map plain_name (drop l.i l.parameters)) (map plain_sort (drop l.i l.sorts)) ≡ fit_parameters (map plain_name l.parameters) (map plain_sort l.sorts);
  within : l.i ≤ length l.sorts;
}
