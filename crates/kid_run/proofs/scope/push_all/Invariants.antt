use Rattle.std.proofs.Common.{◌≡◌, ◌++◌, map, length}
use Rattle.kid_value.specs.NameView.{plain_name}
use Rattle.kid_value.specs.ValueView.{plain}
use Rattle.kid_term.specs.Eval.{bound}
use Rattle.kid_run.proofs.scope.push_all.Given as goal

abbrev pub invariant-loop-value : goal.invariant-loop-value
invariant-loop-value l = record {
  count : length l.values.items ≡ length l.rest;
  made : bound (map plain_name l.rest) (map plain l.values.items) ++ l.env ≡ bound (map plain_name l.names) (map plain l.initial.values.items) ++ l.initial.env;
}

abbrev pub decreases-loop-value : goal.decreases-loop-value
decreases-loop-value l = length l.values.items
