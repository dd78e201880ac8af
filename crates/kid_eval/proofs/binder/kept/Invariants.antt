use Rattle.std.proofs.Common.{◌≡◌, ◌++◌, map, drop}
use Rattle.kid_value.specs.ValueView.{plain}
use Rattle.kid_eval.specs.Binding.{kept}
use Rattle.kid_eval.proofs.binder.kept.Given as goal

abbrev pub invariant-loop-i : goal.invariant-loop-i
invariant-loop-i l = l.set ++ kept (map plain (drop l.i l.members)) (map plain (drop l.i l.truths)) ≡ kept (map plain l.members) (map plain l.truths)
