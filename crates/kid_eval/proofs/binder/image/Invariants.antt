use Rattle.std.proofs.Common.{◌≡◌, map, vec_len}
use Rattle.kid_value.specs.ValueView.{plain}
use Rattle.kid_value.specs.ValueSet.{union, set_of}
use Rattle.kid_eval.proofs.binder.image.Given as goal

abbrev pub invariant-loop-v : goal.invariant-loop-v
invariant-loop-v l = union (map plain l.values.items) l.set ≡ set_of (map plain l.initial.values.items)

abbrev pub decreases-loop-v : goal.decreases-loop-v
decreases-loop-v l = vec_len l.values
