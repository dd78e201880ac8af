use Rattle.std.proofs.Common.{◌≡◌, map, drop}
use Rattle.kid_value.specs.ValueView.{plain}
use Rattle.kid_value.specs.Rows.Seq.{is_prefix}
use Rattle.kid_ops.proofs.seq.begins_with.Given as goal

abbrev pub invariant-loop-x : goal.invariant-loop-x
invariant-loop-x l = is_prefix (map plain (drop l.x-index l.start)) (map plain l.left) ≡ is_prefix (map plain l.start) (map plain l.values)
