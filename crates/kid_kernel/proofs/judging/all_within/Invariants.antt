use Rattle.std.proofs.Common.{◌≡◌, map, drop}
use Rattle.kid_value.specs.NameView.{plain_name}
use Rattle.kid_scope.specs.InstanceView.{plain_part}
use Rattle.kid_scope.specs.Rewriting.{all_within}
use Rattle.kid_kernel.proofs.judging.all_within.Given as goal

-- each part that was passed lies within its sort
abbrev pub invariant-loop-part : goal.invariant-loop-part
invariant-loop-part l =
    all_within l.definitions (map plain_name l.names) (map plain_part (drop l.part-index l.parts)) ≡ all_within l.definitions (map plain_name l.names) (map plain_part l.parts)
