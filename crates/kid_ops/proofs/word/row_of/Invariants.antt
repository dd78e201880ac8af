use Rattle.std.proofs.Common.{◌≡◌, ◌-◌, ◌++◌, map}
use Rattle.std.specs.List.{range_with_len}
use Rattle.kid_value.specs.ValueMap.{lookup}
use Rattle.kid_value.specs.Rows.Word.{row_item, key_at}
use Rattle.kid_ops.proofs.word.row_of.Given as goal

abbrev pub invariant-loop-i : goal.invariant-loop-i
invariant-loop-i l = l.items ++ map (λ i. row_item (lookup (key_at l.lo i) l.entries)) (range_with_len l.i (l.size - l.i)) ≡ map (λ i. row_item (lookup (key_at l.lo i) l.entries)) (range_with_len 0 l.size)
