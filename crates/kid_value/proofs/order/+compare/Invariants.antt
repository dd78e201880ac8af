use Rattle.std.proofs.Common.{◌≡◌, ◌≤◌, length, drop}
use Rattle.std.specs.Cmp.Lexicographic.{slice_cmp}
use Rattle.kid_value.specs.ItemOrder.{in_sequences, in_sets, in_maps}
use Rattle.kid_value.proofs.order.+compare.Given as goal

abbrev pub invariant-compare_maps-loop-i : goal.invariant-compare_maps-loop-i
invariant-compare_maps-loop-i l = (slice_cmp in_maps l.a l.b ≡ slice_cmp in_maps (drop l.i l.a) (drop l.i l.b)) × (l.i ≤ length l.b)

abbrev pub invariant-compare_sequences-loop-i : goal.invariant-compare_sequences-loop-i
invariant-compare_sequences-loop-i l = (slice_cmp in_sequences l.a l.b ≡ slice_cmp in_sequences (drop l.i l.a) (drop l.i l.b)) × (l.i ≤ length l.b)

abbrev pub invariant-compare_sets-loop-i : goal.invariant-compare_sets-loop-i
invariant-compare_sets-loop-i l = (slice_cmp in_sets l.a l.b ≡ slice_cmp in_sets (drop l.i l.a) (drop l.i l.b)) × (l.i ≤ length l.b)
