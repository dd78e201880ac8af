use Rattle.std.proofs.Common.{arith}
use Rattle.kid_value.specs.ItemOrder.{in_sequences, in_sets, in_maps}
use Rattle.kid_value.proofs.CompareLemmas.{slice_cmp-less, deep-value-lt}
use Rattle.kid_value.proofs.order.+compare.Goals as goal

pub compare_maps-returns-then-a-b : goal.compare_maps-returns-then-a-b
compare_maps-returns-then-a-b t c = slice_cmp-less in_maps c.args.a.now c.args.b.now c.loop-i.i (omega arith) (omega arith) (omega arith) c.loop-i.invariant.0

pub compare_sequences-returns-then-a-b : goal.compare_sequences-returns-then-a-b
compare_sequences-returns-then-a-b t c = slice_cmp-less in_sequences c.args.a.now c.args.b.now c.loop-i.i (omega arith) (omega arith) (omega arith) c.loop-i.invariant.0

pub compare_sets-returns-then-a-b : goal.compare_sets-returns-then-a-b
compare_sets-returns-then-a-b t c = slice_cmp-less in_sets c.args.a.now c.args.b.now c.loop-i.i (omega arith) (omega arith) (omega arith) c.loop-i.invariant.0

pub compare_maps-compare-by_value-requires : goal.compare_maps-compare-by_value-requires
compare_maps-compare-by_value-requires t c = (omega (arith, deep-value-lt c.args.a.now c.loop-i.i c.index-a-i.result (omega arith) c.index-a-i.is), tt)
