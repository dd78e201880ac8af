use Rattle.std.proofs.Common.{sym, ◌∙◌}
use Rattle.kid_sorting.proofs.NewNames.{are_new-next}
use Rattle.kid_sorting.proofs.names.are_new.Goals as goal

pub loop-i-preserved : goal.loop-i-preserved
loop-i-preserved c = are_new-next c.args.taken.now c.items-items.result.now c.loop-i.i c.index-items-i.result _ c.loop-i-test.true c.index-items-i.is (sym c.is_among.ensures ∙ c.if-is_among.false) c.loop-i.invariant
