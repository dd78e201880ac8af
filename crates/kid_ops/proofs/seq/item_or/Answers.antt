use Rattle.std.proofs.Common.{arith}
use Rattle.kid_ops.proofs.ItemLemmas.{item_from_one-there}
use Rattle.kid_ops.proofs.seq.item_or.Goals as goal

pub returns-in-Some : goal.returns-in-Some
returns-in-Some c = item_from_one-there c.args.items.now c.args.place c.in-Some.item.now c.args.d.now (omega arith) (c.in-Some.ensures.lookup.3.1 c.args.d.now)
