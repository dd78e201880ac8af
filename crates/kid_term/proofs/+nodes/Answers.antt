use Rattle.kid_term.proofs.SizeLemmas.{all_counted}
use Rattle.kid_term.proofs.+nodes.Goals as goal

pub size::all_nodes-returns : goal.size::all_nodes-returns
size::all_nodes-returns t c = all_counted c.args.terms.now c.loop-t.t-index c.loop-t.total c.loop-t-test.false c.loop-t.invariant.0 c.loop-t.invariant.1
