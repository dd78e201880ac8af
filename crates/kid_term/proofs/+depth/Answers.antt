use Rattle.kid_term.proofs.SizeLemmas.{all_measured}
use Rattle.kid_term.proofs.+depth.Goals as goal

pub size::deepest-returns : goal.size::deepest-returns
size::deepest-returns t c = all_measured c.args.terms.now c.loop-t.t-index c.loop-t.most c.loop-t-test.false c.loop-t.invariant.0 c.loop-t.invariant.1
