use Rattle.std.proofs.Common.{sym}
use Rattle.kid_ops.proofs.MergeLemmas.{least-alone, least-less, least-equal, least-greater}
use Rattle.kid_ops.proofs.merge.least_of_both.Goals as goal
use Rattle.kid_ops.proofs.merge.least_of_both.Goals.{in-Less, in-Equal, in-Greater}

pub returns-in-Some-None-clause-union : goal.returns-in-Some-None-clause-union
returns-in-Some-None-clause-union c =
    least-alone c.args.xs.now c.args.ys.now c.requires.first c.requires.second c.in-Some-None.x.now c.in-Some-None.later.now c.in-Some-None.ensures.cases.0 c.in-Some-None.ensures'.cases

pub returns-after-cmp-clause-union : goal.returns-after-cmp-clause-union
returns-after-cmp-clause-union c = elim c.match-cmp.branch [
  | in-Less w ↦ rw w.result-is (least-less c.args.xs.now c.args.ys.now c.requires.first c.requires.second c.in-Some-Some.x.now c.in-Some-Some.y.now c.in-Some-Some.later_xs.now c.in-Some-Some.later_ys.now c.in-Some-Some.ensures.cases.0 c.in-Some-Some.ensures'.cases.0 (sym w.in-Less.ensures.value))
  | in-Equal w ↦ rw w.result-is (least-equal c.args.xs.now c.args.ys.now c.requires.first c.requires.second c.in-Some-Some.x.now c.in-Some-Some.y.now c.in-Some-Some.later_xs.now c.in-Some-Some.later_ys.now c.in-Some-Some.ensures.cases.0 c.in-Some-Some.ensures'.cases.0 (sym w.in-Equal.ensures.value))
  | in-Greater w ↦ rw w.result-is (least-greater c.args.xs.now c.args.ys.now c.requires.first c.requires.second c.in-Some-Some.x.now c.in-Some-Some.y.now c.in-Some-Some.later_xs.now c.in-Some-Some.later_ys.now c.in-Some-Some.ensures.cases.0 c.in-Some-Some.ensures'.cases.0 (sym w.in-Greater.ensures.value))
]
