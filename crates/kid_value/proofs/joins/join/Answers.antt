use Rattle.kid_value.specs.SortView.{plain_sort}
use Rattle.kid_value.proofs.JoinLemmas.{joined_ok}
use Rattle.kid_value.proofs.NameLemmas.{ascends-union}
use Rattle.kid_value.proofs.joins.join.Goals as goal

pub returns-clause-least : goal.returns-clause-least
returns-clause-least c = joined_ok (plain_sort c.args.a.now) (plain_sort c.args.b.now) c.joined.result c.joined.ensures

pub returns-clause-ascends : goal.returns-clause-ascends
returns-clause-ascends c = λ ms ns p. ascends-union ms ns p
