use Rattle.kid_term.specs.TermView.{plain_term}
use Rattle.kid_scope.proofs.SameLemmas.{same_term-decides}
use Rattle.kid_scope.proofs.given.same_term.Goals as goal

pub returns : goal.returns
returns c = same_term-decides c.same.result (plain_term c.args.a.now) (plain_term c.args.b.now) c.same.ensures
