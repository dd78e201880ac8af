use Rattle.std.proofs.Common.{map, subst}
use Rattle.kid_term.specs.TermView.{plain_term}
use Rattle.kid_laws.specs.Applied.{Applies, concluded_law}
use Rattle.kid_laws.proofs.AppliedTrue.{answer_says}
use Rattle.kid_laws.proofs.applying.conclude.Goals as goal

pub returns-in-Some-clause-value : goal.returns-in-Some-clause-value
returns-in-Some-clause-value c =
    answer_says c.args.law (map plain_term c.args.terms.now) c.conclude_row.result
    (subst (λ o. Applies c.conclude_row.result (concluded_law o (map plain_term c.args.terms.now))) c.in-Some.ensures c.conclude_row.ensures)
