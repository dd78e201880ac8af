use Rattle.std.proofs.Common.{map, subst}
use Rattle.kid_term.specs.TermView.{plain_term}
use Rattle.kid_laws.specs.Applied.{Applies, applied_law}
use Rattle.kid_laws.proofs.AppliedTrue.{answer_keeps}
use Rattle.kid_laws.proofs.applying.apply.Goals as goal

pub returns-in-Some-clause-value : goal.returns-in-Some-clause-value
returns-in-Some-clause-value c =
    answer_keeps c.args.law c.args.back (map plain_term c.args.args.now) (plain_term c.args.term.now) c.apply_row.result
    (subst (λ o. Applies c.apply_row.result (applied_law o c.args.back (map plain_term c.args.args.now) (plain_term c.args.term.now))) c.in-Some.ensures c.apply_row.ensures)
