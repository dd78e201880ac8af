use Rattle.std.proofs.Common.{subst}
use Rattle.kid_laws.specs.Instances.{Gives, made_of}
use Rattle.kid_laws.proofs.OutcomeLemmas.{outcome_true}
use Rattle.kid_laws.proofs.laws.instance_of.Goals as goal

pub returns-in-Some-clause-value : goal.returns-in-Some-clause-value
returns-in-Some-clause-value c =
    outcome_true c.args.kind c.args.law c.args.back c.args.subst.now c.filled_row.result
    (subst (λ o. Gives c.filled_row.result (made_of o c.args.back c.args.subst.now)) c.in-Some.ensures c.filled_row.ensures)
