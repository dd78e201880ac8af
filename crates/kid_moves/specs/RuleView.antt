-- Rules and lines of the program as plain data.
use Rattle.kid_moves.specs.PlainRule.{PlainRule, by_equation, by_implication, by_binder, by_law, by_unfolding, by_folding, by_computing, by_fact, by_holding, by_failing, by_uncasting, PlainLine}
use Rattle.kid_moves.specs.declared.rule.Rule.{Rule}
use Rattle.kid_moves.specs.declared.rule.Rule.TheVariants.{Equation, Implication, Binder, Law, Unfold, Fold, Compute, UseFact, Holds, Fails, Uncast}
use Rattle.kid_moves.specs.declared.rule.Line.{Line}

abbrev pub plain_rule : Rule → PlainRule
plain_rule (Equation n) = by_equation n
plain_rule (Implication n) = by_implication n
plain_rule (Binder n) = by_binder n
plain_rule (Law f) = by_law f
plain_rule Unfold = by_unfolding
plain_rule (Fold f) = by_folding f
plain_rule Compute = by_computing
plain_rule (UseFact k) = by_fact k
plain_rule Holds = by_holding
plain_rule Fails = by_failing
plain_rule Uncast = by_uncasting

abbrev pub plain_line : Line → PlainLine
plain_line l = record { path = l.path; back = l.back; rule = plain_rule l.rule; args = l.args }
