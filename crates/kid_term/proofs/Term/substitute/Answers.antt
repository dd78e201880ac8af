use Rattle.std.proofs.Common.{sym, ap, ◌∙◌}
use Rattle.kid_term.specs.TermView.{plain_term}
use Rattle.kid_term.specs.Eval.{eval}
use Rattle.kid_term.proofs.SimultaneousLemmas.{eval-substituted}
use Rattle.kid_term.proofs.Term.substitute.Goals as goal

pub returns-in-Ok-clause-value : goal.returns-in-Ok-clause-value
returns-in-Ok-clause-value c =
    λ calls env. ap (eval calls env) c.in-Ok.ensures ∙ eval-substituted calls env c.args.x.now (plain_term c.args.new.now) (plain_term c.args.self.now) (sym c.captures-2.ensures ∙ c.if-captures.false)
