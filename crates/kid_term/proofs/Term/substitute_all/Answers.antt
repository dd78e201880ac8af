use Rattle.std.proofs.Common.{sym, ap, ◌∙◌}
use Rattle.kid_term.specs.TermView.{plain_term}
use Rattle.kid_term.specs.Eval.{eval}
use Rattle.kid_term.specs.Simultaneous.{substituted}
use Rattle.kid_term.proofs.SimultaneousLemmas.{eval-all}
use Rattle.kid_term.proofs.Term.substitute_all.Goals as goal

pub returns-in-Ok-clause-value : goal.returns-in-Ok-clause-value
returns-in-Ok-clause-value c =
    λ calls env.
    ap (eval calls env) (c.in-Ok.ensures ∙ ap (λ σ. substituted σ (plain_term c.args.self.now)) c.items.ensures)
    ∙ eval-all calls env c.args.subst.now (plain_term c.args.self.now) (sym c.captures_any.ensures ∙ c.if-captures_any.false)
