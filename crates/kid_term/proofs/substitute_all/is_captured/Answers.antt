use Rattle.std.proofs.Common.{ap, ◌∙◌}
use Rattle.kid_term.specs.TermView.{plain_term}
use Rattle.kid_term.specs.Substitution.{captures}
use Rattle.kid_term.specs.Simultaneous.{or_itself}
use Rattle.kid_term.proofs.substitute_all.is_captured.Goals as goal

pub returns : goal.returns
returns c = c.captures_found.ensures ∙ ap (λ o. captures c.args.x.now (or_itself c.args.x.now o) (plain_term c.args.term.now)) c.get.ensures
