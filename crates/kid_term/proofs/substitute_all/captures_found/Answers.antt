use Rattle.std.proofs.Common.{sym, ap, ◌∙◌}
use Rattle.std.specs.Prelude.{option_map}
use Rattle.kid_term.specs.TermView.{plain_term}
use Rattle.kid_term.specs.Substitution.{captures}
use Rattle.kid_term.specs.Simultaneous.{or_itself}
use Rattle.kid_term.proofs.SimultaneousLemmas.{captures-itself}
use Rattle.kid_term.proofs.substitute_all.captures_found.Goals as goal

pub returns-in-None : goal.returns-in-None
returns-in-None c =
    sym (captures-itself c.args.x.now (plain_term c.args.term.now))
    ∙ ap (λ o. captures c.args.x.now (or_itself c.args.x.now (option_map (λ t. plain_term t.now) o)) (plain_term c.args.term.now)) (sym c.in-None.is)
