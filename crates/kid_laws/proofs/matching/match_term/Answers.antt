use Rattle.std.proofs.Common.{◌∙◌}
use Rattle.kid_term.specs.TermView.{plain_term}
use Rattle.kid_laws.proofs.WalkLemmas.{found_matches}
use Rattle.kid_laws.proofs.matching.match_term.Goals as goal

pub returns : goal.returns
returns c =
    found_matches c.args.variables.now (plain_term c.args.pattern.now) (plain_term c.args.term.now) c.args.subst.now _ c.find.result (c.in_ok-before.ensures ∙ c.items.ensures) c.find.ensures
