use Rattle.std.proofs.Common.{ap, ◌∙◌}
use Rattle.kid_term.specs.TermView.{plain_term}
use Rattle.kid_term.specs.Simultaneous.{some_captured}
use Rattle.kid_term.proofs.Term.captures_any.Goals as goal

pub returns : goal.returns
returns c = c.some_captured.ensures ∙ ap (some_captured c.args.subst.now (plain_term c.args.self.now)) c.items.ensures
