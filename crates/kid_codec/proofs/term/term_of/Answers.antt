use Rattle.std.proofs.Common.{sym, ◌∙◌}
use Rattle.kid_sexp.specs.Tree.{plain}
use Rattle.kid_term.specs.TermView.{plain_term}
use Rattle.kid_codec.proofs.TermTold.{term_told}
use Rattle.kid_codec.proofs.term.term_of.Goals as goal

pub returns-then-casts_are_allowed-clause-spelling : goal.returns-then-casts_are_allowed-clause-spelling
returns-then-casts_are_allowed-clause-spelling c = (term_told (plain c.args.tree.now) (plain_term c.in_ok-term.term) c.in_ok-term.ensures (sym c.casts_are_allowed.ensures ∙ c.if-casts_are_allowed.true)).tree

pub returns-then-casts_are_allowed-clause-spelled : goal.returns-then-casts_are_allowed-clause-spelled
returns-then-casts_are_allowed-clause-spelled c = (term_told (plain c.args.tree.now) (plain_term c.in_ok-term.term) c.in_ok-term.ensures (sym c.casts_are_allowed.ensures ∙ c.if-casts_are_allowed.true)).spelled
