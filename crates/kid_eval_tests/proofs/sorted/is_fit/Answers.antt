use Rattle.std.proofs.Common.{sym, ◌∙◌, map}
use Rattle.kid_value.specs.NameView.{plain_name}
use Rattle.kid_value.specs.ValueView.{plain}
use Rattle.kid_term.specs.TermView.{plain_term}
use Rattle.kid_eval_tests.proofs.GivenLemmas.{sorted_small}
use Rattle.kid_eval_tests.proofs.sorted.is_fit.Goals as goal

pub returns-then-are_given : goal.returns-then-are_given
returns-then-are_given c =
    λ p. sorted_small c.args.defs.now (map plain_name c.args.names.now) (map plain c.args.values.now) (plain_term c.args.term.now)
    (sym c.are_given.ensures ∙ c.if-are_given.true) (c.is_sorted_over.ensures.sound p) (c.is_sorted_over.ensures.sorted p)
