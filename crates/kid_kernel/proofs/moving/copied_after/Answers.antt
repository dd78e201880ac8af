use Rattle.std.proofs.Common.{◌∙◌, map}
use Rattle.kid_term.specs.TermView.{plain_term}
use Rattle.kid_kernel.proofs.StepLemmas.{given_sorted}
use Rattle.kid_kernel.proofs.moving.copied_after.Goals as goal

pub after_lines-requires-clause-sorted : goal.after_lines-requires-clause-sorted
after_lines-requires-clause-sorted c =
    given_sorted c.args.theory.now.signature.definitions c.args.names.now (map plain_term c.args.facts.now) c.args.k (plain_term c.in_ok-copy.copy) (c.in_ok-fact.ensures ∙ c.in_ok-copy.ensures)
    c.requires.sorted
