use Rattle.std.proofs.Common.{◌≡◌, drop, map}
use Rattle.std.specs.List.{list_all}
use Rattle.kid_term.specs.DefView.{plain_def}
use Rattle.kid_term.specs.TermView.{plain_term}
use Rattle.kid_kernel.specs.SortedLaw.{is_condition}
use Rattle.kid_kernel.proofs.sorted.are_conditions.Given as goal

-- each term that was passed is a condition
abbrev pub invariant-loop-term : goal.invariant-loop-term
invariant-loop-term l =
    list_all (is_condition (map plain_def l.context.definitions.now) l.context.names.now) (map plain_term (drop l.term-index l.terms))
    ≡ list_all (is_condition (map plain_def l.context.definitions.now) l.context.names.now) (map plain_term l.terms)
