use Rattle.std.proofs.Common.{◌≡◌, map, drop}
use Rattle.kid_value.specs.SortView.{plain_sort}
use Rattle.kid_term.specs.DefView.{plain_def}
use Rattle.kid_term.specs.TermView.{plain_term}
use Rattle.kid_sorting.proofs.Fronts.{with_front}
use Rattle.kid_prog.specs.Rules.{sorts_of}
use Rattle.kid_prog.proofs.rules.sorts_of.Given as goal

abbrev pub invariant-loop-term : goal.invariant-loop-term
invariant-loop-term l = with_front (map plain_sort l.sorts.items) (sorts_of (map plain_def l.definitions) l.names (map plain_term (drop l.term-index l.terms))) ≡ sorts_of (map plain_def l.definitions) l.names (map plain_term l.terms)
