use Rattle.std.proofs.Common.{sym, ◌∙◌}
use Rattle.kid_value.specs.SortView.{plain_sort}
use Rattle.kid_value.proofs.SortLemmas.{has_sort-subsort}
use Rattle.kid_value.proofs.joins.subsort.Goals as goal

pub returns-clause-keeps : goal.returns-clause-keeps
returns-clause-keeps c = λ e v h. has_sort-subsort (plain_sort c.args.a.now) (plain_sort c.args.b.now) v (sym c.is_below.ensures ∙ e) h
