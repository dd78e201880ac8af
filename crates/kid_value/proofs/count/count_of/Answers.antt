use Rattle.std.proofs.Common.{◌∙◌, sym, subst}
use Rattle.kid_value.specs.Counts.{Counts}
use Rattle.kid_value.specs.SortView.{plain_sort}
use Rattle.kid_value.proofs.CountLemmas.{count_of-counts}
use Rattle.kid_value.proofs.SortListings.{count_of-values}
use Rattle.kid_value.proofs.count.count_of.Goals as goal

pub returns-clause-counts : goal.returns-clause-counts
returns-clause-counts c = c.count.ensures ∙ count_of-counts (plain_sort c.args.s.now)

pub returns-clause-values : goal.returns-clause-values
returns-clause-values c = λ b. subst (Counts (plain_sort c.args.s.now)) (sym c.count.ensures) (count_of-values (plain_sort c.args.s.now) b)
