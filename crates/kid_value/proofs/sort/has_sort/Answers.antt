use Rattle.std.proofs.Common.{◌∙◌}
use Rattle.kid_value.specs.SortView.{plain_sort}
use Rattle.kid_value.specs.ValueView.{plain}
use Rattle.kid_value.proofs.CanonicalTests.{in_sort-canonical}
use Rattle.kid_value.proofs.sort.has_sort.Goals as goal

pub returns-clause-in_sort : goal.returns-clause-in_sort
returns-clause-in_sort c = c.is_of.ensures ∙ in_sort-canonical (plain_sort c.args.s.now) (plain c.args.v.now) c.canonical.ensures.canonical
