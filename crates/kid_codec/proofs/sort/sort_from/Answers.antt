use Rattle.std.proofs.Common.{sym, ◌∙◌}
use Rattle.kid_sexp.specs.Tree.{plain}
use Rattle.kid_value.specs.SortView.{plain_sort}
use Rattle.kid_codec.proofs.SortTold.{sort_whole}
use Rattle.kid_codec.proofs.sort.sort_from.Goals as goal

pub returns-then-sort_ok-clause-spelling : goal.returns-then-sort_ok-clause-spelling
returns-then-sort_ok-clause-spelling c = (sort_whole (plain c.args.tree.now) (plain_sort c.in_ok-sort.sort) c.in_ok-sort.ensures (sym c.sort_ok.ensures ∙ c.if-sort_ok.true)).0

pub returns-then-sort_ok-clause-spelled : goal.returns-then-sort_ok-clause-spelled
returns-then-sort_ok-clause-spelled c = (sort_whole (plain c.args.tree.now) (plain_sort c.in_ok-sort.sort) c.in_ok-sort.ensures (sym c.sort_ok.ensures ∙ c.if-sort_ok.true)).1
