use Rattle.std.proofs.Common.{◌+◌, ◌*◌}
use Rattle.kid_sexp.specs.TreeSize.{tree_size, forest_size}
use Rattle.kid_sexp.specs.Tree.{plain, plains}
use Rattle.kid_codec.proofs.sort.+spelled_sort.Given as goal

abbrev pub decreases-spelled_sort : goal.decreases-spelled_sort
decreases-spelled_sort l = 3 * tree_size (plain l.tree.now)

abbrev pub decreases-sort_of_list : goal.decreases-sort_of_list
decreases-sort_of_list l = 3 * forest_size (plains l.trees.now)

abbrev pub decreases-sort_of_parts : goal.decreases-sort_of_parts
decreases-sort_of_parts l = 3 * forest_size (plains l.trees.now)

abbrev pub decreases-sort_of_one : goal.decreases-sort_of_one
decreases-sort_of_one l = 3 * tree_size (plain l.tree.now) + 1

abbrev pub decreases-sort_of_two : goal.decreases-sort_of_two
decreases-sort_of_two l = 3 * (tree_size (plain l.first.now) + tree_size (plain l.second.now)) + 1
