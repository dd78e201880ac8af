use Rattle.std.proofs.Common.{◌≡◌, ◌+◌, ◌*◌, ◌≤◌, ◌++◌, drop, Some}
use Rattle.kid_sexp.specs.TreeSize.{tree_size, forest_size}
use Rattle.kid_sexp.specs.Tree.{plain, plains}
use Rattle.kid_codec.specs.Reading.{◌>>=◌}
use Rattle.kid_codec.specs.TermSpelling.{spelled_terms}
use Rattle.kid_codec.proofs.term.+spelled_term.Given as goal

abbrev pub decreases-spelled_term : goal.decreases-spelled_term
decreases-spelled_term l = 2 * tree_size (plain l.tree.now)

abbrev pub decreases-term_of_list : goal.decreases-term_of_list
decreases-term_of_list l = 2 * forest_size (plains l.trees.now)

abbrev pub decreases-term_of_parts : goal.decreases-term_of_parts
decreases-term_of_parts l = 2 * forest_size (plains l.parts.now) + 1

abbrev pub decreases-terms_from : goal.decreases-terms_from
decreases-terms_from l = 2 * forest_size (plains l.trees.now)

abbrev pub decreases-cast_from : goal.decreases-cast_from
decreases-cast_from l = 2 * forest_size (plains l.trees.now)

abbrev pub decreases-bound_from : goal.decreases-bound_from
decreases-bound_from l = 2 * forest_size (plains l.trees.now)

abbrev pub invariant-terms_from-loop-tree : goal.invariant-terms_from-loop-tree
invariant-terms_from-loop-tree l = record {
  told : (spelled_terms (plains (drop l.tree-index l.trees)) >>= λ ts. Some (l.terms ++ ts)) ≡ spelled_terms (plains l.trees);
  size : forest_size (plains (drop l.tree-index l.trees)) ≤ forest_size (plains l.trees);
}

abbrev pub decreases-cast_of : goal.decreases-cast_of
decreases-cast_of l = 2 * tree_size (plain l.term.now) + 1

abbrev pub decreases-bound_of : goal.decreases-bound_of
decreases-bound_of l = 2 * (tree_size (plain l.set.now) + tree_size (plain l.body.now)) + 1
