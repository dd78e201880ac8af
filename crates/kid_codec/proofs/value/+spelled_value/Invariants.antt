use Rattle.std.proofs.Common.{◌≡◌, ◌+◌, ◌*◌, ◌≤◌, ◌++◌, [], drop, Some}
use Rattle.kid_sexp.specs.TreeSize.{tree_size, forest_size}
use Rattle.kid_sexp.specs.Tree.{plain, plains}
use Rattle.kid_codec.specs.Reading.{◌>>=◌}
use Rattle.kid_codec.specs.ValueSpelling.{spelled_values, spelled_entries, with_entries}
use Rattle.kid_codec.proofs.Puts.{puts}
use Rattle.kid_codec.proofs.value.+spelled_value.Given as goal

abbrev pub decreases-spelled_value : goal.decreases-spelled_value
decreases-spelled_value l = 2 * tree_size (plain l.tree.now)

abbrev pub decreases-value_of_list : goal.decreases-value_of_list
decreases-value_of_list l = 2 * forest_size (plains l.trees.now)

abbrev pub decreases-value_of_parts : goal.decreases-value_of_parts
decreases-value_of_parts l = 2 * forest_size (plains l.parts.now) + 1

abbrev pub decreases-pair_from : goal.decreases-pair_from
decreases-pair_from l = 2 * forest_size (plains l.trees.now)

abbrev pub decreases-values_from : goal.decreases-values_from
decreases-values_from l = 2 * forest_size (plains l.trees.now)

abbrev pub decreases-members_from : goal.decreases-members_from
decreases-members_from l = 2 * forest_size (plains l.trees.now)

abbrev pub decreases-entry_from : goal.decreases-entry_from
decreases-entry_from l = 2 * forest_size (plains l.trees.now)

abbrev pub decreases-spelled_entry : goal.decreases-spelled_entry
decreases-spelled_entry l = 2 * tree_size (plain l.tree.now)

abbrev pub decreases-entries_from : goal.decreases-entries_from
decreases-entries_from l = 2 * forest_size (plains l.trees.now)

abbrev pub invariant-values_from-loop-tree : goal.invariant-values_from-loop-tree
invariant-values_from-loop-tree l = record {
  told : (spelled_values (plains (drop l.tree-index l.trees)) >>= λ vs. Some (l.values ++ vs)) ≡ spelled_values (plains l.trees);
  size : forest_size (plains (drop l.tree-index l.trees)) ≤ forest_size (plains l.trees);
}

abbrev pub invariant-members_from-loop-tree : goal.invariant-members_from-loop-tree
invariant-members_from-loop-tree l = record {
  told : (spelled_values (plains (drop l.tree-index l.trees)) >>= λ vs. Some (puts l.members vs)) ≡ (spelled_values (plains l.trees) >>= λ vs. Some (puts [] vs));
  size : forest_size (plains (drop l.tree-index l.trees)) ≤ forest_size (plains l.trees);
}

abbrev pub invariant-entries_from-loop-tree : goal.invariant-entries_from-loop-tree
invariant-entries_from-loop-tree l = record {
  told : (spelled_entries (plains (drop l.tree-index l.trees)) >>= with_entries l.entries) ≡ (spelled_entries (plains l.trees) >>= with_entries []);
  size : forest_size (plains (drop l.tree-index l.trees)) ≤ forest_size (plains l.trees);
}

abbrev pub decreases-pair_of : goal.decreases-pair_of
decreases-pair_of l = 2 * (tree_size (plain l.first.now) + tree_size (plain l.second.now)) + 1

abbrev pub decreases-entry_of : goal.decreases-entry_of
decreases-entry_of l = 2 * (tree_size (plain l.key.now) + tree_size (plain l.value.now)) + 1
