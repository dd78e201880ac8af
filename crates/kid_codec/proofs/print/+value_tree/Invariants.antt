use Rattle.std.proofs.Common.{◌≡◌, ◌+◌, ◌*◌, ◌≤◌, drop, map}
use Rattle.std.specs.Prelude.{codes}
use Rattle.kid_sexp.specs.Plain.{atom, join, one}
use Rattle.kid_value.specs.PlainValue.{height, heights, entry_heights, row, table}
use Rattle.kid_value.specs.ValueView.{plain, plain_entry}
use Rattle.kid_codec.specs.ValueSpelling.{value_spellings, entry_spellings}
use Rattle.kid_codec.proofs.print.+value_tree.Given as goal

abbrev pub decreases-tree_of_value : goal.decreases-tree_of_value
decreases-tree_of_value l = 2 * height (plain l.value.now)

abbrev pub decreases-values_tree : goal.decreases-values_tree
decreases-values_tree l = 2 * heights (row (map plain l.values.now)) + 1

abbrev pub decreases-entries_tree : goal.decreases-entries_tree
decreases-entries_tree l = 2 * entry_heights (table (map plain_entry l.entries.now)) + 1

abbrev pub invariant-values_tree-loop-value : goal.invariant-values_tree-loop-value
invariant-values_tree-loop-value l = record {
  told : join l.trees (value_spellings (row (map plain (drop l.value-index l.values)))) ≡ join (one (atom l.word)) (value_spellings (row (map plain l.values)));
  deep : heights (row (map plain (drop l.value-index l.values))) ≤ heights (row (map plain l.values));
}

abbrev pub invariant-entries_tree-loop-entry : goal.invariant-entries_tree-loop-entry
invariant-entries_tree-loop-entry l = record {
  told : join l.trees (entry_spellings (table (map plain_entry (drop l.entry-index l.entries)))) ≡ join (one (atom (codes "map"))) (entry_spellings (table (map plain_entry l.entries)));
  deep : entry_heights (table (map plain_entry (drop l.entry-index l.entries))) ≤ entry_heights (table (map plain_entry l.entries));
}
