use Rattle.std.proofs.Common.{◌≡◌, ◌+◌, ◌*◌, ◌≤◌, drop, map, take}
use Rattle.kid_value.specs.PlainValue.{height, heights, entry_heights, row, table}
use Rattle.kid_value.specs.ValueView.{plain, plain_entry}
use Rattle.kid_term.specs.Quote.{empty_map, quote, all_put}
use Rattle.kid_term.specs.TermView.{plain_term}
use Rattle.kid_term.proofs.quotation.+quoted.Given as goal

abbrev pub decreases-quoted : goal.decreases-quoted
decreases-quoted l = 2 * height (plain l.v.now)

abbrev pub decreases-all_quoted : goal.decreases-all_quoted
decreases-all_quoted l = 2 * heights (row (map plain l.values.now)) + 1

abbrev pub decreases-all_put : goal.decreases-all_put
decreases-all_put l = 2 * entry_heights (table (map plain_entry l.entries.now)) + 1

abbrev pub invariant-all_quoted-loop-value : goal.invariant-all_quoted-loop-value
invariant-all_quoted-loop-value l = record {
  made : l.terms ≡ map (λ v. quote (plain v)) (take l.value-index l.values);
  deep : heights (row (map plain (drop l.value-index l.values))) ≤ heights (row (map plain l.values));
}

abbrev pub invariant-all_put-loop-entry : goal.invariant-all_put-loop-entry
invariant-all_put-loop-entry l = record {
  told : all_put (plain_term l.map) (table (map plain_entry (drop l.entry-index l.entries))) ≡ all_put empty_map (table (map plain_entry l.entries));
  deep : entry_heights (table (map plain_entry (drop l.entry-index l.entries))) ≤ entry_heights (table (map plain_entry l.entries));
}
