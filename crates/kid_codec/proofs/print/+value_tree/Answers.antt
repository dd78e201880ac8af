use Rattle.std.proofs.Common.{ap, ◌∙◌}
use Rattle.kid_sexp.specs.Plain.{list, more, one}
use Rattle.kid_sexp.specs.Tree.{plain as plain_tree}
use Rattle.kid_codec.proofs.Each.{print-step, print-end}
use Rattle.kid_codec.proofs.Printed.{values_print, entries_print, values_deep, entries_deep}
use Rattle.kid_codec.proofs.print.+value_tree.Goals as goal

pub values_tree-loop-value-preserved : goal.values_tree-loop-value-preserved
values_tree-loop-value-preserved t c = record {
  told = print-step values_print c.loop-value.trees c.push.new.self _ c.args.values.now c.loop-value.value-index c.value-item.result (plain_tree c.in_ok-tree_of_value.field-0)
      c.loop-value-test.true c.value-item.is c.in_ok-tree_of_value.ensures c.in_ok-push.ensures.ok c.loop-value.invariant.told;
  deep = values_deep c.args.values.now c.loop-value.value-index c.value-item.result _ c.loop-value-test.true c.value-item.is c.loop-value.invariant.deep;
}

pub values_tree-returns : goal.values_tree-returns
values_tree-returns t c = ap list (print-end values_print c.loop-value.trees _ c.args.values.now c.loop-value.value-index c.loop-value-test.false c.loop-value.invariant.told)

pub entries_tree-loop-entry-preserved : goal.entries_tree-loop-entry-preserved
entries_tree-loop-entry-preserved t c =
    let p = c.in_ok-key.ensures in
    let q = c.in_ok-value.ensures in
    record {
      told = print-step entries_print c.loop-entry.trees c.push.new.self _ c.args.entries.now c.loop-entry.entry-index c.entry-item.result (plain_tree c.in_ok-couple.field-0)
          c.loop-entry-test.true c.entry-item.is (c.in_ok-couple.ensures ∙ (λ i. list (more (p i) (one (q i))))) c.in_ok-push.ensures.ok c.loop-entry.invariant.told;
      deep = entries_deep c.args.entries.now c.loop-entry.entry-index c.entry-item.result _ c.loop-entry-test.true c.entry-item.is c.loop-entry.invariant.deep;
    }

pub entries_tree-returns : goal.entries_tree-returns
entries_tree-returns t c = ap list (print-end entries_print c.loop-entry.trees _ c.args.entries.now c.loop-entry.entry-index c.loop-entry-test.false c.loop-entry.invariant.told)
