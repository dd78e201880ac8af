use Rattle.std.proofs.Common.{◌++◌, Some, ◌∙◌}
use Rattle.kid_value.specs.ValueView.{plain, plain_entry}
use Rattle.kid_codec.specs.ValueSpelling.{with_entries}
use Rattle.kid_codec.proofs.Each.{read-step, read-end, size-step}
use Rattle.kid_codec.proofs.Puts.{puts}
use Rattle.kid_codec.proofs.Taken.{values_each, entries_each, pushed, ended, member_put, set_read, entry_put}
use Rattle.kid_codec.proofs.value.+spelled_value.Goals as goal

pub values_from-loop-tree-preserved : goal.values_from-loop-tree-preserved
values_from-loop-tree-preserved t c = record {
  told = read-step values_each (λ vs. Some (c.loop-tree.values ++ vs)) (λ vs. Some (c.push.new.self ++ vs)) c.args.trees.now c.loop-tree.tree-index c.tree-item.result (plain c.in_ok-spelled_value.field-0) _
      c.loop-tree-test.true c.tree-item.is c.in_ok-spelled_value.ensures (λ vs. pushed c.loop-tree.values c.push.new.self (plain c.in_ok-spelled_value.field-0) vs c.in_ok-push.ensures.ok) c.loop-tree.invariant.told;
  size = size-step c.args.trees.now c.loop-tree.tree-index c.tree-item.result _ c.loop-tree-test.true c.tree-item.is c.loop-tree.invariant.size;
}

pub values_from-returns : goal.values_from-returns
values_from-returns t c = read-end values_each (λ vs. Some (c.loop-tree.values ++ vs)) c.args.trees.now c.loop-tree.tree-index _ c.loop-tree-test.false c.loop-tree.invariant.told ∙ ended c.loop-tree.values

pub members_from-loop-tree-preserved : goal.members_from-loop-tree-preserved
members_from-loop-tree-preserved t c = record {
  told = read-step values_each (λ vs. Some (puts c.loop-tree.members vs)) (λ vs. Some (puts c.put.new.self vs)) c.args.trees.now c.loop-tree.tree-index c.tree-item.result (plain c.in_ok-spelled_value.field-0) _
      c.loop-tree-test.true c.tree-item.is c.in_ok-spelled_value.ensures (λ vs. member_put c.loop-tree.members c.put.new.self (plain c.in_ok-spelled_value.field-0) vs c.in_ok-put.ensures.ok) c.loop-tree.invariant.told;
  size = size-step c.args.trees.now c.loop-tree.tree-index c.tree-item.result _ c.loop-tree-test.true c.tree-item.is c.loop-tree.invariant.size;
}

pub members_from-returns : goal.members_from-returns
members_from-returns t c = set_read _ ∙ read-end values_each (λ vs. Some (puts c.loop-tree.members vs)) c.args.trees.now c.loop-tree.tree-index _ c.loop-tree-test.false c.loop-tree.invariant.told

pub entries_from-loop-tree-preserved : goal.entries_from-loop-tree-preserved
entries_from-loop-tree-preserved t c = record {
  told = read-step entries_each (with_entries c.loop-tree.entries) (with_entries c.add_entry.new.entries) c.args.trees.now c.loop-tree.tree-index c.tree-item.result (plain_entry c.in_ok-entry.entry) _
      c.loop-tree-test.true c.tree-item.is c.in_ok-entry.ensures (λ es. entry_put c.loop-tree.entries c.add_entry.new.entries (plain_entry c.in_ok-entry.entry) es c.in_ok-add_entry.ensures) c.loop-tree.invariant.told;
  size = size-step c.args.trees.now c.loop-tree.tree-index c.tree-item.result _ c.loop-tree-test.true c.tree-item.is c.loop-tree.invariant.size;
}

pub entries_from-returns : goal.entries_from-returns
entries_from-returns t c = read-end entries_each (with_entries c.loop-tree.entries) c.args.trees.now c.loop-tree.tree-index _ c.loop-tree-test.false c.loop-tree.invariant.told
