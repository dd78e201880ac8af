use Rattle.kid_sexp.specs.Tree.{plain}
use Rattle.kid_codec.proofs.Each.{print-step, print-end}
use Rattle.kid_form.proofs.ListLemmas.{puts}
use Rattle.kid_form.proofs.lists.put_each.Goals as goal

pub loop-item-preserved : goal.loop-item-preserved
loop-item-preserved g c =
    print-step (puts g.F.TreeForm.view g.F.TreeForm.form) c.loop-item.trees c.push.new.self _ c.args.items.now c.loop-item.item-index c.item-item.result (plain c.in_ok-tree.field-0)
    c.loop-item-test.true c.item-item.is c.in_ok-tree.ensures c.in_ok-push.ensures.ok c.loop-item.invariant

pub returns : goal.returns
returns g c = print-end (puts g.F.TreeForm.view g.F.TreeForm.form) c.loop-item.trees _ c.args.items.now c.loop-item.item-index c.loop-item-test.false c.loop-item.invariant
