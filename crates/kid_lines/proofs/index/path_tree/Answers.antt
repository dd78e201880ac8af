use Rattle.std.proofs.Common.{sym, ap}
use Rattle.std.proofs.lemmas.Grind.{get_or_default_zero}
use Rattle.kid_sexp.specs.Plain.{list}
use Rattle.kid_sexp.specs.Tree.{plain}
use Rattle.kid_codec.proofs.Each.{print-step, print-end}
use Rattle.kid_lines.proofs.ListLemmas.{indexes_print}
use Rattle.kid_lines.proofs.index.path_tree.Goals as goal

pub loop-step-preserved : goal.loop-step-preserved
loop-step-preserved c =
    print-step indexes_print c.loop-step.trees c.push.new.self _ c.args.path.now c.loop-step.step-index _ (plain c.in_ok-index_tree.field-0)
    c.loop-step-test.true (sym (get_or_default_zero c.args.path.now c.loop-step.step-index _ c.loop-step-test.true)) c.in_ok-index_tree.ensures c.in_ok-push.ensures.ok c.loop-step.invariant

pub returns : goal.returns
returns c = ap list (print-end indexes_print c.loop-step.trees _ c.args.path.now c.loop-step.step-index c.loop-step-test.false c.loop-step.invariant)
