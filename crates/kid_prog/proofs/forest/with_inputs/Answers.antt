use Rattle.kid_sexp.specs.Tree.{plain as plain_tree}
use Rattle.kid_codec.proofs.Each.{print-step, print-end}
use Rattle.kid_prog.proofs.Trees.{inputs_print, names_test, test-step}
use Rattle.kid_prog.proofs.forest.with_inputs.Goals as goal

pub input_tree-requires : goal.input_tree-requires
input_tree-requires c = (test-step names_test c.args.inputs.now c.loop-input.input-index c.input-item.result c.loop-input-test.true c.input-item.is c.loop-input.invariant.spelled).0

pub loop-input-preserved : goal.loop-input-preserved
loop-input-preserved c = record {
  told = print-step inputs_print c.loop-input.trees c.push.new.self _ c.args.inputs.now c.loop-input.input-index c.input-item.result (plain_tree c.in_ok-input_tree.field-0)
      c.loop-input-test.true c.input-item.is c.in_ok-input_tree.ensures c.in_ok-push.ensures.ok c.loop-input.invariant.told;
  spelled = (test-step names_test c.args.inputs.now c.loop-input.input-index c.input-item.result c.loop-input-test.true c.input-item.is c.loop-input.invariant.spelled).1;
}

pub returns : goal.returns
returns c = print-end inputs_print c.loop-input.trees _ c.args.inputs.now c.loop-input.input-index c.loop-input-test.false c.loop-input.invariant.told
