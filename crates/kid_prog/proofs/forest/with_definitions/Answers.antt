use Rattle.kid_sexp.specs.Tree.{plain as plain_tree}
use Rattle.kid_codec.proofs.Each.{print-step, print-end}
use Rattle.kid_prog.proofs.Trees.{defs_print, defs_test, test-step}
use Rattle.kid_prog.proofs.forest.with_definitions.Goals as goal

pub definition_tree-requires : goal.definition_tree-requires
definition_tree-requires c = (test-step defs_test c.args.definitions.now c.loop-definition.definition-index c.definition-item.result c.loop-definition-test.true c.definition-item.is c.loop-definition.invariant.spelled).0

pub loop-definition-preserved : goal.loop-definition-preserved
loop-definition-preserved c = record {
  told = print-step defs_print c.loop-definition.trees c.push.new.self _ c.args.definitions.now c.loop-definition.definition-index c.definition-item.result (plain_tree c.in_ok-definition_tree.field-0)
      c.loop-definition-test.true c.definition-item.is c.in_ok-definition_tree.ensures c.in_ok-push.ensures.ok c.loop-definition.invariant.told;
  spelled = (test-step defs_test c.args.definitions.now c.loop-definition.definition-index c.definition-item.result c.loop-definition-test.true c.definition-item.is c.loop-definition.invariant.spelled).1;
}

pub returns : goal.returns
returns c = print-end defs_print c.loop-definition.trees _ c.args.definitions.now c.loop-definition.definition-index c.loop-definition-test.false c.loop-definition.invariant.told
