use Rattle.kid_sexp.specs.Tree.{plain as plain_tree}
use Rattle.kid_codec.proofs.Each.{print-step, print-end}
use Rattle.kid_codec.proofs.Printed.{terms_print}
use Rattle.kid_prog.proofs.Trees.{terms_test, test-step}
use Rattle.kid_prog.proofs.forest.with_terms.Goals as goal

pub term_tree-requires : goal.term_tree-requires
term_tree-requires c = (test-step terms_test c.args.terms.now c.loop-term.term-index c.term-item.result c.loop-term-test.true c.term-item.is c.loop-term.invariant.spelled).0

pub loop-term-preserved : goal.loop-term-preserved
loop-term-preserved c = record {
  told = print-step terms_print c.loop-term.trees c.push.new.self _ c.args.terms.now c.loop-term.term-index c.term-item.result (plain_tree c.in_ok-term_tree.field-0)
      c.loop-term-test.true c.term-item.is c.in_ok-term_tree.ensures.spelling c.in_ok-push.ensures.ok c.loop-term.invariant.told;
  spelled = (test-step terms_test c.args.terms.now c.loop-term.term-index c.term-item.result c.loop-term-test.true c.term-item.is c.loop-term.invariant.spelled).1;
}

pub returns : goal.returns
returns c = print-end terms_print c.loop-term.trees _ c.args.terms.now c.loop-term.term-index c.loop-term-test.false c.loop-term.invariant.told
