use Rattle.std.proofs.Common.{ap}
use Rattle.kid_sexp.specs.Plain.{list}
use Rattle.kid_sexp.specs.Tree.{plain as plain_tree}
use Rattle.kid_codec.proofs.Each.{print-step, print-end}
use Rattle.kid_codec.proofs.Printed.{terms_print, terms_deep}
use Rattle.kid_codec.proofs.print.+term_tree.Goals as goal

pub terms_tree-loop-term-preserved : goal.terms_tree-loop-term-preserved
terms_tree-loop-term-preserved t c = record {
  told = print-step terms_print c.loop-term.trees c.push.new.self _ c.args.terms.now c.loop-term.term-index c.term-item.result (plain_tree c.in_ok-tree_of_term.field-0)
      c.loop-term-test.true c.term-item.is c.in_ok-tree_of_term.ensures c.in_ok-push.ensures.ok c.loop-term.invariant.told;
  deep = terms_deep c.args.terms.now c.loop-term.term-index c.term-item.result _ c.loop-term-test.true c.term-item.is c.loop-term.invariant.deep;
}

pub terms_tree-returns : goal.terms_tree-returns
terms_tree-returns t c = ap list (print-end terms_print c.loop-term.trees _ c.args.terms.now c.loop-term.term-index c.loop-term-test.false c.loop-term.invariant.told)
