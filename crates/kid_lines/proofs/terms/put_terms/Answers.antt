use Rattle.kid_sexp.specs.Tree.{plain}
use Rattle.kid_codec.proofs.Each.{print-step, print-end}
use Rattle.kid_codec.proofs.Printed.{terms_print}
use Rattle.kid_lines.proofs.terms.put_terms.Goals as goal

pub loop-term-preserved : goal.loop-term-preserved
loop-term-preserved c =
    print-step terms_print c.loop-term.trees c.push.new.self _ c.args.terms.now c.loop-term.term-index c.term-item.result (plain c.in_ok-tree_of_term.field-0)
    c.loop-term-test.true c.term-item.is c.in_ok-tree_of_term.ensures c.in_ok-push.ensures.ok c.loop-term.invariant

pub returns : goal.returns
returns c = print-end terms_print c.loop-term.trees _ c.args.terms.now c.loop-term.term-index c.loop-term-test.false c.loop-term.invariant
