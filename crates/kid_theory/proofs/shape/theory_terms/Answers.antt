use Rattle.std.proofs.Common.{◌++◌, Some, ◌∙◌}
use Rattle.kid_term.specs.TermView.{plain_term}
use Rattle.kid_codec.proofs.Each.{read-step, read-end}
use Rattle.kid_codec.proofs.Taken.{pushed, ended}
use Rattle.kid_theory.proofs.TermRows.{theory_terms_each}
use Rattle.kid_theory.proofs.shape.theory_terms.Goals as goal

pub loop-tree-preserved : goal.loop-tree-preserved
loop-tree-preserved c = read-step theory_terms_each (λ vs. Some (c.loop-tree.terms ++ vs)) (λ vs. Some (c.push.new.self ++ vs)) c.args.trees.now c.loop-tree.tree-index c.tree-item.result (plain_term c.in_ok-theory_term.field-0) _
    c.loop-tree-test.true c.tree-item.is c.in_ok-theory_term.ensures (λ vs. pushed c.loop-tree.terms c.push.new.self (plain_term c.in_ok-theory_term.field-0) vs c.in_ok-push.ensures.ok) c.loop-tree.invariant

pub returns : goal.returns
returns c = read-end theory_terms_each (λ vs. Some (c.loop-tree.terms ++ vs)) c.args.trees.now c.loop-tree.tree-index _ c.loop-tree-test.false c.loop-tree.invariant ∙ ended c.loop-tree.terms
