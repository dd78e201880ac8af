use Rattle.std.proofs.Common.{◌++◌, Some, ◌∙◌}
use Rattle.kid_term.specs.TermView.{plain_term}
use Rattle.kid_codec.proofs.Each.{read-step, read-end}
use Rattle.kid_codec.proofs.Taken.{pushed, ended}
use Rattle.kid_lines.proofs.ListLemmas.{terms_each}
use Rattle.kid_lines.proofs.terms.plain_terms_of.Goals as goal

pub loop-tree-preserved : goal.loop-tree-preserved
loop-tree-preserved c =
    let x = plain_term c.in_ok-plain_term_of.field-0 in
    read-step terms_each (λ us. Some (c.loop-tree.terms ++ us)) (λ us. Some (c.push.new.self ++ us)) c.args.trees.now c.loop-tree.tree-index c.tree-item.result x _
    c.loop-tree-test.true c.tree-item.is c.in_ok-plain_term_of.ensures (λ us. pushed c.loop-tree.terms c.push.new.self x us c.in_ok-push.ensures.ok) c.loop-tree.invariant

pub returns : goal.returns
returns c = read-end terms_each (λ us. Some (c.loop-tree.terms ++ us)) c.args.trees.now c.loop-tree.tree-index _ c.loop-tree-test.false c.loop-tree.invariant ∙ ended c.loop-tree.terms
