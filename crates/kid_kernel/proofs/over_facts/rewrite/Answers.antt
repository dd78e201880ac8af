use Rattle.std.proofs.Common.{map, subst}
use Rattle.std.specs.Prelude.{IfOk}
use Rattle.kid_term.specs.TermView.{plain_term}
use Rattle.kid_kernel.specs.Placed.{KeepsAt, top_scope}
use Rattle.kid_kernel.specs.TheoryView.{plain_theory}
use Rattle.kid_kernel.proofs.KeepingLemmas.{kept_over}
use Rattle.kid_kernel.proofs.over_facts.rewrite.Goals as goal

pub returns-clause-kept : goal.returns-clause-kept
returns-clause-kept c =
    kept_over (plain_theory c.args.theory.now) c.args.facts.now.names c.args.facts.now.start c.args.facts.now.facts (plain_term c.args.term) c.rewrite_line.result c.follow.ensures
    (subst (λ fs. IfOk c.rewrite_line.result (λ new. KeepsAt (plain_theory c.args.theory.now) (top_scope c.args.facts.now.names fs) (plain_term c.args.term) (plain_term new))) c.items.ensures
    (subst (λ ns. IfOk c.rewrite_line.result (λ new. KeepsAt (plain_theory c.args.theory.now) (top_scope ns (map plain_term c.items.result.now)) (plain_term c.args.term) (plain_term new)))
    c.names.ensures c.rewrite_line.ensures.kept))
