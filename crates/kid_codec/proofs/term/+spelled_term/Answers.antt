use Rattle.std.proofs.Common.{◌++◌, List, Some, sym, ◌∙◌, subst}
use Rattle.std.specs.Prelude.{option_map}
use Rattle.kid_sexp.specs.Tree.{plains}
use Rattle.kid_sexp.specs.declared.tree.Tree.{Tree}
use Rattle.kid_term.specs.PlainTerm.{PlainTerm}
use Rattle.kid_term.specs.TermView.{plain_term}
use Rattle.kid_term.specs.declared.operator.Binder.{Binder}
use Rattle.kid_codec.specs.Reading.{Finds}
use Rattle.kid_codec.specs.TermSpelling.{spelled_body}
use Rattle.kid_codec.proofs.Each.{read-step, read-end, size-step}
use Rattle.kid_codec.proofs.Taken.{terms_each, pushed, ended}
use Rattle.kid_codec.proofs.term.+spelled_term.Goals as goal

pub terms_from-loop-tree-preserved : goal.terms_from-loop-tree-preserved
terms_from-loop-tree-preserved t c = record {
  told = read-step terms_each (λ vs. Some (c.loop-tree.terms ++ vs)) (λ vs. Some (c.push.new.self ++ vs)) c.args.trees.now c.loop-tree.tree-index c.tree-item.result (plain_term c.in_ok-spelled_term.field-0) _
      c.loop-tree-test.true c.tree-item.is c.in_ok-spelled_term.ensures (λ vs. pushed c.loop-tree.terms c.push.new.self (plain_term c.in_ok-spelled_term.field-0) vs c.in_ok-push.ensures.ok) c.loop-tree.invariant.told;
  size = size-step c.args.trees.now c.loop-tree.tree-index c.tree-item.result _ c.loop-tree-test.true c.tree-item.is c.loop-tree.invariant.size;
}

pub terms_from-returns : goal.terms_from-returns
terms_from-returns t c = read-end terms_each (λ vs. Some (c.loop-tree.terms ++ vs)) c.args.trees.now c.loop-tree.tree-index _ c.loop-tree-test.false c.loop-tree.invariant.told ∙ ended c.loop-tree.terms

pub bound_from-returns-in-Some : goal.bound_from-returns-in-Some
bound_from-returns-in-Some t c =
    subst (λ (ts : List Tree). Finds plain_term c.bound_of.result (option_map (λ (f : Binder → PlainTerm). f c.args.binder) (spelled_body (plains ts)))) (sym c.in-Some.ensures) c.bound_of.ensures
