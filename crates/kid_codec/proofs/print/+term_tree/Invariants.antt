use Rattle.std.proofs.Common.{◌≡◌, ◌+◌, ◌*◌, ◌≤◌, drop, map}
use Rattle.kid_sexp.specs.Plain.{join}
use Rattle.kid_term.specs.PlainTerm.{depth, depths, term_row}
use Rattle.kid_term.specs.TermView.{plain_term}
use Rattle.kid_codec.specs.TermSpelling.{term_spellings}
use Rattle.kid_codec.proofs.print.+term_tree.Given as goal

abbrev pub decreases-tree_of_term : goal.decreases-tree_of_term
decreases-tree_of_term l = 2 * depth (plain_term l.term.now)

abbrev pub decreases-terms_tree : goal.decreases-terms_tree
decreases-terms_tree l = 2 * depths (term_row (map plain_term l.terms.now)) + 1

abbrev pub invariant-terms_tree-loop-term : goal.invariant-terms_tree-loop-term
invariant-terms_tree-loop-term l = record {
  told : join l.trees (term_spellings (term_row (map plain_term (drop l.term-index l.terms)))) ≡ join l.initial.trees (term_spellings (term_row (map plain_term l.terms)));
  deep : depths (term_row (map plain_term (drop l.term-index l.terms))) ≤ depths (term_row (map plain_term l.terms));
}
