use Rattle.std.proofs.Common.{◌≡◌, Ok, ap, ◌∙◌}
use Rattle.std.proofs.lemmas.Result.{IfOk-weaker}
use Rattle.kid_sexp.specs.Tree.{plain as plain_tree}
use Rattle.kid_sexp.specs.declared.tree.Tree.{Tree}
use Rattle.kid_term.specs.TermView.{plain_term}
use Rattle.kid_codec.specs.TermSpelling.{term_spelling, term_reading}
use Rattle.kid_codec.proofs.TermBack.{term_reads_back}
use Rattle.kid_codec.proofs.print.term_tree.Goals as goal

pub returns-clause-back : goal.returns-clause-back
returns-clause-back c =
    IfOk-weaker c.tree_of_term.result (λ (t : Tree). plain_tree t ≡ term_spelling (plain_term c.args.term.now)) (λ (t : Tree). term_reading (plain_tree t) ≡ Ok (plain_term c.args.term.now))
    (λ t p. ap term_reading p ∙ term_reads_back (plain_term c.args.term.now) c.requires) c.tree_of_term.ensures
