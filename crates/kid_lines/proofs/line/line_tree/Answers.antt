use Rattle.std.proofs.Common.{◌≡◌, Some, ap, ◌∙◌}
use Rattle.std.proofs.lemmas.Result.{IfOk-weaker}
use Rattle.kid_sexp.specs.Tree.{plain}
use Rattle.kid_sexp.specs.declared.tree.Tree.{Tree}
use Rattle.kid_moves.specs.RuleView.{plain_line}
use Rattle.kid_lines.specs.LineReading.{spelled_line}
use Rattle.kid_lines.specs.LineSpelling.{line_spelling}
use Rattle.kid_lines.proofs.LinesRead.{line_back}
use Rattle.kid_lines.proofs.line.line_tree.Goals as goal

pub returns-clause-back : goal.returns-clause-back
returns-clause-back c =
    IfOk-weaker c.tree_of_line.result (λ (t : Tree). plain t ≡ line_spelling (plain_line c.args.line.now)) (λ (t : Tree). spelled_line (plain t) ≡ Some (plain_line c.args.line.now))
    (λ t p. ap spelled_line p ∙ line_back (plain_line c.args.line.now) c.requires) c.tree_of_line.ensures
