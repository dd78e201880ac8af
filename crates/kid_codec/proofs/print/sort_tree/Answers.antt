use Rattle.std.proofs.Common.{◌≡◌, Ok, ap, ◌∙◌}
use Rattle.std.proofs.lemmas.Result.{IfOk-weaker}
use Rattle.kid_sexp.specs.Tree.{plain as plain_tree}
use Rattle.kid_sexp.specs.declared.tree.Tree.{Tree}
use Rattle.kid_value.specs.SortView.{plain_sort}
use Rattle.kid_codec.specs.SortSpelling.{sort_spelling, sort_reading}
use Rattle.kid_codec.proofs.SortBack.{sort_reads_back}
use Rattle.kid_codec.proofs.print.sort_tree.Goals as goal

pub returns-clause-back : goal.returns-clause-back
returns-clause-back c =
    IfOk-weaker c.tree_of_sort.result (λ (t : Tree). plain_tree t ≡ sort_spelling (plain_sort c.args.sort.now)) (λ (t : Tree). sort_reading (plain_tree t) ≡ Ok (plain_sort c.args.sort.now))
    (λ t p. ap sort_reading p ∙ sort_reads_back (plain_sort c.args.sort.now) c.requires) c.tree_of_sort.ensures
