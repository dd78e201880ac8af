use Rattle.std.proofs.Common.{◌≡◌, Some, ap, ◌∙◌}
use Rattle.std.proofs.lemmas.Result.{IfOk-weaker}
use Rattle.kid_sexp.specs.Tree.{plain as plain_tree}
use Rattle.kid_sexp.specs.declared.tree.Tree.{Tree}
use Rattle.kid_value.specs.ValueView.{plain}
use Rattle.kid_codec.specs.SpelledValue.{Spells}
use Rattle.kid_codec.specs.ValueSpelling.{value_spelling, spelled_value}
use Rattle.kid_codec.proofs.SpelledTold.{value_told}
use Rattle.kid_codec.proofs.ValueBack.{value_back}
use Rattle.kid_codec.proofs.print.value_tree.Goals as goal

pub returns-clause-back : goal.returns-clause-back
returns-clause-back c =
    IfOk-weaker c.tree_of_value.result (λ (t : Tree). plain_tree t ≡ value_spelling (plain c.args.value.now)) (λ (t : Tree). spelled_value (plain_tree t) ≡ Some (plain c.args.value.now))
    (λ t p. ap spelled_value p ∙ value_back (plain c.args.value.now) c.canonical.ensures.canonical c.requires) c.tree_of_value.ensures

pub returns-clause-spells : goal.returns-clause-spells
returns-clause-spells c =
    IfOk-weaker c.tree_of_value.result (λ (t : Tree). plain_tree t ≡ value_spelling (plain c.args.value.now)) (λ (t : Tree). Spells (plain_tree t) (plain c.args.value.now))
    (λ t p. value_told (plain_tree t) (plain c.args.value.now) (ap spelled_value p ∙ value_back (plain c.args.value.now) c.canonical.ensures.canonical c.requires)) c.tree_of_value.ensures
