use Rattle.std.proofs.Common.{◌≡◌, ◌++◌, ℕ, List, ◌∷◌, IfOk, option_map, map, sym, ap, ◌∙◌, subst}
use Rattle.kid_sexp.specs.declared.tree.Tree.{Tree}
use Rattle.kid_sexp.specs.Tree.{plain as plain_tree, plains}
use Rattle.kid_value.specs.declared.sort.Sort.{Sort}
use Rattle.kid_value.specs.NameView.{plain_name}
use Rattle.kid_value.specs.ValueView.{plain}
use Rattle.kid_run.specs.InputReading.{values_from}
use Rattle.kid_run.proofs.InputLemmas.{values_more}
use Rattle.kid_run.proofs.inputs.+values_after.Goals as goal

pub returns-in_ok-push-in-Some-Some-clause-values : goal.returns-in_ok-push-in-Some-Some-clause-values
returns-in_ok-push-in-Some-Some-clause-values t c =
    let r = c.values_after.result in
    let name = c.in-Some-Some.name.now in
    let tree = c.in-Some-Some.tree.now in
    subst (λ (ns : List (List ℕ × Sort)). IfOk r (λ v. v ≡ option_map (λ rest. c.args.values ++ rest) (values_from (map plain_name ns) (plains c.args.trees.now)))) (sym c.in-Some-Some.ensures.cases.0)
    (subst (λ (ts : List Tree). IfOk r (λ v. v ≡ option_map (λ rest. c.args.values ++ rest) (values_from (map plain_name (name ∷ c.in-Some-Some.names.now)) (plains ts)))) (sym c.in-Some-Some.ensures'.cases.0)
    (values_more (plain_name name) (map plain_name c.in-Some-Some.names.now) (plain_tree tree) (plains c.in-Some-Some.trees.now) c.args.values (plain c.in-Some.value)
    c.push.new.self r (sym c.in_ok-value-in-Some-Some.ensures.value ∙ ap (option_map plain) c.in-Some.is) c.in_ok-push-in-Some-Some.ensures.ok c.values_after.ensures.values))
