use Rattle.std.proofs.Common.{◌≡◌, map, subst}
use Rattle.std.specs.Prelude.{IfOk, option_map}
use Rattle.kid_value.specs.SortView.{plain_sort}
use Rattle.kid_term.specs.DefView.{plain_def}
use Rattle.kid_prog.specs.StmtView.{plain_stmt}
use Rattle.kid_prog.proofs.Settings.{main-sorted}
use Rattle.kid_prog.proofs.forms.main_sorted.Goals as goal

pub returns : goal.returns
returns c =
    let e = main-sorted c.args.signature.now (plain_sort c.args.sort.now) (option_map (λ ps. ps.now) c.args.parameters) (map plain_def c.definitions.result.now) c.names.result.now c.in_ok-names.names
    (map plain_stmt c.items.result.now) c.args.statements.now
    c.definitions.ensures c.names.ensures c.in_ok-names.ensures c.items.ensures in
    subst (λ t. IfOk c.obeys.result (λ b. b ≡ t)) e c.obeys.ensures
