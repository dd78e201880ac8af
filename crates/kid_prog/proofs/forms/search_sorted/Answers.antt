use Rattle.std.proofs.Common.{◌≡◌, map, sym, ◌∙◌, subst}
use Rattle.std.specs.Prelude.{IfOk}
use Rattle.kid_value.specs.SortView.{plain_sort}
use Rattle.kid_term.specs.DefView.{plain_def}
use Rattle.kid_prog.specs.StmtView.{plain_stmt}
use Rattle.kid_prog.proofs.Settings.{search-sorted}
use Rattle.kid_prog.proofs.forms.search_sorted.Goals as goal

pub returns : goal.returns
returns c =
    let allowed = sym c.are_allowed.ensures ∙ c.if-not-are_allowed.false in
    let e = search-sorted c.args.signature.now (plain_sort c.args.sort.now) c.args.parameters.now (map plain_def c.definitions.result.now) c.names.result.now c.in_ok-names.names
    (map plain_stmt c.items.result.now) c.args.statements.now
    allowed c.definitions.ensures c.names.ensures c.in_ok-names.ensures c.items.ensures in
    subst (λ t. IfOk c.obeys.result (λ b. b ≡ t)) e c.obeys.ensures
