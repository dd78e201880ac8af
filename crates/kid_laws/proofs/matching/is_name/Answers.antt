use Rattle.std.proofs.Common.{◌∙◌, ap, sym}
use Rattle.kid_term.specs.PlainTerm.{var}
use Rattle.kid_term.specs.TermView.{plain_term}
use Rattle.kid_laws.specs.Same.{same_term}
use Rattle.kid_laws.proofs.WalkLemmas.{name-decides, literal-no_name, app-no_name, bind-no_name}
use Rattle.kid_laws.proofs.matching.is_name.Goals as goal

pub returns-in-Var : goal.returns-in-Var
returns-in-Var c = name-decides c.same.result c.in-Var.y c.args.x.now c.same.ensures ∙ ap (λ t. same_term (plain_term t) (var c.args.x.now)) (sym c.in-Var.is)

pub returns-in-Lit : goal.returns-in-Lit
returns-in-Lit c = literal-no_name c.in-Lit.field-0 c.args.x.now ∙ ap (λ t. same_term (plain_term t) (var c.args.x.now)) (sym c.in-Lit.is)

pub returns-in-App : goal.returns-in-App
returns-in-App c = app-no_name _ _ c.args.x.now ∙ ap (λ t. same_term (plain_term t) (var c.args.x.now)) (sym c.in-App.is)

pub returns-in-Bind : goal.returns-in-Bind
returns-in-Bind c = bind-no_name _ _ _ _ c.args.x.now ∙ ap (λ t. same_term (plain_term t) (var c.args.x.now)) (sym c.in-Bind.is)
