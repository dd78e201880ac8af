use Rattle.std.proofs.Common.{◌≡◌, ◌∙◌, sym, subst, ap, IfOk}
use Rattle.kid_term.specs.Fitting.{AreSound}
use Rattle.kid_term.specs.TermView.{plain_term}
use Rattle.kid_scope.specs.Holds.{holds}
use Rattle.kid_kernel.specs.Placed.{top_scope}
use Rattle.kid_kernel.specs.ScopeView.{plain_scope}
use Rattle.kid_kernel.specs.TheoryView.{plain_theory}
use Rattle.kid_kernel.proofs.facts.Facts.holds.Goals as goal

pub holds-requires : goal.holds-requires
holds-requires c =
    subst AreSound (sym c.in_ok-scope.ensures.definitions) (c.self.invariant.0 (plain_theory c.args.theory.now) (c.requires ∙ ap (λ f. f.theory) (sym c.self.view_is))).theory.sound

pub returns : goal.returns
returns c =
    subst (λ sc. IfOk c.holds.result (λ b. b ≡ holds c.args.theory.now.signature.definitions sc (plain_term c.args.condition.now)))
    (c.in_ok-scope.ensures.scope ∙ ap (top_scope c.self.inside.names) c.items.ensures ∙ ap (λ f. top_scope f.names f.facts) c.self.view_is)
    (subst (λ d. IfOk c.holds.result (λ b. b ≡ holds d (plain_scope c.in_ok-scope.scope) (plain_term c.args.condition.now))) c.in_ok-scope.ensures.definitions c.holds.ensures)
