use Rattle.std.proofs.Common.{◌∙◌, Result, Ok, Err}
use Rattle.std.specs.Prelude.{◌≡◌, IfOk}
use Rattle.kid_term.specs.PlainTerm.{PlainTerm}
use Rattle.kid_term.specs.TermView.{plain_term}
use Rattle.kid_term.specs.declared.Term.{Term}
use Rattle.kid_term.proofs.SimultaneousLemmas.{substituted-one}
use Rattle.kid_term.proofs.Term.replaced.Goals as goal

same_for : {E : Type 0} (r : Result Term E) (t u : PlainTerm) → t ≡ u → IfOk r (λ s. plain_term s ≡ t) → IfOk r (λ s. plain_term s ≡ u)
same_for (Ok s) t u e h = h ∙ e
same_for (Err x) t u e h = tt

pub returns : goal.returns
returns c = same_for c.substituted.result _ _ (substituted-one c.args.x.now (plain_term c.args.new.now) (plain_term c.args.self.now)) c.substituted.ensures
