-- Too many arguments, and what the outcome tells.
use Rattle.std.proofs.Common.{◌≡◌, ℕ, ◌≤◌, Bool, true, false, List, [], ◌∷◌, length, map, Ok, Err, Result, refl, arith}
use Rattle.std.specs.Prelude.{IfOk}
use Rattle.kid_term.specs.PlainTerm.{PlainTerm}
use Rattle.kid_term.specs.TermView.{plain_term}
use Rattle.kid_term.specs.declared.Term.{Term}
use Rattle.kid_binders.specs.declared.bound.Bound.{Bound}
use Rattle.kid_binders.specs.declared.bound.RuleFault.{RuleFault}
use Rattle.kid_binders.specs.Laws.{KeepsValue}
use Rattle.kid_binders.specs.Outcome.{Gives, plain_bound, no_match}
use Rattle.kid_binders.specs.Rules.{bound_by}
use Rattle.kid_binders.proofs.RulesTrue.{rules_keep_values}

pub too_many : (n : ℕ) (b : Bool) (ts : List Term) (t : PlainTerm) → 2 ≤ length ts → bound_by n b (map plain_term ts) t ≡ no_match
too_many n b [] t h = absurd (omega arith)
too_many n b (x ∷ []) t h = absurd (omega arith)
too_many n true (x ∷ y ∷ ts) t h = refl
too_many n false (x ∷ y ∷ ts) t h = refl

pub outcome_true : (n : ℕ) (back : Bool) (args : List PlainTerm) (t : PlainTerm) (r : Result Bound RuleFault) → Gives r (bound_by n back args t) → IfOk r (λ b. KeepsValue t (plain_bound b))
outcome_true n back args t (Ok b) h = rules_keep_values n back args t (plain_bound b) h
outcome_true n back args t (Err e) h = tt
