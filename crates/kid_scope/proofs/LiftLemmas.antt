-- Rules that are made of what other crates give keep the value.
use Rattle.std.proofs.Common.{◌≡◌, Bool, true, false, List, [], Result, Ok, Err, refl, cond, subst}
use Rattle.kid_term.specs.PlainTerm.{PlainTerm}
use Rattle.kid_term.specs.declared.why.Why.{Why}
use Rattle.kid_scope.specs.Rewriting.{PlainInstance, Rule, KeepsValue}
use Rattle.kid_scope.specs.Instances.{termwise}
use Rattle.kid_scope.specs.Lifted.{lifted, KeepsUnder}
use Rattle.kid_scope.proofs.RuleLemmas.{termwise_keep}

-- what holds of all that is given holds of the instance
pub lifted-said : {A E : Type 0} (cs : A → List PlainTerm) (tm : A → PlainTerm) (why : E → Why) (P : List PlainTerm → PlainTerm → Type 0) (r : Result A E) (n : PlainInstance)
    → lifted cs tm why r ≡ Ok n → ((a : A) → r ≡ Ok a → P (cs a) (tm a)) → P n.conditions n.term
lifted-said cs tm why P (Ok a) n p h =
    let q : record { conditions = cs a; term = tm a; within = [] } ≡ n = cc in subst (λ z. P z.conditions z.term) q (h a refl)
lifted-said cs tm why P (Err e) n p h = cc

pub lift_keeps : {A E : Type 0} (cs : A → List PlainTerm) (tm : A → PlainTerm) (why : E → Why) (f : PlainTerm → Result A E)
    → ((old : PlainTerm) (a : A) → f old ≡ Ok a → KeepsUnder old (cs a) (tm a)) → KeepsValue (termwise (λ old. lifted cs tm why (f old)))
lift_keeps cs tm why f keeps =
    termwise_keep (λ old. lifted cs tm why (f old))
    (λ old new defs names env s s' p sound allowed fits q q' a.
    lifted-said cs tm why (KeepsUnder old) (f old) new p (λ b e. keeps old b e) defs names env s s' sound allowed fits q q' a)

-- a rule that is always refused, and one of two
pub refused_keeps : (why : Why) → KeepsValue (λ t sc old. Err why)
refused_keeps why = λ t sc old new s s' env sound scope met p. cc

pub either_keeps : (c : Bool) (r q : Rule) → KeepsValue r → KeepsValue q → KeepsValue (λ t sc old. cond c (r t sc old) (q t sc old))
either_keeps true r q k l = k
either_keeps false r q k l = l
