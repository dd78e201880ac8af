-- Each rule keeps the value: its new term has that of the old one. These are terms that apply laws of the crates below.
use Rattle.std.specs.Prelude.{◌≡◌, ℕ, Bool, true, false, List, [], ◌∷◌, Option, Some, Ok, refl}
use Rattle.kid_term.specs.PlainTerm.{PlainTerm}
use Rattle.kid_term.specs.Names.{Names}
use Rattle.kid_term.specs.Simultaneous.{Subst}
use Rattle.kid_term.specs.declared.why.Why.TheVariants.{UnknownLaw}
use Rattle.kid_laws.specs.Applied.{applied_by, matched_terms, zipped}
use Rattle.kid_laws.proofs.AppliedTrue.{equations_keep_values}
use Rattle.kid_laws.proofs.ApplyLemmas.{matched_terms-stands}
use Rattle.kid_binders.specs.Rules.{bound_by}
use Rattle.kid_binders.proofs.RulesTrue.{rules_keep_values}
use Rattle.kid_scope.specs.Instances.{termwise}
use Rattle.kid_scope.specs.LawRules.{StandsFor}
use Rattle.kid_scope.specs.Rewriting.{Rule, KeepsValue}
use Rattle.kid_scope.proofs.LawRuleLemmas.{by_law-keeps, stands_for, zipped_paired}
use Rattle.kid_scope.proofs.LiftLemmas.{lift_keeps, refused_keeps, either_keeps}
use Rattle.kid_scope.proofs.RuleLemmas.{place_rules_keep}
use Rattle.kid_moves.specs.PlainRule.{PlainRule, by_equation, by_implication, by_binder, by_law, by_unfolding, by_folding, by_computing, by_fact, by_holding, by_failing, by_uncasting}
use Rattle.kid_kernel.specs.Rules.{rule_of, is_binder_rule, of_binder, unknown, why_of_law, why_of_binder}

-- the terms by which a side of a law is the term stand for its variables
pub matched_stand : StandsFor matched_terms
matched_stand = stands_for matched_terms zipped (zipped_paired zipped (λ ts. refl) (λ x xs. refl) (λ x xs t ts. refl)) matched_terms-stands

pub equation_keeps : (n : ℕ) (back : Bool) (args : List PlainTerm) → KeepsValue (rule_of (by_equation n) back args)
equation_keeps n back args = lift_keeps (λ a. a.conditions) (λ a. a.term) why_of_law (λ old. applied_by n back args old) (λ old a e. equations_keep_values n back args old a e)

pub binder_keeps : (n : ℕ) (back : Bool) (args : List PlainTerm) → KeepsValue (rule_of (by_binder n) back args)
binder_keeps n back args =
    either_keeps (is_binder_rule n) (termwise (λ old. of_binder (bound_by n back args old))) unknown
    (lift_keeps (λ b. b.conditions) (λ b. b.term) why_of_binder (λ old. bound_by n back args old) (λ old b e. rules_keep_values n back args old b e)) (refused_keeps UnknownLaw)

pub rules_keep : (rule : PlainRule) (back : Bool) (args : List PlainTerm) → KeepsValue (rule_of rule back args)
rules_keep (by_equation n) back args = equation_keeps n back args
rules_keep (by_implication n) back args = refused_keeps UnknownLaw
rules_keep (by_binder n) back args = binder_keeps n back args
rules_keep (by_law f) back args = by_law-keeps matched_terms matched_stand f back args
rules_keep by_unfolding back args = place_rules_keep.unfolds back args
rules_keep (by_folding f) back args = place_rules_keep.folds f back args
rules_keep by_computing back args = place_rules_keep.computes back args
rules_keep (by_fact k) back args = place_rules_keep.uses k back args
rules_keep by_holding back args = place_rules_keep.holds back args
rules_keep by_failing back args = place_rules_keep.fails back args
rules_keep by_uncasting back args = place_rules_keep.uncasts back args
