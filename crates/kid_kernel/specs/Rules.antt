-- What each rule makes of a term, a term after lines, and what a rule concludes of terms.
use Rattle.std.specs.Prelude.{ℕ, Bool, nat_le, ◌&&◌, cond, List, [], ◌∷◌, Option, Result, Ok, Err}
use Rattle.kid_term.specs.Names.{Names, PlainDef}
use Rattle.kid_term.specs.PlainTerm.{PlainTerm}
use Rattle.kid_term.specs.Chain.{◌>>=◌}
use Rattle.kid_term.specs.PlainTheory.{PlainTheory}
use Rattle.kid_term.specs.declared.why.Why.{Why}
use Rattle.kid_term.specs.declared.why.Why.TheVariants as why
use Rattle.kid_laws.specs.Applied.{PlainApplied, applied_by, concluded_by, matched_terms}
use Rattle.kid_laws.specs.declared.parts.ApplyFault.{ApplyFault}
use Rattle.kid_laws.specs.declared.parts.ApplyFault.TheVariants as law_fault
use Rattle.kid_binders.specs.Outcome.{PlainBound}
use Rattle.kid_binders.specs.Rules.{bound_by}
use Rattle.kid_binders.specs.declared.bound.RuleFault.{RuleFault}
use Rattle.kid_binders.specs.declared.bound.RuleFault.TheVariants as binder_fault
use Rattle.kid_scope.specs.Instances.{termwise}
use Rattle.kid_scope.specs.LawRules as of_theory
use Rattle.kid_scope.specs.Lifted.{lifted}
use Rattle.kid_scope.specs.Rewriting.{PlainInstance, Rule, licensed, settled, rewritten}
use Rattle.kid_scope.specs.Scope.{PlainScope}
use Rattle.kid_scope.specs.Settling.{compute, holds, fails}
use Rattle.kid_scope.specs.Uncasting.{uncast}
use Rattle.kid_scope.specs.Unfolding.{unfold_call, fold_call}
use Rattle.kid_scope.specs.Using.{use_fact}
use Rattle.kid_moves.specs.PlainRule.{PlainRule, by_equation, by_implication, by_binder, by_law, by_unfolding, by_folding, by_computing, by_fact, by_holding, by_failing, by_uncasting, PlainLine}

abbrev pub why_of_law : ApplyFault → Why
why_of_law law_fault.NoLaw = why.UnknownLaw
why_of_law law_fault.NoMatch = why.NoMatch
why_of_law law_fault.Memory = why.Memory

abbrev pub why_of_binder : RuleFault → Why
why_of_binder binder_fault.NoMatch = why.NoMatch
why_of_binder binder_fault.Capture = why.Capture
why_of_binder binder_fault.Memory = why.Memory

abbrev pub of_law : Result PlainApplied ApplyFault → Result PlainInstance Why
of_law r = lifted (λ a. a.conditions) (λ a. a.term) why_of_law r

abbrev pub of_binder : Result PlainBound RuleFault → Result PlainInstance Why
of_binder r = lifted (λ b. b.conditions) (λ b. b.term) why_of_binder r

-- there are 18 binder rules
abbrev pub is_binder_rule : ℕ → Bool
is_binder_rule n = nat_le 1 n && nat_le n 18

abbrev pub of_binder_number : ℕ → Result PlainBound RuleFault → Result PlainInstance Why
of_binder_number n r = cond (is_binder_rule n) (of_binder r) (Err why.UnknownLaw)

abbrev pub unknown : Rule
unknown = λ t sc old. Err why.UnknownLaw

-- an implication is no rule of a line
abbrev pub rule_of : PlainRule → Bool → List PlainTerm → Rule
rule_of (by_equation n) back args = termwise (λ old. of_law (applied_by n back args old))
rule_of (by_implication n) back args = unknown
rule_of (by_binder n) back args = termwise (λ old. of_binder_number n (bound_by n back args old))
rule_of (by_law f) back args = of_theory.by_law matched_terms f back args
rule_of by_unfolding back args = unfold_call back args
rule_of (by_folding f) back args = fold_call f back args
rule_of by_computing back args = compute back args
rule_of (by_fact k) back args = use_fact k back args
rule_of by_holding back args = holds back args
rule_of by_failing back args = fails back args
rule_of by_uncasting back args = uncast back args

-- the term after a line, and after some lines, or the first refusal
abbrev pub rewritten_by : PlainTheory → PlainScope → PlainLine → PlainTerm → Result PlainTerm Why
rewritten_by t sc line old = rewritten (rule_of line.rule line.back line.args) t sc old line.path

abbrev pub lines_rewritten : PlainTheory → PlainScope → List PlainLine → PlainTerm → Result PlainTerm Why
lines_rewritten t sc [] old = Ok old
lines_rewritten t sc (line ∷ lines) old = rewritten_by t sc line old >>= λ new. lines_rewritten t sc lines new

-- what a rule concludes of a term for each of its variables: an implication, or a law that says that a term is true
abbrev pub conclusion_by : PlainTheory → PlainRule → List PlainTerm → Result PlainInstance Why
conclusion_by t (by_implication n) ts = of_law (concluded_by n ts)
conclusion_by t (by_law f) ts = of_theory.law_conclusion f ts t
conclusion_by t rule ts = Err why.UnknownLaw

-- the conclusion, if its conditions hold, it has a sort and the terms lie within their sorts
abbrev pub kept_conclusion : List PlainDef → PlainScope → Names → PlainInstance → Result PlainTerm Why
kept_conclusion defs sc names found = licensed defs sc found >>= λ new. settled defs sc names new new.term

abbrev pub concluded : PlainTheory → PlainScope → PlainRule → List PlainTerm → Result PlainTerm Why
concluded t sc rule ts = conclusion_by t rule ts >>= λ found. kept_conclusion t.signature.definitions sc sc.names found
