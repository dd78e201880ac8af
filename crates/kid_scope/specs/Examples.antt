-- Scopes, conditions and refusals of small terms.
use Rattle.std.specs.Prelude.{◌≡◌, ℕ, zero, suc, Bool, true, false, pos, List, [], ◌∷◌, None, Result, Ok, Err}
use Rattle.kid_value.specs.PlainSort.{PlainSort, bools, ints}
use Rattle.kid_term.specs.PlainTerm.{PlainTerm, op, var, number, truth, app, bind, no_term, term}
use Rattle.kid_term.specs.declared.operator.Op.TheVariants.{Logic, Number, Set}
use Rattle.kid_term.specs.declared.operator.LogicOp.TheVariants as logic
use Rattle.kid_term.specs.declared.operator.NumberOp.TheVariants as num
use Rattle.kid_term.specs.declared.operator.SetOp.TheVariants as set_word
use Rattle.kid_term.specs.declared.operator.Binder.TheVariants as binder
use Rattle.kid_term.specs.declared.why.Why.{Why}
use Rattle.kid_term.specs.declared.why.Why.TheVariants.{NoPath, UnknownLaw, Condition, IllSorted, Limit}
use Rattle.kid_term.specs.PlainTheory.{PlainTheory}
use Rattle.kid_scope.specs.Scope.{PlainScope, negated, member, scope_at}
use Rattle.kid_scope.specs.Holds.{holds}
use Rattle.kid_scope.specs.Rewriting.{Rule, rewritten}

-- p and q are truth values, a is from 0 to 3 and b from 3 to 5
abbrev pub p : PlainTerm
p = var (1 ∷ [])

abbrev pub q : PlainTerm
q = var (2 ∷ [])

abbrev pub a : PlainTerm
a = var (3 ∷ [])

abbrev pub b : PlainTerm
b = var (4 ∷ [])

abbrev pub here : PlainScope
here = record {
  names = (1 ∷ [], bools) ∷ (2 ∷ [], bools) ∷ (3 ∷ [], ints (pos 0) (pos 3)) ∷ (4 ∷ [], ints (pos 3) (pos 5)) ∷ [];
  facts = q ∷ [];
  assumed = [];
}

abbrev pub choice : PlainTerm → PlainTerm → PlainTerm → PlainTerm
choice t u v = app (op (Logic logic.If)) (term t (term u (term v no_term)))

abbrev pub both : PlainTerm → PlainTerm → PlainTerm
both t u = app (op (Logic logic.And)) (term t (term u no_term))

abbrev pub at_most : PlainTerm → PlainTerm → PlainTerm
at_most t u = app (op (Number num.Le)) (term t (term u no_term))

abbrev pub less : PlainTerm → PlainTerm → PlainTerm
less t u = app (op (Number num.Lt)) (term t (term u no_term))

abbrev pub numbers : PlainTerm
numbers = app (op (Set set_word.Set)) (term (number (pos 1)) (term (number (pos 2)) no_term))

abbrev pub x_is_small : PlainTerm
x_is_small = bind binder.All (5 ∷ []) numbers (less (var (5 ∷ [])) b)

-- a theory without definitions
abbrev pub theory : PlainTheory
theory = record {
  signature = record { definitions = []; inputs = [] };
  laws = [];
  axioms = [];
  spec = record { inputs = []; condition = truth true; output = []; sort = bools; relation = truth true; first = None };
}

-- a rule with one instance for all terms
abbrev pub always : List PlainTerm → PlainTerm → List (PlainTerm × PlainSort) → Rule
always cs t es _ sc old = Ok (record { conditions = cs; term = t; within = es })

abbrev pub never_known : Rule
never_known _ sc old = Err UnknownLaw

abbrev pub deep : ℕ → PlainTerm
deep zero = p
deep (suc n) = negated (deep n)

-- what a rule makes of the second part of `(and p q)`
abbrev pub in_second : Rule → Result PlainTerm Why
in_second rule = rewritten rule theory here (both p q) (1 ∷ [])

abbrev pub holds_here : PlainTerm → Bool
holds_here c = holds [] here c

-- what may be used in a place, and what holds
pub record ScopeExamples : Type 0 where
  pub first_of_and : (scope_at [] (both p q) (0 ∷ []) here).assumed ≡ []
  pub second_of_and : (scope_at [] (both p q) (1 ∷ []) here).assumed ≡ p ∷ []
  pub test_of_if : (scope_at [] (choice p a b) (0 ∷ []) here).assumed ≡ []
  pub second_of_if : (scope_at [] (choice p a b) (1 ∷ []) here).assumed ≡ p ∷ []
  pub third_of_if : (scope_at [] (choice p a b) (2 ∷ []) here).assumed ≡ negated p ∷ []
  pub nested : (scope_at [] (both p (choice q a b)) (1 ∷ 2 ∷ []) here).assumed ≡ p ∷ negated q ∷ []
  pub set_of_binder : scope_at [] x_is_small (0 ∷ []) here ≡ here
  pub body_of_binder : (scope_at [] x_is_small (1 ∷ []) here).names ≡ (5 ∷ [], ints (pos 1) (pos 2)) ∷ here.names
  pub member_in_body : (scope_at [] x_is_small (1 ∷ []) here).assumed ≡ member (var (5 ∷ [])) numbers ∷ []
  pub facts_stay : (scope_at [] x_is_small (1 ∷ []) here).facts ≡ q ∷ []
  pub fact_holds : holds_here q ≡ true
  pub other_does_not : holds_here p ≡ false
  pub closed_holds : holds_here (less (number (pos 1)) (number (pos 2))) ≡ true
  pub at_most_by_equal_bounds : holds_here (at_most a b) ≡ true
  pub less_by_equal_bounds : holds_here (less a b) ≡ false
  pub less_by_bounds : holds_here (less (number (pos 2)) b) ≡ true
  pub not_at_most_by_bounds : holds_here (negated (at_most b (number (pos 2)))) ≡ true
  pub not_at_most_by_equal_bounds : holds_here (negated (at_most b a)) ≡ false
  pub both_hold : holds_here (both q (at_most a b)) ≡ true
  pub one_does_not : holds_here (both q p) ≡ false
  pub unknown_name : holds_here (at_most (var (9 ∷ [])) b) ≡ false

-- what a rewriting gives, and the first refusal
pub record RewritingExamples : Type 0 where
  pub made : in_second (always [] (truth true) []) ≡ Ok (both p (truth true))
  pub path_first : rewritten never_known theory here (both p q) (2 ∷ []) ≡ Err NoPath
  pub rule_next : in_second never_known ≡ Err UnknownLaw
  pub assumed_there : in_second (always (p ∷ []) (truth true) []) ≡ Ok (both p (truth true))
  pub not_assumed_before : rewritten (always (p ∷ []) (truth true) []) theory here (both p q) (0 ∷ []) ≡ Err (Condition 1)
  pub first_condition : in_second (always (q ∷ less a b ∷ negated q ∷ []) (truth true) []) ≡ Err (Condition 2)
  pub condition_before_sort : in_second (always (less a b ∷ []) a []) ≡ Err (Condition 1)
  pub new_term_without_sort : in_second (always [] a []) ≡ Err IllSorted
  pub new_term_too_deep : in_second (always [] (deep 128) []) ≡ Err Limit
  pub outside_its_sort : in_second (always [] (truth true) ((b, ints (pos 0) (pos 3)) ∷ [])) ≡ Err IllSorted
  pub within_its_sort : in_second (always [] (truth true) ((a, ints (pos 0) (pos 5)) ∷ [])) ≡ Ok (both p (truth true))
  pub limit_before_sort_of_a_part : in_second (always [] (deep 128) ((b, ints (pos 0) (pos 3)) ∷ [])) ≡ Err Limit
