-- A condition that holds is true.
use Rattle.std.proofs.Common.{◌≡◌, ℤ, Bool, true, List, [], ◌∷◌, Ok, refl, sym, ap, ◌∙◌, subst, inl, inr, arith}
use Rattle.std.specs.Prelude.{not, ◌&&◌, ◌||◌, int_le, int_lt, ◌≤ℤ◌}
use Rattle.std.proofs.lemmas.Int.{ints as int_rules}
use Rattle.kid_value.specs.PlainValue.{PlainValue, int}
use Rattle.kid_value.specs.PlainSort.{ints}
use Rattle.kid_value.specs.Rows.Parts.{truth_of}
use Rattle.kid_value.specs.Rows.Number as row
use Rattle.kid_value.specs.Rows.Logic as logic_row
use Rattle.kid_value.proofs.SortLemmas.{and_parts}
use Rattle.kid_term.specs.PlainTerm.{PlainTerm, op, app, no_term, term}
use Rattle.kid_term.specs.Names.{PlainDef, latest_first}
use Rattle.kid_term.specs.Sorted.{Sorted}
use Rattle.kid_term.specs.Sorting.{sort_of}
use Rattle.kid_term.specs.Eval.{Env, eval, calls_of}
use Rattle.kid_term.specs.Small.{checks_of}
use Rattle.kid_term.specs.Fitting.{AreAllowed, AreSound, Fits}
use Rattle.kid_term.specs.Closed.{is_closed}
use Rattle.kid_term.specs.declared.operator.Op.TheVariants.{Logic, Number}
use Rattle.kid_term.specs.declared.operator.LogicOp.TheVariants.{Not, And}
use Rattle.kid_term.specs.declared.operator.NumberOp.TheVariants.{Le, Lt}
use Rattle.kid_term.proofs.ClosedLemmas.{eval-closed}
use Rattle.kid_term.proofs.Inversions.{int_of}
use Rattle.kid_term.proofs.SortedValue.{calls_fit, evaluates}
use Rattle.kid_term.specs.Truths.{IsTrueAt, AllTrue}
use Rattle.kid_scope.specs.Scope.{PlainScope}
use Rattle.kid_scope.specs.Same.{same_term}
use Rattle.kid_scope.specs.Holds.{stands_in, has_a_sort, lies_at_most, lies_below, sort_here, is_given, is_plainly_true, by_bounds, holds_whole, is_held}
use Rattle.kid_scope.specs.Laws.{HeldAreTrue}
use Rattle.kid_scope.proofs.SameLemmas.{same_term-true}
use Rattle.kid_scope.proofs.Truths.{or_cases, both_true}

fact_true : (defs : List PlainDef) (env : Env) (c : PlainTerm) (fs : List PlainTerm) → AllTrue (calls_of defs) env fs → stands_in c fs ≡ true → IsTrueAt (calls_of defs) env c
fact_true defs env c [] a p = cc
fact_true defs env c (f ∷ fs) a p = elim (or_cases (same_term c f) (stands_in c fs) p) [
  | inl e ↦ subst (IsTrueAt (calls_of defs) env) (sym (same_term-true c f e)) a.0
  | inr e ↦ fact_true defs env c fs a.1 e
]

-- integers of two intervals of which one lies before the other
module _ (a b c d : ℤ) (v w : PlainValue) (k : (m : ℤ) × (v ≡ int m) × (a ≤ℤ m) × (m ≤ℤ b)) (l : (n : ℤ) × (w ≡ int n) × (c ≤ℤ n) × (n ≤ℤ d)) where
  le_true : int_le b c ≡ true → truth_of (row.le v w) ≡ true
  le_true p = ap (λ z. truth_of (row.le z w)) k.1 ∙ ap (λ z. truth_of (row.le (int k.0) z)) l.1 ∙ by b c k.0 l.0 p k.3 l.2
    where
      by : (b c m n : ℤ) → int_le b c ≡ true → m ≤ℤ b → c ≤ℤ n → int_le m n ≡ true
      by b c m n p k l = grind (arith, int_rules)

  lt_true : int_lt b c ≡ true → truth_of (row.lt v w) ≡ true
  lt_true p = ap (λ z. truth_of (row.lt z w)) k.1 ∙ ap (λ z. truth_of (row.lt (int k.0) z)) l.1 ∙ by b c k.0 l.0 p k.3 l.2
    where
      by : (b c m n : ℤ) → int_lt b c ≡ true → m ≤ℤ b → c ≤ℤ n → int_lt m n ≡ true
      by b c m n p k l = grind (arith, int_rules)

  not_le_true : int_lt b c ≡ true → truth_of (logic_row.not (row.le w v)) ≡ true
  not_le_true p = ap (λ z. truth_of (logic_row.not (row.le w z))) k.1 ∙ ap (λ z. truth_of (logic_row.not (row.le z (int k.0)))) l.1 ∙ by b c k.0 l.0 p k.3 l.2
    where
      by : (b c m n : ℤ) → int_lt b c ≡ true → m ≤ℤ b → c ≤ℤ n → not (int_le n m) ≡ true
      by b c m n p k l = grind (arith, int_rules)

record Intervals (r q : Sorted) (test : ℤ → ℤ → Bool) : Type 0 where
  a : ℤ
  b : ℤ
  c : ℤ
  d : ℤ
  first : r ≡ Ok (ints a b)
  second : q ≡ Ok (ints c d)
  apart : test b c ≡ true

at_most_ok : (r q : Sorted) → lies_at_most r q ≡ true → Intervals r q int_le
at_most_ok (Ok (ints a b)) (Ok (ints c d)) p = record { a = a; b = b; c = c; d = d; first = refl; second = refl; apart = p }
at_most_ok r q p = cc

below_ok : (r q : Sorted) → lies_below r q ≡ true → Intervals r q int_lt
below_ok (Ok (ints a b)) (Ok (ints c d)) p = record { a = a; b = b; c = c; d = d; first = refl; second = refl; apart = p }
below_ok r q p = cc

module _ (defs : List PlainDef) (sc : PlainScope) (env : Env) (sound : AreSound defs) (allowed : AreAllowed sc.names) (fits : Fits sc.names env) where
  number : (t : PlainTerm) (lo hi : ℤ) → sort_here defs sc t ≡ Ok (ints lo hi) → (n : ℤ) × (eval (calls_of defs) env t ≡ int n) × (lo ≤ℤ n) × (n ≤ℤ hi)
  number t lo hi p =
      int_of lo hi (eval (calls_of defs) env t)
      (evaluates (latest_first defs) (calls_of defs) (checks_of defs) (calls_fit defs sound) t sc.names env (ints lo hi) p allowed fits).sound.of_sort.has

  bounds_true : (c : PlainTerm) → by_bounds defs sc c ≡ true → IsTrueAt (calls_of defs) env c
  bounds_true (app (op (Number Le)) (term a (term b no_term))) p =
      let r = at_most_ok (sort_here defs sc a) (sort_here defs sc b) p in
      le_true r.a r.b r.c r.d (eval (calls_of defs) env a) (eval (calls_of defs) env b) (number a r.a r.b r.first) (number b r.c r.d r.second) r.apart
  bounds_true (app (op (Number Lt)) (term a (term b no_term))) p =
      let r = below_ok (sort_here defs sc a) (sort_here defs sc b) p in
      lt_true r.a r.b r.c r.d (eval (calls_of defs) env a) (eval (calls_of defs) env b) (number a r.a r.b r.first) (number b r.c r.d r.second) r.apart
  bounds_true (app (op (Logic Not)) (term (app (op (Number Le)) (term a (term b no_term))) no_term)) p =
      let r = below_ok (sort_here defs sc b) (sort_here defs sc a) p in
      not_le_true r.a r.b r.c r.d (eval (calls_of defs) env b) (eval (calls_of defs) env a) (number b r.a r.b r.first) (number a r.c r.d r.second) r.apart
  bounds_true c p = cc

  module _ (facts : AllTrue (calls_of defs) env sc.facts) (assumed : AllTrue (calls_of defs) env sc.assumed) where
    given_true : (c : PlainTerm) → is_given defs sc c ≡ true → IsTrueAt (calls_of defs) env c
    given_true c p = elim (or_cases (stands_in c sc.facts) (stands_in c sc.assumed) p) [
      | inl e ↦ fact_true defs env c sc.facts facts e
      | inr e ↦ fact_true defs env c sc.assumed assumed e
    ]

    plainly_true : (c : PlainTerm) → is_plainly_true defs sc c ≡ true → IsTrueAt (calls_of defs) env c
    plainly_true c p =
        let r = and_parts (is_closed c) (truth_of (eval (calls_of defs) [] c)) p in ap truth_of (eval-closed (calls_of defs) env [] c r.0) ∙ r.1

    whole_true : (c : PlainTerm) → holds_whole defs sc c ≡ true → IsTrueAt (calls_of defs) env c
    whole_true c p = elim (or_cases (is_given defs sc c || is_plainly_true defs sc c) (by_bounds defs sc c) p) [
      | inl e ↦ elim (or_cases (is_given defs sc c) (is_plainly_true defs sc c) e) [
        | inl f ↦ given_true c f
        | inr f ↦ plainly_true c f
      ]
      | inr e ↦ bounds_true c e
    ]

    held_true : (c : PlainTerm) → is_held defs sc c ≡ true → IsTrueAt (calls_of defs) env c
    held_true (app (op (Logic And)) (term a (term b no_term))) p =
        elim (or_cases (holds_whole defs sc (app (op (Logic And)) (term a (term b no_term)))) (is_held defs sc a && is_held defs sc b) p) [
          | inl e ↦ whole_true (app (op (Logic And)) (term a (term b no_term))) e
          | inr e ↦ let r = and_parts (is_held defs sc a) (is_held defs sc b) e in both_true (eval (calls_of defs) env a) (eval (calls_of defs) env b) (held_true a r.0) (held_true b r.1)
        ]
    held_true c p = whole_true c p

pub holds_true : HeldAreTrue
holds_true defs sc c env sound allowed fits facts assumed p =
    held_true defs sc env sound allowed fits facts assumed c (and_parts (has_a_sort (sort_of defs sc.names c)) (is_held defs sc c) p).1
