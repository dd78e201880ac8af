-- A number that is written in an application is the value of its argument.
use Rattle.std.proofs.Common.{◌≡◌, ℤ, List, [], ◌∷◌, Option, Some, None, Ok, refl, sym, ap, ◌∙◌}
use Rattle.kid_value.specs.PlainValue.{PlainValue, int}
use Rattle.kid_value.specs.PlainSort.{PlainSort}
use Rattle.kid_term.specs.PlainTerm.{PlainTerm, var, number, truth, tag, app, bind, PlainTerms, no_term, term}
use Rattle.kid_term.specs.Eval.{Env, Calls, eval, evals}
use Rattle.kid_term.specs.Contexts.{first_or_false}
use Rattle.kid_term.specs.Sorted.{Fault, Sorted}
use Rattle.kid_term.specs.WordSorts.{given}
use Rattle.kid_term.specs.Written.{number_in, Numbers, first_number, written}

-- the first two values are the numbers that are written there
pub record AreWritten (ns : Numbers) (vs : List PlainValue) : Type 0 where
  pub first : (n : ℤ) (v : PlainValue) (rest : List PlainValue) → ns.0 ≡ Some n → vs ≡ v ∷ rest → v ≡ int n
  pub second : (n : ℤ) (u v : PlainValue) (rest : List PlainValue) → ns.1 ≡ Some n → vs ≡ u ∷ v ∷ rest → v ≡ int n

abbrev rest_of : List PlainValue → List PlainValue
rest_of [] = []
rest_of (v ∷ vs) = vs

same_number : (m n : ℤ) → Some m ≡ Some n → m ≡ n
same_number m n p = cc

module _ (calls : Calls) (env : Env) where
  number_value : (t : PlainTerm) (n : ℤ) → number_in t ≡ Some n → eval calls env t ≡ int n
  number_value (number m) n p = ap int (same_number m n p)
  number_value (var x) n p = cc
  number_value (truth b) n p = cc
  number_value (tag m) n p = cc
  number_value (app g ts) n p = cc
  number_value (bind b x s t) n p = cc

  first_value : (ts : PlainTerms) (n : ℤ) (v : PlainValue) (rest : List PlainValue) → first_number ts ≡ Some n → evals calls env ts ≡ v ∷ rest → v ≡ int n
  first_value no_term n v rest p e = cc
  first_value (term t ts) n v rest p e = sym (ap first_or_false e) ∙ number_value t n p

  second_value : (ts : PlainTerms) (n : ℤ) (u v : PlainValue) (rest : List PlainValue) → (written ts).1 ≡ Some n → evals calls env ts ≡ u ∷ v ∷ rest → v ≡ int n
  second_value no_term n u v rest p e = cc
  second_value (term t ts) n u v rest p e = first_value ts n v rest p (ap rest_of e)

  pub written_values : (ts : PlainTerms) → AreWritten (written ts) (evals calls env ts)
  written_values ts = record { first = first_value ts; second = second_value ts }

pub given_ok : {A : Type 0} (f : Fault) (o : Option A) (k : A → Sorted) (s : PlainSort) → given f o k ≡ Ok s → (x : A) × (o ≡ Some x) × (k x ≡ Ok s)
given_ok f None k s p = cc
given_ok f (Some x) k s p = (x, refl, p)
