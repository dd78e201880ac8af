-- What may be taken as true on the way down to a subterm, and when another term has its value there.
use Rattle.std.specs.Prelude.{◌≡◌, ℕ, zero, suc, true, false, List, [], ◌∷◌}
use Rattle.kid_value.specs.PlainValue.{PlainValue, bool}
use Rattle.kid_value.specs.Rows.Parts.{truth_of, members_of}
use Rattle.kid_value.specs.ValueSet.{is_member}
use Rattle.kid_term.specs.PlainTerm.{PlainHead, op, PlainTerm, var, number, truth, tag, app, bind, PlainTerms, no_term, term}
use Rattle.kid_term.specs.declared.operator.Op.TheVariants.{Logic}
use Rattle.kid_term.specs.declared.operator.LogicOp.TheVariants.{And, Implies, If}
use Rattle.kid_term.specs.Eval.{Env, Calls, eval, evals}

abbrev pub first_or_false : List PlainValue → PlainValue
first_or_false [] = bool false
first_or_false (v ∷ vs) = v

-- what is true of the values of the children before the child at i, wherever that child's value counts
abbrev pub Guard : PlainHead → ℕ → List PlainValue → Type 0
Guard (op (Logic And)) (suc zero) vs = truth_of (first_or_false vs) ≡ true
Guard (op (Logic Implies)) (suc zero) vs = truth_of (first_or_false vs) ≡ true
Guard (op (Logic If)) (suc zero) vs = truth_of (first_or_false vs) ≡ true
Guard (op (Logic If)) (suc (suc zero)) vs = truth_of (first_or_false vs) ≡ false
Guard h i vs = Unit {0}

module _ (calls : Calls) where
  -- new has the value of the subterm at the path, wherever that subterm's value counts
  abbrev mutual
    pub SameAt : PlainTerm → List ℕ → PlainTerm → Env → Type 0
    SameAt t [] new env = eval calls env new ≡ eval calls env t
    SameAt (var x) (i ∷ path) new env = Unit {0}
    SameAt (number n) (i ∷ path) new env = Unit {0}
    SameAt (truth b) (i ∷ path) new env = Unit {0}
    SameAt (tag n) (i ∷ path) new env = Unit {0}
    SameAt (app h ts) (i ∷ path) new env = Guard h i (evals calls env ts) → SameAmong ts i path new env
    SameAt (bind b x s t) (zero ∷ path) new env = SameAt s path new env
    SameAt (bind b x s t) (suc zero ∷ path) new env = (v : PlainValue) → is_member v (members_of (eval calls env s)) ≡ true → SameAt t path new ((x, v) ∷ env)
    SameAt (bind b x s t) (suc (suc i) ∷ path) new env = Unit {0}

    pub SameAmong : PlainTerms → ℕ → List ℕ → PlainTerm → Env → Type 0
    SameAmong no_term i path new env = Unit {0}
    SameAmong (term t ts) zero path new env = SameAt t path new env
    SameAmong (term t ts) (suc i) path new env = SameAmong ts i path new env
