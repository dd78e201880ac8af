-- Terms in the places of several names at once.
use Rattle.std.specs.Prelude.{ℕ, Bool, cond, Option, Some, None, List, [], ◌∷◌}
use Rattle.std.specs.List.{list_any}
use Rattle.kid_term.specs.PlainTerm.{PlainTerm, var, number, truth, tag, app, bind, PlainTerms, no_term, term}
use Rattle.kid_term.specs.Names.{same_name}
use Rattle.kid_term.specs.Substitution.{captures}
use Rattle.kid_term.specs.Eval.{Env, Calls, eval}

-- names with their terms, of which the first for a name counts
abbrev pub Subst : Type 0
Subst = List (List ℕ × PlainTerm)

-- the term that a name has
abbrev pub term_at : List ℕ → Subst → Option PlainTerm
term_at x [] = None
term_at x (e ∷ σ) = cond (same_name x e.0) (Some e.1) (term_at x σ)

-- a name that has no term stands for itself
abbrev pub or_itself : List ℕ → Option PlainTerm → PlainTerm
or_itself x None = var x
or_itself x (Some t) = t

-- what is put in a name's place
abbrev pub term_for : List ℕ → Subst → PlainTerm
term_for x σ = or_itself x (term_at x σ)

-- the term with its term in each free place of each name
abbrev mutual
  pub substituted : Subst → PlainTerm → PlainTerm
  substituted σ (var x) = term_for x σ
  substituted σ (number n) = number n
  substituted σ (truth b) = truth b
  substituted σ (tag n) = tag n
  substituted σ (app h ts) = app h (all_substituted σ ts)
  substituted σ (bind b y s t) = bind b y (substituted σ s) (substituted ((y, var y) ∷ σ) t)

  pub all_substituted : Subst → PlainTerms → PlainTerms
  all_substituted σ no_term = no_term
  all_substituted σ (term t ts) = term (substituted σ t) (all_substituted σ ts)

-- whether a free name of some name's term is bound above a free place of that name
abbrev pub some_captured : Subst → PlainTerm → Subst → Bool
some_captured σ t es = list_any (λ e. captures e.0 (term_for e.0 σ) t) es

abbrev pub captures_any : Subst → PlainTerm → Bool
captures_any σ t = some_captured σ t σ

-- the names with the values of their terms
abbrev pub values_of : Calls → Env → Subst → Env
values_of calls env [] = []
values_of calls env (e ∷ σ) = (e.0, eval calls env e.1) ∷ values_of calls env σ
