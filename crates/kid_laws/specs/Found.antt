-- How the least match is found: the pattern and the term are gone through side by side.
use Rattle.std.specs.Prelude.{ℕ, Bool, true, false, ◌||◌, cond, List, [], ◌∷◌, ◌++◌, Option, Some, None}
use Rattle.kid_term.specs.PlainTerm.{PlainHead, PlainTerm, var, number, truth, tag, app, bind, PlainTerms, no_term, term}
use Rattle.kid_term.specs.declared.operator.Binder.{Binder}
use Rattle.kid_value.specs.NameSet.{is_among}
use Rattle.kid_term.specs.Substitution.{mentions}
use Rattle.kid_term.specs.Simultaneous.{Subst, term_at}
use Rattle.kid_laws.specs.Same.{same_term}

abbrev pub mentions_any : List (List ℕ) → PlainTerm → Bool
mentions_any [] t = false
mentions_any (y ∷ ys) t = mentions y t || mentions_any ys t

-- nothing new, where the test holds
abbrev pub kept : Bool → Subst → Option Subst
kept b σ = cond b (Some σ) None

-- a name by the term that it has, and whether it is a variable
abbrev pub met : List ℕ → PlainTerm → Subst → Option PlainTerm → Bool → Option Subst
met x t σ (Some u) v = kept (same_term t u) σ
met x t σ None true = Some (σ ++ (x, t) ∷ [])
met x t σ None false = kept (same_term t (var x)) σ

-- a name below binders of the names bs stands for itself, and any other for what mentions none of them
abbrev pub name_met : List (List ℕ) → List (List ℕ) → List ℕ → PlainTerm → Subst → Option Subst
name_met bs xs x t σ = cond (is_among x bs) (kept (same_term t (var x)) σ) (cond (mentions_any bs t) None (met x t σ (term_at x σ) (is_among x xs)))

abbrev pub and_then : Option Subst → (Subst → Option Subst) → Option Subst
and_then None f = None
and_then (Some σ) f = f σ

abbrev pub bare : PlainHead → PlainTerm
bare h = app h no_term

abbrev pub same_head : PlainHead → PlainHead → Bool
same_head g h = same_term (bare g) (bare h)

abbrev pub same_binder : Binder → List ℕ → Binder → List ℕ → Bool
same_binder b x c y = same_term (bind b x (truth true) (truth true)) (bind c y (truth true) (truth true))

abbrev mutual
  pub found : List (List ℕ) → List (List ℕ) → PlainTerm → PlainTerm → Subst → Option Subst
  found bs xs (var x) t σ = name_met bs xs x t σ
  found bs xs (number n) t σ = kept (same_term t (number n)) σ
  found bs xs (truth b) t σ = kept (same_term t (truth b)) σ
  found bs xs (tag n) t σ = kept (same_term t (tag n)) σ
  found bs xs (app g ps) (app h ts) σ = cond (same_head g h) (all_found bs xs ps ts σ) None
  found bs xs (bind b y p q) (bind c z t u) σ = cond (same_binder b y c z) (and_then (found bs xs p t σ) (λ τ. found (y ∷ bs) xs q u τ)) None
  found bs xs p t σ = None

  pub all_found : List (List ℕ) → List (List ℕ) → PlainTerms → PlainTerms → Subst → Option Subst
  all_found bs xs no_term no_term σ = Some σ
  all_found bs xs (term p ps) (term t ts) σ = and_then (found bs xs p t σ) (λ τ. all_found bs xs ps ts τ)
  all_found bs xs ps ts σ = None
