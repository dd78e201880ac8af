-- A term with another at a path.
use Rattle.std.specs.Prelude.{ℕ, zero, suc, List, [], ◌∷◌}
use Rattle.kid_term.specs.PlainTerm.{PlainTerm, var, number, truth, tag, app, bind, PlainTerms, no_term, term}

-- the term with new at the path, or the term itself where the path is not there
abbrev mutual
  pub put_at : PlainTerm → List ℕ → PlainTerm → PlainTerm
  put_at t [] new = new
  put_at (var x) (i ∷ path) new = var x
  put_at (number n) (i ∷ path) new = number n
  put_at (truth b) (i ∷ path) new = truth b
  put_at (tag n) (i ∷ path) new = tag n
  put_at (app h ts) (i ∷ path) new = app h (put_among ts i path new)
  put_at (bind b x s t) (zero ∷ path) new = bind b x (put_at s path new) t
  put_at (bind b x s t) (suc zero ∷ path) new = bind b x s (put_at t path new)
  put_at (bind b x s t) (suc (suc i) ∷ path) new = bind b x s t

  pub put_among : PlainTerms → ℕ → List ℕ → PlainTerm → PlainTerms
  put_among no_term i path new = no_term
  put_among (term t ts) zero path new = term (put_at t path new) ts
  put_among (term t ts) (suc i) path new = term t (put_among ts i path new)
