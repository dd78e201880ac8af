-- What was put at a path is taken back, and what stands there has a sort.
use Rattle.std.proofs.Common.{◌≡◌, ℕ, zero, suc, true, List, [], ◌∷◌, Some, None, ap, ◌∙◌}
use Rattle.kid_term.specs.PlainTerm.{PlainTerm, var, number, truth, tag, app, bind, PlainTerms, no_term, term}
use Rattle.kid_term.specs.Names.{PlainDef, latest_first}
use Rattle.kid_term.specs.Places.{put_at, put_among}
use Rattle.kid_term.specs.Replacing.{subterm, subterm_among}
use Rattle.kid_term.specs.Sorting.{sort_of}
use Rattle.kid_scope.specs.Scope.{PlainScope, scope_at}
use Rattle.kid_scope.specs.Holds.{has_a_sort}
use Rattle.kid_scope.proofs.ClosedSorts.{sort_there}
use Rattle.kid_scope.proofs.Places.{put_there, part_sorted}

-- the term with what stood at the path put back is the term
mutual
  pub put_back : (t : PlainTerm) (path : List ℕ) (new old : PlainTerm) → subterm t path ≡ Some old → put_at (put_at t path new) path old ≡ t
  put_back t [] new old p = cc
  put_back (var x) (i ∷ path) new old p = cc
  put_back (number n) (i ∷ path) new old p = cc
  put_back (truth b) (i ∷ path) new old p = cc
  put_back (tag n) (i ∷ path) new old p = cc
  put_back (app h ts) (i ∷ path) new old p = ap (app h) (put_back_among ts i path new old p)
  put_back (bind b x s t) (zero ∷ path) new old p = ap (λ z. bind b x z t) (put_back s path new old p)
  put_back (bind b x s t) (suc zero ∷ path) new old p = ap (bind b x s) (put_back t path new old p)
  put_back (bind b x s t) (suc (suc i) ∷ path) new old p = cc

  pub put_back_among : (ts : PlainTerms) (i : ℕ) (path : List ℕ) (new old : PlainTerm) → subterm_among ts i path ≡ Some old → put_among (put_among ts i path new) i path old ≡ ts
  put_back_among no_term i path new old p = cc
  put_back_among (term t ts) zero path new old p = ap (λ z. term z ts) (put_back t path new old p)
  put_back_among (term t ts) (suc i) path new old p = ap (term t) (put_back_among ts i path new old p)

-- a path that was there is there after another term was put there
pub never_absent : (t whole : PlainTerm) (path : List ℕ) (new old : PlainTerm) → subterm t path ≡ Some old → whole ≡ put_at t path new → subterm whole path ≡ None → ⊥
never_absent t whole path new old p q n = let e : subterm whole path ≡ Some new = ap (λ z. subterm z path) q ∙ put_there t path new old p in cc

pub part_has_sort : (defs : List PlainDef) (t : PlainTerm) (path : List ℕ) (old : PlainTerm) (sc : PlainScope) → subterm t path ≡ Some old → has_a_sort (sort_of defs sc.names t) ≡ true
    → has_a_sort (sort_of defs (scope_at (latest_first defs) t path sc).names old) ≡ true
part_has_sort defs t path old sc q p =
    let r = sort_there (sort_of defs sc.names t) p in ap has_a_sort (part_sorted defs t path old sc r.0 q r.1).1
