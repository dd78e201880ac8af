-- What stands at a path, before and after another term was put there.
use Rattle.std.proofs.Common.{◌≡◌, ℕ, zero, suc, ◌≤◌, List, [], ◌∷◌, Some, Ok, true, refl, sym, ap, subst, arith}
use Rattle.std.specs.Prelude.{nat_le}
use Rattle.std.proofs.lemmas.Bool.Decides.{nat_tests}
use Rattle.kid_value.specs.PlainSort.{PlainSort, sets}
use Rattle.kid_term.specs.PlainTerm.{PlainTerm, var, number, truth, tag, app, bind, PlainTerms, no_term, term, node_count, node_counts, depth, depths}
use Rattle.kid_term.specs.Names.{Names, PlainDef, latest_first}
use Rattle.kid_term.specs.Places.{put_at, put_among}
use Rattle.kid_term.specs.Replacing.{subterm, subterm_among}
use Rattle.kid_term.specs.Sorted.{◌>>=◌}
use Rattle.kid_term.specs.Written.{written}
use Rattle.kid_term.specs.Sorting.{head_sort, least_sort, least_sorts, sort_of}
use Rattle.kid_term.proofs.Inversions.{bind_ok, ok}
use Rattle.kid_term.proofs.SortedValue.{binder_ok, sort_of_ok}
use Rattle.kid_scope.specs.Scope.{PlainScope, assumptions, with_assumed, element_sort, under_binder, scope_at, scope_among}

-- the term with what stands at the path put there is the term
mutual
  pub put_itself : (t : PlainTerm) (path : List ℕ) (old : PlainTerm) → subterm t path ≡ Some old → put_at t path old ≡ t
  put_itself t [] old p = cc
  put_itself (var x) (i ∷ path) old p = cc
  put_itself (number n) (i ∷ path) old p = cc
  put_itself (truth b) (i ∷ path) old p = cc
  put_itself (tag n) (i ∷ path) old p = cc
  put_itself (app h ts) (i ∷ path) old p = ap (app h) (put_itself_among ts i path old p)
  put_itself (bind b x s t) (zero ∷ path) old p = ap (λ z. bind b x z t) (put_itself s path old p)
  put_itself (bind b x s t) (suc zero ∷ path) old p = ap (bind b x s) (put_itself t path old p)
  put_itself (bind b x s t) (suc (suc i) ∷ path) old p = cc

  put_itself_among : (ts : PlainTerms) (i : ℕ) (path : List ℕ) (old : PlainTerm) → subterm_among ts i path ≡ Some old → put_among ts i path old ≡ ts
  put_itself_among no_term i path old p = cc
  put_itself_among (term t ts) zero path old p = ap (λ z. term z ts) (put_itself t path old p)
  put_itself_among (term t ts) (suc i) path old p = ap (term t) (put_itself_among ts i path old p)

-- what was put at a path stands there
mutual
  pub put_there : (t : PlainTerm) (path : List ℕ) (new old : PlainTerm) → subterm t path ≡ Some old → subterm (put_at t path new) path ≡ Some new
  put_there t [] new old p = refl
  put_there (var x) (i ∷ path) new old p = cc
  put_there (number n) (i ∷ path) new old p = cc
  put_there (truth b) (i ∷ path) new old p = cc
  put_there (tag n) (i ∷ path) new old p = cc
  put_there (app h ts) (i ∷ path) new old p = put_there_among ts i path new old p
  put_there (bind b x s t) (zero ∷ path) new old p = put_there s path new old p
  put_there (bind b x s t) (suc zero ∷ path) new old p = put_there t path new old p
  put_there (bind b x s t) (suc (suc i) ∷ path) new old p = cc

  put_there_among : (ts : PlainTerms) (i : ℕ) (path : List ℕ) (new old : PlainTerm) → subterm_among ts i path ≡ Some old → subterm_among (put_among ts i path new) i path ≡ Some new
  put_there_among no_term i path new old p = cc
  put_there_among (term t ts) zero path new old p = put_there t path new old p
  put_there_among (term t ts) (suc i) path new old p = put_there_among ts i path new old p

-- a subterm is neither larger nor deeper than the term
mutual
  part_smaller : (t : PlainTerm) (path : List ℕ) (old : PlainTerm) → subterm t path ≡ Some old → node_count old ≤ node_count t
  part_smaller t [] old p = let e : t ≡ old = cc in subst (λ z. node_count z ≤ node_count t) e (omega arith)
  part_smaller (var x) (i ∷ path) old p = cc
  part_smaller (number n) (i ∷ path) old p = cc
  part_smaller (truth b) (i ∷ path) old p = cc
  part_smaller (tag n) (i ∷ path) old p = cc
  part_smaller (app h ts) (i ∷ path) old p = omega (arith, parts_smaller ts i path old p)
  part_smaller (bind b x s t) (zero ∷ path) old p = omega (arith, part_smaller s path old p)
  part_smaller (bind b x s t) (suc zero ∷ path) old p = omega (arith, part_smaller t path old p)
  part_smaller (bind b x s t) (suc (suc i) ∷ path) old p = cc

  parts_smaller : (ts : PlainTerms) (i : ℕ) (path : List ℕ) (old : PlainTerm) → subterm_among ts i path ≡ Some old → node_count old ≤ node_counts ts
  parts_smaller no_term i path old p = cc
  parts_smaller (term t ts) zero path old p = omega (arith, part_smaller t path old p)
  parts_smaller (term t ts) (suc i) path old p = omega (arith, parts_smaller ts i path old p)

mutual
  part_shallower : (t : PlainTerm) (path : List ℕ) (old : PlainTerm) → subterm t path ≡ Some old → depth old ≤ depth t
  part_shallower t [] old p = let e : t ≡ old = cc in subst (λ z. depth z ≤ depth t) e (omega arith)
  part_shallower (var x) (i ∷ path) old p = cc
  part_shallower (number n) (i ∷ path) old p = cc
  part_shallower (truth b) (i ∷ path) old p = cc
  part_shallower (tag n) (i ∷ path) old p = cc
  part_shallower (app h ts) (i ∷ path) old p = omega (arith, parts_shallower ts i path old p)
  part_shallower (bind b x s t) (zero ∷ path) old p = omega (arith, part_shallower s path old p)
  part_shallower (bind b x s t) (suc zero ∷ path) old p = omega (arith, part_shallower t path old p)
  part_shallower (bind b x s t) (suc (suc i) ∷ path) old p = cc

  parts_shallower : (ts : PlainTerms) (i : ℕ) (path : List ℕ) (old : PlainTerm) → subterm_among ts i path ≡ Some old → depth old ≤ depths ts
  parts_shallower no_term i path old p = cc
  parts_shallower (term t ts) zero path old p = omega (arith, part_shallower t path old p)
  parts_shallower (term t ts) (suc i) path old p = omega (arith, parts_shallower ts i path old p)

-- what is put at a path of a sorted term has a sort in the scope there
module _ (known : List PlainDef) where
  mutual
    put_least : (t : PlainTerm) (path : List ℕ) (new old : PlainTerm) (sc : PlainScope) (s : PlainSort) → subterm t path ≡ Some old → least_sort known sc.names (put_at t path new) ≡ Ok s
        → (s' : PlainSort) × (least_sort known (scope_at known t path sc).names new ≡ Ok s')
    put_least t [] new old sc s q p = (s, p)
    put_least (var x) (i ∷ path) new old sc s q p = cc
    put_least (number n) (i ∷ path) new old sc s q p = cc
    put_least (truth b) (i ∷ path) new old sc s q p = cc
    put_least (tag n) (i ∷ path) new old sc s q p = cc
    put_least (app h ts) (i ∷ path) new old sc s q p =
        let r = bind_ok (least_sorts known sc.names (put_among ts i path new)) (head_sort known h (written (put_among ts i path new))) s p in
        put_least_among ts i path new old (with_assumed sc (assumptions h i ts)) r.0 q r.1
    put_least (bind b x u t) (zero ∷ path) new old sc s q p =
        let r = binder_ok known sc.names b x (put_at u path new) t s p in put_least u path new old sc (sets r.element) q r.of_set
    put_least (bind b x u t) (suc zero ∷ path) new old sc s q p =
        let r = binder_ok known sc.names b x u (put_at t path new) s p in
        let e : element_sort (least_sort known sc.names u) ≡ r.element = ap element_sort r.of_set in
        put_least t path new old (under_binder sc x (least_sort known sc.names u) u) r.body q
        (subst (λ z. least_sort known ((x, z) ∷ sc.names) (put_at t path new) ≡ ok r.body) (sym e) r.of_body)
    put_least (bind b x u t) (suc (suc i) ∷ path) new old sc s q p = cc

    put_least_among : (ts : PlainTerms) (i : ℕ) (path : List ℕ) (new old : PlainTerm) (sc : PlainScope) (ss : List PlainSort) → subterm_among ts i path ≡ Some old
        → least_sorts known sc.names (put_among ts i path new) ≡ Ok ss → (s' : PlainSort) × (least_sort known (scope_among known ts i path sc).names new ≡ Ok s')
    put_least_among no_term i path new old sc ss q p = cc
    put_least_among (term t ts) zero path new old sc ss q p =
        let r = bind_ok (least_sort known sc.names (put_at t path new)) (λ s. least_sorts known sc.names ts >>= λ us. Ok (s ∷ us)) ss p in put_least t path new old sc r.0 q r.1
    put_least_among (term t ts) (suc i) path new old sc ss q p =
        let r = bind_ok (least_sort known sc.names t) (λ s. least_sorts known sc.names (put_among ts i path new) >>= λ us. Ok (s ∷ us)) ss p in
        let w = bind_ok (least_sorts known sc.names (put_among ts i path new)) (λ us. Ok (r.0 ∷ us)) ss r.2 in
        put_least_among ts i path new old sc w.0 q w.1

pub sized : (defs : List PlainDef) (names : Names) (t : PlainTerm) (s : PlainSort) → nat_le (node_count t) 4096 ≡ true → nat_le (depth t) 128 ≡ true → least_sort (latest_first defs) names t ≡ Ok s
    → sort_of defs names t ≡ Ok s
sized defs names t s a b p = rw a (rw b p)

pub put_sorted : (defs : List PlainDef) (t : PlainTerm) (path : List ℕ) (new old : PlainTerm) (sc : PlainScope) (s : PlainSort) → subterm t path ≡ Some old → sort_of defs sc.names (put_at t path new) ≡ Ok s
    → (s' : PlainSort) × (sort_of defs (scope_at (latest_first defs) t path sc).names new ≡ Ok s')
put_sorted defs t path new old sc s q p =
    let r = sort_of_ok defs sc.names (put_at t path new) s p in
    let there = put_there t path new old q in
    let a = part_smaller (put_at t path new) path new there in
    let b = part_shallower (put_at t path new) path new there in
    let l = put_least (latest_first defs) t path new old sc s q r.2 in
    (l.0, sized defs (scope_at (latest_first defs) t path sc).names new l.0 (grind (arith, nat_tests, a, r.0)) (grind (arith, nat_tests, b, r.1)) l.1)

pub part_sorted : (defs : List PlainDef) (t : PlainTerm) (path : List ℕ) (old : PlainTerm) (sc : PlainScope) (s : PlainSort) → subterm t path ≡ Some old → sort_of defs sc.names t ≡ Ok s
    → (s' : PlainSort) × (sort_of defs (scope_at (latest_first defs) t path sc).names old ≡ Ok s')
part_sorted defs t path old sc s q p = put_sorted defs t path old old sc s q (subst (λ z. sort_of defs sc.names z ≡ ok s) (sym (put_itself t path old q)) p)
