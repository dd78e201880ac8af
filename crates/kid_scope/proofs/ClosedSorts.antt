-- A sorted term names what is in scope alone, and a term without a free name has its sort in any scope.
use Rattle.std.proofs.Common.{◌≡◌, ℕ, Bool, true, false, List, [], ◌∷◌, ◌++◌, Ok, Err, refl, ap, ◌∙◌, cond, map}
use Rattle.std.specs.Prelude.{◌||◌}
use Rattle.kid_value.specs.NameSet.{is_among}
use Rattle.kid_value.specs.PlainSort.{PlainSort, sets}
use Rattle.kid_value.proofs.SortLemmas.{and_parts}
use Rattle.kid_term.specs.PlainTerm.{PlainTerm, var, number, truth, tag, app, bind, PlainTerms, no_term, term}
use Rattle.kid_term.specs.Names.{same_name, Names, is_named, PlainDef, latest_first}
use Rattle.kid_term.specs.Sorted.{Sorted, with_set, ◌>>=◌}
use Rattle.kid_term.specs.Written.{written}
use Rattle.kid_term.specs.Sorting.{sort_at, head_sort, binder_sort, unshadowed, least_sort, least_sorts, sort_of}
use Rattle.kid_term.specs.Closed.{is_over, all_over, is_closed}
use Rattle.kid_term.specs.Fitting.{AreSound}
use Rattle.kid_term.specs.Small.{StaysSmall}
use Rattle.kid_term.proofs.Inversions.{bind_ok, ok}
use Rattle.kid_term.proofs.Scopes.{mentions-named}
use Rattle.kid_term.proofs.SortedValue.{binder_ok, sort_of_ok, sorted-kept}
use Rattle.kid_scope.specs.Cases.{IsClosed}
use Rattle.kid_scope.specs.Holds.{has_a_sort}
use Rattle.kid_scope.proofs.Places.{sized}
use Rattle.kid_scope.proofs.ScopeLemmas.{binder_fresh}

pub sort_there : (r : Sorted) → has_a_sort r ≡ true → (s : PlainSort) × (r ≡ Ok s)
sort_there (Ok s) p = (s, refl)
sort_there (Err f) p = cc

pub sorted-closed : (defs : List PlainDef) (names : Names) (t : PlainTerm) (s : PlainSort) → sort_of defs names t ≡ Ok s → IsClosed names t
sorted-closed defs names t s p = mentions-named t (latest_first defs) names s (sort_of_ok defs names t s p).2

-- ---- a term over the innermost names has its sort without the others

abbrev words_of : Names → List (List ℕ)
words_of names = map (λ n. n.0) names

inner_sort : (x : List ℕ) (inner outer : Names) (s : PlainSort) → is_among x (words_of inner) ≡ true → sort_at x (inner ++ outer) ≡ Ok s → sort_at x inner ≡ Ok s
inner_sort x [] outer s m p = cc
inner_sort x (n ∷ inner) outer s m p = by (same_name x n.0) m p (inner_sort x inner outer s)
  where
    by : (c : Bool) → (c || is_among x (words_of inner)) ≡ true → cond c (ok n.1) (sort_at x (inner ++ outer)) ≡ ok s
        → (is_among x (words_of inner) ≡ true → sort_at x (inner ++ outer) ≡ ok s → sort_at x inner ≡ ok s) → cond c (ok n.1) (sort_at x inner) ≡ ok s
    by true m p rest = p
    by false m p rest = rest m p

inner_unnamed : (x : List ℕ) (inner outer : Names) → is_named x (inner ++ outer) ≡ false → is_named x inner ≡ false
inner_unnamed x [] outer p = refl
inner_unnamed x (n ∷ inner) outer p = by (same_name x n.0) p (inner_unnamed x inner outer)
  where
    by : (c : Bool) → (c || is_named x (inner ++ outer)) ≡ false → (is_named x (inner ++ outer) ≡ false → is_named x inner ≡ false) → (c || is_named x inner) ≡ false
    by true p rest = p
    by false p rest = rest p

module _ (known : List PlainDef) where
  mutual
    inner-sorted : (t : PlainTerm) (inner outer : Names) (s : PlainSort) → is_over (words_of inner) t ≡ true → least_sort known (inner ++ outer) t ≡ Ok s → least_sort known inner t ≡ Ok s
    inner-sorted (var x) inner outer s c p = inner_sort x inner outer s c p
    inner-sorted (number n) inner outer s c p = p
    inner-sorted (truth b) inner outer s c p = p
    inner-sorted (tag n) inner outer s c p = p
    inner-sorted (app h ts) inner outer s c p =
        let r = bind_ok (least_sorts known (inner ++ outer) ts) (head_sort known h (written ts)) s p in
        let e = all_inner-sorted ts inner outer r.0 c r.1 in
        ap (λ z. z >>= head_sort known h (written ts)) e ∙ r.2
    inner-sorted (bind b x u t) inner outer s c p =
        let a = and_parts (is_over (words_of inner) u) (is_over (x ∷ words_of inner) t) c in
        let r = binder_ok known (inner ++ outer) b x u t s p in
        let e = inner-sorted u inner outer (sets r.element) a.0 r.of_set in
        let f = inner-sorted t ((x, r.element) ∷ inner) outer r.body a.1 r.of_body in
        let n = inner_unnamed x inner outer (binder_fresh known (inner ++ outer) b x u t s p) in
        ap (λ z. z >>= λ set. with_set set (λ a. least_sort known ((x, a) ∷ inner) t >>= λ body. binder_sort b a body >>= unshadowed x inner)) e
        ∙ ap (λ z. z >>= λ body. binder_sort b r.element body >>= unshadowed x inner) f
        ∙ ap (λ z. z >>= unshadowed x inner) r.made
        ∙ rw n refl

    all_inner-sorted : (ts : PlainTerms) (inner outer : Names) (ss : List PlainSort) → all_over (words_of inner) ts ≡ true → least_sorts known (inner ++ outer) ts ≡ Ok ss → least_sorts known inner ts ≡ Ok ss
    all_inner-sorted no_term inner outer ss c p = p
    all_inner-sorted (term t ts) inner outer ss c p =
        let a = and_parts (is_over (words_of inner) t) (all_over (words_of inner) ts) c in
        let r = bind_ok (least_sort known (inner ++ outer) t) (λ s. least_sorts known (inner ++ outer) ts >>= λ us. Ok (s ∷ us)) ss p in
        let q = bind_ok (least_sorts known (inner ++ outer) ts) (λ us. Ok (r.0 ∷ us)) ss r.2 in
        ap (λ z. z >>= λ s. least_sorts known inner ts >>= λ us. Ok (s ∷ us)) (inner-sorted t inner outer r.0 a.0 r.1)
        ∙ ap (λ z. z >>= λ us. Ok (r.0 ∷ us)) (all_inner-sorted ts inner outer q.0 a.1 q.1)
        ∙ q.2

-- a term without a free name has its sort over no names
pub closed-sorted : (defs : List PlainDef) (names : Names) (t : PlainTerm) (s : PlainSort) → is_closed t ≡ true → sort_of defs names t ≡ Ok s → sort_of defs [] t ≡ Ok s
closed-sorted defs names t s c p =
    let r = sort_of_ok defs names t s p in sized defs [] t s r.0 r.1 (inner-sorted (latest_first defs) t [] names s c r.2)

-- so its evaluation without names stays within the limits
pub closed_small : (defs : List PlainDef) (names : Names) (c : PlainTerm) → AreSound defs → is_closed c ≡ true → has_a_sort (sort_of defs names c) ≡ true → StaysSmall defs [] c
closed_small defs names c sound p q =
    let r = sort_there (sort_of defs names c) q in
    (sorted-kept defs [] [] c r.0 sound (λ x s e. cc) (λ x s e. cc) (closed-sorted defs names c r.0 p r.1)).small
