-- What the rules say of the terms of statements, and how scopes grow.
use Rattle.std.proofs.Common.{◌≡◌, ℕ, Bool, true, false, List, [], ◌∷◌, ◌++◌, length, map, Some, Result, Ok, Err, refl, sym, ap, ◌∙◌, cond, subst, arith}
use Rattle.std.specs.Prelude.{not}
use Rattle.std.specs.List.{list_all}
use Rattle.kid_value.specs.PlainValue.{PlainValue}
use Rattle.kid_value.specs.PlainSort.{PlainSort, never, bools, ints, pairs, sets, seqs, maps, enums}
use Rattle.kid_value.specs.SortOrder.{is_subsort}
use Rattle.kid_value.specs.SortLimits.{is_allowed}
use Rattle.kid_value.proofs.SortLemmas.{and_parts, and_both}
use Rattle.kid_term.specs.PlainTerm.{PlainTerm, term_row}
use Rattle.kid_term.specs.Names.{same_name, Names, is_named, PlainDef}
use Rattle.kid_term.specs.Eval.{Env, value_at, eval, evals, bound, calls_of}
use Rattle.kid_term.specs.Small.{stays_small, all_stay_small, checks_of}
use Rattle.kid_term.specs.Sorted.{Fault, Unknown, Sorted, ◌>>=◌}
use Rattle.kid_term.specs.Sorting.{sort_at, sort_of, fit_parameters}
use Rattle.kid_term.specs.Fitting.{IsOfSort, AreOfSorts, Fits, AreAllowed, AreSound}
use Rattle.kid_term.proofs.Inversions.{bind_ok, ok, ok_same}
use Rattle.kid_term.proofs.EvalLemmas.{same_name-itself, same_name-true, or_none}
use Rattle.kid_term.proofs.LogicSound.{IsOfSort-subsort}
use Rattle.kid_term.proofs.SortedValue.{Fits-more, AllEvaluate, sorted_evaluates}
use Rattle.kid_sorting.specs.Declaring.{is_truth, is_within, with_name}
use Rattle.kid_prog.specs.Rules.{sorts_of, call_fits, binds, ranges}

-- ---- names at the end

-- a name that is none of those before it
sort_at-last : (x : List ℕ) (a : PlainSort) (names : Names) → is_named x names ≡ false → sort_at x (with_name names x a) ≡ Ok a
sort_at-last x a [] h = by (same_name x x) (same_name-itself x)
  where
    by : (c : Bool) → c ≡ true → cond c (ok a) (Err Unknown) ≡ Ok a
    by true e = refl
    by false e = cc
sort_at-last x a (n ∷ names) h = let r = or_none (same_name x n.0) (is_named x names) h in by (same_name x n.0) r.0 (sort_at-last x a names r.1)
  where
    by : (c : Bool) → c ≡ false → sort_at x (with_name names x a) ≡ Ok a → cond c (ok n.1) (sort_at x (with_name names x a)) ≡ Ok a
    by false e k = k
    by true e k = cc

sort_at-before : (y x : List ℕ) (a : PlainSort) (names : Names) → same_name y x ≡ false → sort_at y (with_name names x a) ≡ sort_at y names
sort_at-before y x a [] h = by (same_name y x) h
  where
    by : (c : Bool) → c ≡ false → cond c (ok a) (Err Unknown) ≡ Err Unknown
    by false e = refl
    by true e = cc
sort_at-before y x a (n ∷ names) h = ap (cond (same_name y n.0) (ok n.1)) (sort_at-before y x a names h)

pub Fits-end : (x : List ℕ) (a : PlainSort) (v : PlainValue) (names : Names) (env : Env) → is_named x names ≡ false → IsOfSort a v → Fits names env
    → Fits (with_name names x a) ((x, v) ∷ env)
Fits-end x a v names env new hv h y s p = by (same_name y x) refl
  where
    by : (c : Bool) → same_name y x ≡ c → IsOfSort s (cond c v (value_at y env))
    by true e =
        let q : ok a ≡ ok s = sym (sort_at-last x a names new) ∙ subst (λ z. sort_at z (with_name names x a) ≡ Ok s) (same_name-true y x e) p in
        subst (λ z. IsOfSort z v) (ok_same a s q) hv
    by false e = h y s (sym (sort_at-before y x a names e) ∙ p)

pub AreAllowed-end : (x : List ℕ) (a : PlainSort) (names : Names) → is_named x names ≡ false → is_allowed a ≡ true → AreAllowed names → AreAllowed (with_name names x a)
AreAllowed-end x a names new ha h y s p = by (same_name y x) refl
  where
    by : (c : Bool) → same_name y x ≡ c → is_allowed s ≡ true
    by true e =
        let q : ok a ≡ ok s = sym (sort_at-last x a names new) ∙ subst (λ z. sort_at z (with_name names x a) ≡ Ok s) (same_name-true y x e) p in
        subst (λ z. is_allowed z ≡ true) (ok_same a s q) ha
    by false e = h y s (sym (sort_at-before y x a names e) ∙ p)

-- ---- parameters inside of inputs

inside-at : (y : List ℕ) (s : PlainSort) (ps : Names) (vs : List PlainValue) (names : Names) (env : Env) → length vs ≡ length ps
    → (sort_at y ps ≡ Ok s → IsOfSort s (value_at y (bound ps vs))) → (sort_at y names ≡ Ok s → IsOfSort s (value_at y env))
    → sort_at y (ps ++ names) ≡ Ok s → IsOfSort s (value_at y (bound ps vs ++ env))
inside-at y s [] [] names env e h k p = k p
inside-at y s [] (v ∷ vs) names env e h k p = let none : ⊥ = omega (arith, e) in absurd none
inside-at y s (q ∷ ps) [] names env e h k p = let none : ⊥ = omega (arith, e) in absurd none
inside-at y s (q ∷ ps) (v ∷ vs) names env e h k p = by (λ h p. inside-at y s ps vs names env (omega (arith, e)) h k p) (same_name y q.0) h p
  where
    by : ((sort_at y ps ≡ Ok s → IsOfSort s (value_at y (bound ps vs))) → sort_at y (ps ++ names) ≡ Ok s → IsOfSort s (value_at y (bound ps vs ++ env)))
        → (c : Bool) → (cond c (ok q.1) (sort_at y ps) ≡ Ok s → IsOfSort s (cond c v (value_at y (bound ps vs))))
        → cond c (ok q.1) (sort_at y (ps ++ names)) ≡ Ok s → IsOfSort s (cond c v (value_at y (bound ps vs ++ env)))
    by later true h p = h p
    by later false h p = later h p

pub Fits-inside : (ps : Names) (vs : List PlainValue) (names : Names) (env : Env) → length vs ≡ length ps → Fits ps (bound ps vs) → Fits names env → Fits (ps ++ names) (bound ps vs ++ env)
Fits-inside ps vs names env e h k y s p = inside-at y s ps vs names env e (h y s) (k y s) p

allowed-at : (y : List ℕ) (s : PlainSort) (ps names : Names) → (sort_at y ps ≡ Ok s → is_allowed s ≡ true) → (sort_at y names ≡ Ok s → is_allowed s ≡ true)
    → sort_at y (ps ++ names) ≡ Ok s → is_allowed s ≡ true
allowed-at y s [] names h k p = k p
allowed-at y s (q ∷ ps) names h k p = by (λ h p. allowed-at y s ps names h k p) (same_name y q.0) h p
  where
    by : ((sort_at y ps ≡ Ok s → is_allowed s ≡ true) → sort_at y (ps ++ names) ≡ Ok s → is_allowed s ≡ true) → (c : Bool) → (cond c (ok q.1) (sort_at y ps) ≡ Ok s → is_allowed s ≡ true) → cond c (ok q.1) (sort_at y (ps ++ names)) ≡ Ok s → is_allowed s ≡ true
    by later true h p = h p
    by later false h p = later h p

pub AreAllowed-inside : (ps names : Names) → AreAllowed ps → AreAllowed names → AreAllowed (ps ++ names)
AreAllowed-inside ps names h k y s p = allowed-at y s ps names (h y s) (k y s) p

-- as many values as names, each of its name's sort
pub AreOfSorts-fit : (ns : Names) (vs : List PlainValue) → AreOfSorts (map (λ n. n.1) ns) vs → (length vs ≡ length ns) × Fits ns (bound ns vs)
AreOfSorts-fit [] [] h = (refl, λ x s e. cc)
AreOfSorts-fit [] (v ∷ vs) h = absurd h
AreOfSorts-fit (n ∷ ns) [] h = absurd h
AreOfSorts-fit (n ∷ ns) (v ∷ vs) h = let k = AreOfSorts-fit ns vs h.1 in (omega (arith, k.0), Fits-more n.0 n.1 v ns (bound ns vs) h.0 k.1)

-- values of sorts within those of the parameters
pub parameters-fit : (ps : Names) (ss : List PlainSort) (vs : List PlainValue) → fit_parameters ps ss ≡ true → AreOfSorts ss vs → (length vs ≡ length ps) × Fits ps (bound ps vs)
parameters-fit [] [] [] p h = (refl, λ x s e. cc)
parameters-fit [] [] (v ∷ vs) p h = absurd h
parameters-fit [] (s ∷ ss) vs p h = cc
parameters-fit (q ∷ ps) [] vs p h = cc
parameters-fit (q ∷ ps) (s ∷ ss) [] p h = absurd h
parameters-fit (q ∷ ps) (s ∷ ss) (v ∷ vs) p h =
    let r = and_parts (is_subsort s q.1) (fit_parameters ps ss) p in
    let k = parameters-fit ps ss vs r.1 h.1 in
    (omega (arith, k.0), Fits-more q.0 q.1 v ps (bound ps vs) (IsOfSort-subsort s q.1 v r.0 h.0) k.1)

-- ---- what the tests of statements say

not_true : (b : Bool) → not b ≡ true → b ≡ false
not_true false p = refl
not_true true p = cc

pub binds_ok : (names : Names) (x : List ℕ) (r : Sorted) (k : Names → Bool) → binds names x r k ≡ true
    → (s : PlainSort) × (r ≡ Ok s) × (is_named x names ≡ false) × (k (with_name names x s) ≡ true)
binds_ok names x (Ok s) k p = let q = and_parts (not (is_named x names)) (k (with_name names x s)) p in (s, refl, not_true (is_named x names) q.0, q.1)
binds_ok names x (Err fault) k p = cc

pub ranges_ok : (names : Names) (x : List ℕ) (r : Sorted) (k : Names → Bool) → ranges names x r k ≡ true
    → (a : PlainSort) × (r ≡ Ok (sets a)) × (is_named x names ≡ false) × (k (with_name names x a) ≡ true)
ranges_ok names x (Ok (sets a)) k p = let q = and_parts (not (is_named x names)) (k (with_name names x a)) p in (a, refl, not_true (is_named x names) q.0, q.1)
ranges_ok names x (Ok never) k p = cc
ranges_ok names x (Ok bools) k p = cc
ranges_ok names x (Ok (ints lo hi)) k p = cc
ranges_ok names x (Ok (pairs a b)) k p = cc
ranges_ok names x (Ok (seqs a n)) k p = cc
ranges_ok names x (Ok (maps a b)) k p = cc
ranges_ok names x (Ok (enums ns)) k p = cc
ranges_ok names x (Err fault) k p = cc

pub is_truth_ok : (r : Sorted) → is_truth r ≡ true → r ≡ Ok bools
is_truth_ok (Ok bools) p = refl
is_truth_ok (Ok never) p = cc
is_truth_ok (Ok (sets a)) p = cc
is_truth_ok (Ok (ints lo hi)) p = cc
is_truth_ok (Ok (pairs a b)) p = cc
is_truth_ok (Ok (seqs a n)) p = cc
is_truth_ok (Ok (maps a b)) p = cc
is_truth_ok (Ok (enums ns)) p = cc
is_truth_ok (Err fault) p = cc

pub is_within_ok : (s : PlainSort) (r : Sorted) → is_within s r ≡ true → (a : PlainSort) × (r ≡ Ok a) × (is_subsort a s ≡ true)
is_within_ok s (Ok a) p = (a, refl, p)
is_within_ok s (Err fault) p = cc

pub call_fits_ok : (ps : Names) (r : Result (List PlainSort) Fault) → call_fits (Some ps) r ≡ true → (ss : List PlainSort) × (r ≡ Ok ss) × (fit_parameters ps ss ≡ true)
call_fits_ok ps (Ok ss) p = (ss, refl, p)
call_fits_ok ps (Err fault) p = cc

abbrev oks : List PlainSort → Result (List PlainSort) Fault
oks ss = Ok ss

ok_lists : (a b : List PlainSort) → oks a ≡ oks b → a ≡ b
ok_lists a b p = cc

-- terms of which each has a sort
pub terms-evaluate : (defs : List PlainDef) (names : Names) (env : Env) (ts : List PlainTerm) (ss : List PlainSort) → AreSound defs → AreAllowed names → Fits names env → sorts_of defs names ts ≡ Ok ss
    → AllEvaluate ss (evals (calls_of defs) env (term_row ts)) (all_stay_small (calls_of defs) (checks_of defs) env (term_row ts))
terms-evaluate defs names env [] ss sound a h p =
    record {
      of_sorts = subst (λ z. AreOfSorts z []) (ok_lists [] ss p) tt;
      sorts_allowed = subst (λ z. list_all is_allowed z ≡ true) (ok_lists [] ss p) refl;
      stay = refl;
    }
terms-evaluate defs names env (t ∷ ts) ss sound a h p =
    let r = bind_ok (sort_of defs names t) (λ s. sorts_of defs names ts >>= λ us. Ok (s ∷ us)) ss p in
    let q = bind_ok (sorts_of defs names ts) (λ us. Ok (r.0 ∷ us)) ss r.2 in
    let k = sorted_evaluates defs names env t r.0 sound a h r.1 in
    let l = terms-evaluate defs names env ts q.0 sound a h q.1 in
    record {
      of_sorts = subst (λ z. AreOfSorts z (eval (calls_of defs) env t ∷ evals (calls_of defs) env (term_row ts))) (ok_lists (r.0 ∷ q.0) ss q.2) (k.sound.of_sort, l.of_sorts);
      sorts_allowed = subst (λ z. list_all is_allowed z ≡ true) (ok_lists (r.0 ∷ q.0) ss q.2) (and_both (is_allowed r.0) (list_all is_allowed q.0) k.sound.sort_allowed l.sorts_allowed);
      stay = and_both (stays_small (calls_of defs) (checks_of defs) env t) (all_stay_small (calls_of defs) (checks_of defs) env (term_row ts)) k.stays l.stay;
    }
