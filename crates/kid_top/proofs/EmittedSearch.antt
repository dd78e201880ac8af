-- The emitted program finds the answers that are wanted in order, and its calls are as many as the intervals that the search visits.
use Rattle.std.proofs.Common.{◌≡◌, ℕ, zero, suc, ◌+◌, ◌<◌, ◌≤◌, Bool, true, false, cond, List, [], ◌∷◌, ◌++◌, length, map, take, Option, Some, None, refl, sym, ap, ap₂, ◌∙◌, subst, arith, append-nil}
use Rattle.std.specs.Prelude.{ℤ, pos, ◌+ℤ◌, ◌≤ℤ◌, ◌<ℤ◌, int_lt, ◌&&◌, nat_le}
use Rattle.std.specs.Int.{int_gap}
use Rattle.std.specs.Ordering.{int_eq}
use Rattle.std.specs.List.{flat_map}
use Rattle.std.specs.Option.{option_to_list}
use Rattle.std.proofs.lemmas.Int.{ints as int_rules}
use Rattle.std.proofs.lemmas.Grind.{flat_map-append}
use Rattle.std.proofs.lemmas.Bool.Decides.{nat_tests}
use Rattle.kid_value.specs.PlainValue.{PlainValue, int}
use Rattle.kid_term.specs.Eval.{Env}
use Rattle.kid_term.specs.PlainTheory.{PlainTheory}
use Rattle.kid_prog.specs.Events.{Event, called, found, program_events}
use Rattle.kid_prog.specs.Running.{Run, upto, upto_value, within, run_of}
use Rattle.kid_prog.proofs.EventLists.{calls_in, whole-is_all, few-whole, many-cut}
use Rattle.kid_prog.proofs.RunDepths.{run_of-deeper}
use Rattle.kid_top.specs.RangeSearch.{Interval, middle, range_leaf, range_kids, range_visits, range_visited, range_count, range_found}
use Rattle.kid_top.specs.Search.{visited, left_after, upto_leaf, upto_wanted}
use Rattle.kid_top.specs.Emitted.{emitted}
use Rattle.kid_top.specs.TheoryAt.{relates_at}
use Rattle.kid_top.proofs.Ranges.{int_lt-is, middle_between, gaps_add, length-both}
use Rattle.kid_top.proofs.VisitLists.{leaves}
use Rattle.kid_top.proofs.EmittedCall.{begun, call-is}
pub use Rattle.kid_top.proofs.EmittedCall.{Searchable}

abbrev halves : Bool → ℤ → ℤ → List Interval
halves wide l h = cond wide ((l, middle l h) ∷ (middle l h +ℤ pos 1, h) ∷ []) []

int_lt-true : (a b : ℤ) → int_lt a b ≡ true → a <ℤ b
int_lt-true a b e = grind (arith, int_rules)

-- ---- all that is done at the descriptors that are visited

-- what a call does before it calls for its halves
abbrev pub at_visit : (ℤ → Bool) → Interval → List Event
at_visit good d = called ∷ cond (int_eq d.0 d.1 && good d.0) (found (int d.0) ∷ []) []

events-halves : (good : ℤ → Bool) (n : ℕ) (l h : ℤ) (lower upper : List Event)
    → (l <ℤ h → lower ≡ flat_map (at_visit good) (visited range_kids n (l, middle l h)))
    → (l <ℤ h → upper ≡ flat_map (at_visit good) (visited range_kids n (middle l h +ℤ pos 1, h)))
    → (wide : Bool) → int_lt l h ≡ wide → cond wide (lower ++ upper) [] ≡ flat_map (at_visit good) (flat_map (visited range_kids n) (halves wide l h))
events-halves good n l h lower upper left right true e =
    let lt = int_lt-true l h e in
    ap₂ (λ es fs. es ++ fs) (left lt) (right lt)
    ∙ sym (flat_map-append (at_visit good) (visited range_kids n (l, middle l h)) (visited range_kids n (middle l h +ℤ pos 1, h)))
    ∙ ap (λ ds. flat_map (at_visit good) (visited range_kids n (l, middle l h) ++ ds)) (sym (append-nil (visited range_kids n (middle l h +ℤ pos 1, h))))
events-halves good n l h lower upper left right false e = refl

-- the visits of each half are fewer
visits-halves : (m n : ℕ) (l h : ℤ) (wide : Bool) → int_lt l h ≡ wide → suc (length (flat_map (visited range_kids n) (halves wide l h))) ≤ suc m → l <ℤ h
    → (range_visits n l (middle l h) ≤ m) × (range_visits n (middle l h +ℤ pos 1) h ≤ m)
visits-halves m n l h true e few lt =
    let both = length-both (visited range_kids n) (l, middle l h) (middle l h +ℤ pos 1, h) in
    (omega (arith, both, few), omega (arith, both, few))
visits-halves m n l h false e few lt = let wide = int_lt-is l h lt in cc

-- ---- runs of visits

after-visit : (c : Bool) (z : ℤ) (fuel : ℕ) (es : List Event) (zs : List ℤ) → (within fuel es).values ≡ map int zs
    → (within fuel (cond c (found (int z) ∷ []) [] ++ es)).values ≡ map int (option_to_list (cond c (Some z) None) ++ zs)
after-visit true z fuel es zs e = ap (λ vs. int z ∷ vs) e
after-visit false z fuel es zs e = e

-- so much fuel is for so many visits
values-visits : (good : ℤ → Bool) (ds : List Interval) (fuel : ℕ)
    → (within fuel (flat_map (at_visit good) ds)).values ≡ map int (leaves (range_leaf good) (take fuel ds))
values-visits good [] zero = refl
values-visits good [] (suc fuel) = refl
values-visits good (d ∷ ds) zero = refl
values-visits good (d ∷ ds) (suc fuel) =
    after-visit (int_eq d.0 d.1 && good d.0) d.0 fuel (flat_map (at_visit good) ds) (leaves (range_leaf good) (take fuel ds)) (values-visits good ds fuel)

calls-leaf : (good : Bool) (v : PlainValue) (es : List Event) → calls_in (cond good (found v ∷ []) [] ++ es) ≡ calls_in es
calls-leaf true v es = refl
calls-leaf false v es = refl

-- a visit is a call
calls-visits : (good : ℤ → Bool) (ds : List Interval) → calls_in (flat_map (at_visit good) ds) ≡ length ds
calls-visits good [] = refl
calls-visits good (d ∷ ds) = ap suc (calls-leaf (int_eq d.0 d.1 && good d.0) (int d.0) (flat_map (at_visit good) ds) ∙ calls-visits good ds)

-- a run is whole where the fuel is for as many calls as there are
whole-calls : (es : List Event) (n fuel : ℕ) → calls_in es ≡ n → (b : Bool) → nat_le n fuel ≡ b → (within fuel es).whole ≡ b
whole-calls es n fuel is true e = let le : n ≤ fuel = grind (arith, nat_tests) in few-whole es fuel (omega (arith, is, le))
whole-calls es n fuel is false e = let lt : fuel < n = grind (arith, nat_tests) in many-cut es fuel (omega (arith, is, lt))

-- one visit before others, by whether a value is found at it
visit-upto : (good : ℤ → Bool) (c : Bool) (z : ℤ) (k : ℕ) (ds : List Interval)
    → upto k (flat_map (at_visit good) ds) ≡ flat_map (at_visit good) (upto_leaf (range_leaf good) k ds)
    → upto (suc k) (flat_map (at_visit good) ds) ≡ flat_map (at_visit good) (upto_leaf (range_leaf good) (suc k) ds)
    → upto (suc k) (called ∷ (cond c (found (int z) ∷ []) [] ++ flat_map (at_visit good) ds))
    ≡ called ∷ (cond c (found (int z) ∷ []) [] ++ flat_map (at_visit good) (upto_leaf (range_leaf good) (left_after (cond c (Some z) None) k) ds))
visit-upto good true z k ds fewer same = ap (λ es. called ∷ found (int z) ∷ es) fewer
visit-upto good false z k ds fewer same = ap (λ es. called ∷ es) same

visits-upto : (good : ℤ → Bool) (k : ℕ) (ds : List Interval) → upto k (flat_map (at_visit good) ds) ≡ flat_map (at_visit good) (upto_leaf (range_leaf good) k ds)
visits-upto good zero ds = refl
visits-upto good (suc k) [] = refl
visits-upto good (suc k) (d ∷ ds) = visit-upto good (int_eq d.0 d.1 && good d.0) d.0 k ds (visits-upto good k ds) (visits-upto good (suc k) ds)

-- the events of visits as far as values are wanted are those of the visits as far as they are
visits-wanted : (good : ℤ → Bool) (first : Option ℕ) (ds : List Interval) → upto_value first (flat_map (at_visit good) ds) ≡ flat_map (at_visit good) (upto_wanted (range_leaf good) first ds)
visits-wanted good None ds = refl
visits-wanted good (Some k) ds = visits-upto good k ds

-- ---- the search procedure against the search

-- the halves lie between the ends, and the upper one is not empty
lower-end : (l h hi : ℤ) → l <ℤ h → h ≤ℤ hi → middle l h ≤ℤ hi
lower-end l h hi lt high = omega (arith, int_rules, (middle_between l h lt).1, high)

upper-end : (lo l h : ℤ) → l <ℤ h → lo ≤ℤ l → lo ≤ℤ (middle l h +ℤ pos 1)
upper-end lo l h lt low = omega (arith, int_rules, (middle_between l h lt).0, low)

upper-ordered : (l h : ℤ) → l <ℤ h → (middle l h +ℤ pos 1) ≤ℤ h
upper-ordered l h lt = omega (arith, int_rules, (middle_between l h lt).1)

module _ (t : PlainTheory) (lo hi : ℤ) (x : Env) (can : Searchable t lo hi) where
  abbrev good : ℤ → Bool
  good = relates_at t x

  -- what a call does, where as many others may lie under it as there are visits
  call-events : (m n : ℕ) (l h : ℤ) → lo ≤ℤ l → h ≤ℤ hi → l ≤ℤ h → int_gap l h < n → range_visits n l h ≤ m
      → begun t lo hi x m l h ≡ flat_map (at_visit good) (visited range_kids n (l, h))
  call-events m zero l h low high le gap enough = absurd (omega (arith, gap))
  call-events zero (suc n) l h low high le gap enough = absurd (omega (arith, enough))
  call-events (suc m) (suc n) l h low high le gap enough =
      let few = visits-halves m n l h (int_lt l h) refl enough in
      let lower = begun t lo hi x m l (middle l h) in
      let upper = begun t lo hi x m (middle l h +ℤ pos 1) h in
      call-is t lo hi x m l h can low (omega (arith, int_rules, le, high))
      ∙ ap (λ es. called ∷ (cond (int_eq l h && good l) (found (int l) ∷ []) [] ++ es))
      (events-halves good n l h lower upper
      (λ lt. call-events m n l (middle l h) low (lower-end l h hi lt high) (middle_between l h lt).0 (omega (arith, gaps_add l h lt, gap)) (few lt).0)
      (λ lt. call-events m n (middle l h +ℤ pos 1) h (upper-end lo l h lt low) high (upper-ordered l h lt) (omega (arith, gaps_add l h lt, gap)) (few lt).1)
      (int_lt l h) refl)

  -- the program's one call
  events-are : (n : ℕ) → program_events (emitted t lo hi) x n ≡ begun t lo hi x n lo hi
  events-are n = append-nil (begun t lo hi x n lo hi ++ []) ∙ append-nil (begun t lo hi x n lo hi)

-- a run of the program that is emitted for a theory goes through the visits of the search of its sort, as far as answers are wanted
run-visits : (t : PlainTheory) (lo hi : ℤ) (x : Env) (fuel : ℕ) → Searchable t lo hi
    → run_of (emitted t lo hi) x fuel ≡ within fuel (flat_map (at_visit (relates_at t x)) (range_visited (relates_at t x) t.spec.first (lo, hi)))
run-visits t lo hi x fuel can =
    let ds = visited range_kids (suc (int_gap lo hi)) (lo, hi) in
    let m : ℕ = fuel + length ds in
    let good : ℤ → Bool = relates_at t x in
    let events = call-events t lo hi x can m (suc (int_gap lo hi)) lo hi (omega (arith, int_rules)) (omega (arith, int_rules)) can.ordered (omega arith) (omega arith) in
    run_of-deeper (emitted t lo hi) x fuel m (omega arith)
    ∙ ap (λ es. within fuel (upto_value t.spec.first es)) (events-are t lo hi x can m ∙ events)
    ∙ ap (within fuel) (visits-wanted good t.spec.first ds)

-- it finds what the first of these hold
pub emitted-found : (t : PlainTheory) (lo hi : ℤ) (x : Env) (fuel : ℕ) → Searchable t lo hi
    → (run_of (emitted t lo hi) x fuel).values ≡ map int (range_found (relates_at t x) t.spec.first fuel (lo, hi))
emitted-found t lo hi x fuel can =
    ap (λ (r : Run). r.values) (run-visits t lo hi x fuel can) ∙ values-visits (relates_at t x) (range_visited (relates_at t x) t.spec.first (lo, hi)) fuel

-- it comes to its end where the fuel is for as many calls
pub emitted-whole : (t : PlainTheory) (lo hi : ℤ) (x : Env) (fuel : ℕ) → Searchable t lo hi
    → (run_of (emitted t lo hi) x fuel).whole ≡ nat_le (range_count (relates_at t x) t.spec.first (lo, hi)) fuel
emitted-whole t lo hi x fuel can =
    let ds = range_visited (relates_at t x) t.spec.first (lo, hi) in
    ap (λ (r : Run). r.whole) (run-visits t lo hi x fuel can)
    ∙ whole-calls (flat_map (at_visit (relates_at t x)) ds) (length ds) fuel (calls-visits (relates_at t x) ds) (nat_le (length ds) fuel) refl

-- and then it has begun just these
pub emitted-calls : (t : PlainTheory) (lo hi : ℤ) (x : Env) (fuel : ℕ) → Searchable t lo hi → (run_of (emitted t lo hi) x fuel).whole ≡ true
    → (run_of (emitted t lo hi) x fuel).calls ≡ range_count (relates_at t x) t.spec.first (lo, hi)
emitted-calls t lo hi x fuel can whole =
    let ds = range_visited (relates_at t x) t.spec.first (lo, hi) in
    let is = run-visits t lo hi x fuel can in
    ap (λ (r : Run). r.calls) is
    ∙ (whole-is_all (flat_map (at_visit (relates_at t x)) ds) fuel (ap (λ (r : Run). r.whole) (sym is) ∙ whole)).calls
    ∙ calls-visits (relates_at t x) ds
