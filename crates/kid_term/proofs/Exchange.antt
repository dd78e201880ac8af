-- A sorted term keeps its value where a subterm is exchanged for one that has the same value wherever it counts.
use Rattle.std.proofs.Common.{◌≡◌, ℕ, zero, suc, Bool, true, false, List, [], ◌∷◌, Ok, refl, sym, ap, ◌∙◌, cond, subst, map}
use Rattle.std.specs.Prelude.{not, ◌&&◌, ◌||◌, filter}
use Rattle.std.specs.List.{list_all, list_any}
use Rattle.kid_value.specs.PlainValue as value
use Rattle.kid_value.specs.PlainValue.{PlainValue, int, bool, pair, set, seq, map_of}
use Rattle.kid_value.specs.PlainSort.{PlainSort, sets}
use Rattle.kid_value.specs.ValueSet.{is_member, value_eq, set_of}
use Rattle.kid_value.specs.Rows.Parts.{truth_of, members_of, total}
use Rattle.kid_value.specs.Rows.Kinds.{set_from}
use Rattle.kid_value.proofs.ValueSetLaws.{value_eq-itself, value_eq-true}
use Rattle.kid_term.specs.PlainTerm.{PlainHead, op, PlainTerm, var, number, truth, tag, app, bind, PlainTerms, no_term, term}
use Rattle.kid_term.specs.declared.operator.Op.TheVariants.{Logic}
use Rattle.kid_term.specs.declared.operator.LogicOp.TheVariants.{And, Implies, If}
use Rattle.kid_term.specs.declared.operator.Binder.{Binder}
use Rattle.kid_term.specs.declared.operator.Binder.TheVariants as binder
use Rattle.kid_term.specs.Names.{Names, PlainDef, latest_first}
use Rattle.kid_term.specs.Laws.{ExchangesKeepValues}
use Rattle.kid_value.specs.Rows.Logic as row
use Rattle.kid_term.specs.LogicRows.{logic_value}
use Rattle.kid_term.specs.Eval.{Env, Calls, eval, evals, head_value, binder_value, calls_of}
use Rattle.kid_term.specs.Small.{Checks, checks_of}
use Rattle.kid_term.specs.Contexts.{first_or_false, Guard, SameAt, SameAmong}
use Rattle.kid_term.specs.Places.{put_at, put_among}
use Rattle.kid_term.specs.Sorted.{◌>>=◌}
use Rattle.kid_term.specs.Sorting.{head_sort, least_sort, least_sorts}
use Rattle.kid_term.specs.Written.{Numbers, written}
use Rattle.kid_term.specs.Fitting.{IsOfSort, AreOfSorts, Fits, AreAllowed}
use Rattle.kid_term.proofs.Inversions.{bind_ok, ok}
use Rattle.kid_term.proofs.LogicSound.{two_bools_ok}
use Rattle.kid_term.proofs.Members.{Each, members_sound}
use Rattle.kid_term.proofs.SortedValue.{CallsFit, Fits-more, AreAllowed-more, element_allowed, evaluates, all_evaluate, binder_ok, calls_fit, sort_of_ok}

or_true : (b c : Bool) → c ≡ true → (b || c) ≡ true
or_true true c e = refl
or_true false c e = e

-- bodies that agree at each member
module _ (f g : PlainValue → PlainValue) where
  pub map-members : (vs : List PlainValue) → ((v : PlainValue) → is_member v vs ≡ true → f v ≡ g v) → map f vs ≡ map g vs
  map-members [] h = refl
  map-members (v ∷ vs) h =
      let e : f v ≡ g v = h v (ap (λ c. c || is_member v vs) (value_eq-itself v)) in
      let k : map f vs ≡ map g vs = map-members vs (λ w m. h w (or_true (value_eq w v) (is_member w vs) m)) in
      λ i. e i ∷ k i

  all-members : (vs : List PlainValue) → ((v : PlainValue) → is_member v vs ≡ true → f v ≡ g v) → list_all (λ v. truth_of (f v)) vs ≡ list_all (λ v. truth_of (g v)) vs
  all-members [] h = refl
  all-members (v ∷ vs) h =
      let e : f v ≡ g v = h v (ap (λ c. c || is_member v vs) (value_eq-itself v)) in
      let k = all-members vs (λ w m. h w (or_true (value_eq w v) (is_member w vs) m)) in
      λ i. truth_of (e i) && k i

  any-members : (vs : List PlainValue) → ((v : PlainValue) → is_member v vs ≡ true → f v ≡ g v) → list_any (λ v. truth_of (f v)) vs ≡ list_any (λ v. truth_of (g v)) vs
  any-members [] h = refl
  any-members (v ∷ vs) h =
      let e : f v ≡ g v = h v (ap (λ c. c || is_member v vs) (value_eq-itself v)) in
      let k = any-members vs (λ w m. h w (or_true (value_eq w v) (is_member w vs) m)) in
      λ i. truth_of (e i) || k i

  filter-members : (vs : List PlainValue) → ((v : PlainValue) → is_member v vs ≡ true → f v ≡ g v) → filter (λ v. truth_of (f v)) vs ≡ filter (λ v. truth_of (g v)) vs
  filter-members [] h = refl
  filter-members (v ∷ vs) h =
      let e : f v ≡ g v = h v (ap (λ c. c || is_member v vs) (value_eq-itself v)) in
      let k = filter-members vs (λ w m. h w (or_true (value_eq w v) (is_member w vs) m)) in
      λ i. cond (truth_of (e i)) (v ∷ k i) (k i)

  pub binder_value-members : (b : Binder) (vs : List PlainValue) → ((v : PlainValue) → is_member v vs ≡ true → f v ≡ g v) → binder_value b vs f ≡ binder_value b vs g
  binder_value-members binder.All vs h = ap bool (all-members vs h)
  binder_value-members binder.Some vs h = ap bool (any-members vs h)
  binder_value-members binder.SetOf vs h = ap set_from (filter-members vs h)
  binder_value-members binder.Image vs h = ap (λ ws. set_from (set_of ws)) (map-members vs h)
  binder_value-members binder.SumOf vs h = ap (λ ws. int (total ws)) (map-members vs h)

Each-member : (P : PlainValue → Type 0) (v : PlainValue) (vs : List PlainValue) → Each P vs → is_member v vs ≡ true → P v
Each-member P v [] h m = cc
Each-member P v (w ∷ vs) h m = by (value_eq v w) refl m (Each-member P v vs h.1)
  where
    by : (c : Bool) → value_eq v w ≡ c → (c || is_member v vs) ≡ true → (is_member v vs ≡ true → P v) → P v
    by true e q k = subst P (sym (value_eq-true v w e)) h.0
    by false e q k = k q

-- ---- where the guard of a child does not hold, its value does not count

and_at_false : (v w : PlainValue) → truth_of v ≡ false → row.and v w ≡ bool false
and_at_false (bool true) w e = cc
and_at_false (bool false) (int n) e = refl
and_at_false (bool false) (bool q) e = refl
and_at_false (bool false) (pair a b) e = refl
and_at_false (bool false) (set a) e = refl
and_at_false (bool false) (seq a) e = refl
and_at_false (bool false) (map_of a) e = refl
and_at_false (bool false) (value.tag n) e = refl
and_at_false (int n) w e = refl
and_at_false (pair a b) w e = refl
and_at_false (set a) w e = refl
and_at_false (seq a) w e = refl
and_at_false (map_of a) w e = refl
and_at_false (value.tag n) w e = refl

and_false : (v : PlainValue) (vs : List PlainValue) → truth_of v ≡ false → logic_value And (v ∷ vs) ≡ bool false
and_false v [] e = refl
and_false v (w ∷ []) e = and_at_false v w e
and_false v (w ∷ x ∷ vs) e = refl

same_element : (a b : PlainSort) → ok (sets a) ≡ ok (sets b) → a ≡ b
same_element a b p = cc

-- two truth values of which the first is false
implies_true : (v : PlainValue) (vs : List PlainValue) (p q : Bool) → truth_of v ≡ false → v ∷ vs ≡ bool p ∷ bool q ∷ [] → logic_value Implies (v ∷ vs) ≡ bool true
implies_true v vs p q e f =
    let g : p ≡ false = sym (ap (λ l. truth_of (first_or_false l)) f) ∙ e in ap (logic_value Implies) f ∙ ap (λ z. bool (not z || q)) g

choose_at_false : (v x y z : PlainValue) → truth_of v ≡ false → row.choose v x z ≡ row.choose v y z
choose_at_false (bool true) x y z e = cc
choose_at_false (bool false) x y z e = refl
choose_at_false (int n) x y z e = refl
choose_at_false (pair a b) x y z e = refl
choose_at_false (set a) x y z e = refl
choose_at_false (seq a) x y z e = refl
choose_at_false (map_of a) x y z e = refl
choose_at_false (value.tag n) x y z e = refl

choose_at_true : (v w x y : PlainValue) → truth_of v ≡ true → row.choose v w x ≡ row.choose v w y
choose_at_true (bool true) w x y e = refl
choose_at_true (bool false) w x y e = cc
choose_at_true (int n) w x y e = refl
choose_at_true (pair a b) w x y e = refl
choose_at_true (set a) w x y e = refl
choose_at_true (seq a) w x y e = refl
choose_at_true (map_of a) w x y e = refl
choose_at_true (value.tag n) w x y e = refl

if_first : (v x y : PlainValue) (vs : List PlainValue) → truth_of v ≡ false → logic_value If (v ∷ x ∷ vs) ≡ logic_value If (v ∷ y ∷ vs)
if_first v x y [] e = refl
if_first v x y (z ∷ []) e = choose_at_false v x y z e
if_first v x y (z ∷ u ∷ vs) e = refl

if_second : (v w x y : PlainValue) (vs : List PlainValue) → truth_of v ≡ true → logic_value If (v ∷ w ∷ x ∷ vs) ≡ logic_value If (v ∷ w ∷ y ∷ vs)
if_second v w x y [] e = choose_at_true v w x y e
if_second v w x y (z ∷ vs) e = refl

module _ (known : List PlainDef) (calls : Calls) (checks : Checks) (fit : CallsFit known calls checks) where
  -- the value of an application, where one child's value changes only where the guard does not hold
  guarded : (g : PlainHead) (ts : PlainTerms) (i : ℕ) (path : List ℕ) (new : PlainTerm) (env : Env) (ns ns' : Numbers) (ss ss' : List PlainSort) (s s' : PlainSort)
      → head_sort known g ns ss ≡ Ok s → AreOfSorts ss (evals calls env ts) → head_sort known g ns' ss' ≡ Ok s' → AreOfSorts ss' (evals calls env (put_among ts i path new))
      → (Guard g i (evals calls env ts) → evals calls env (put_among ts i path new) ≡ evals calls env ts)
      → head_value calls g (evals calls env (put_among ts i path new)) ≡ head_value calls g (evals calls env ts)
  guarded (op (Logic And)) no_term (suc zero) path new env ns ns' ss ss' s s' p h p' h' k = refl
  guarded (op (Logic And)) (term u ts) (suc zero) path new env ns ns' ss ss' s s' p h p' h' k = by (truth_of (eval calls env u)) refl
    where
      by : (c : Bool) → truth_of (eval calls env u) ≡ c
          → logic_value And (eval calls env u ∷ evals calls env (put_among ts 0 path new)) ≡ logic_value And (eval calls env u ∷ evals calls env ts)
      by true e = ap (logic_value And) (k e)
      by false e = and_false (eval calls env u) (evals calls env (put_among ts 0 path new)) e ∙ sym (and_false (eval calls env u) (evals calls env ts) e)
  guarded (op (Logic Implies)) no_term (suc zero) path new env ns ns' ss ss' s s' p h p' h' k = refl
  guarded (op (Logic Implies)) (term u ts) (suc zero) path new env ns ns' ss ss' s s' p h p' h' k = by (truth_of (eval calls env u)) refl
    where
      by : (c : Bool) → truth_of (eval calls env u) ≡ c
          → logic_value Implies (eval calls env u ∷ evals calls env (put_among ts 0 path new)) ≡ logic_value Implies (eval calls env u ∷ evals calls env ts)
      by true e = ap (logic_value Implies) (k e)
      by false e =
          let r = two_bools_ok ss (eval calls env u ∷ evals calls env ts) s p h in
          let r' = two_bools_ok ss' (eval calls env u ∷ evals calls env (put_among ts 0 path new)) s' p' h' in
          implies_true (eval calls env u) (evals calls env (put_among ts 0 path new)) r'.0 r'.1 e r'.2 ∙ sym (implies_true (eval calls env u) (evals calls env ts) r.0 r.1 e r.2)
  guarded (op (Logic If)) no_term (suc zero) path new env ns ns' ss ss' s s' p h p' h' k = refl
  guarded (op (Logic If)) (term u no_term) (suc zero) path new env ns ns' ss ss' s s' p h p' h' k = refl
  guarded (op (Logic If)) (term u (term w ts)) (suc zero) path new env ns ns' ss ss' s s' p h p' h' k = by (truth_of (eval calls env u)) refl
    where
      by : (c : Bool) → truth_of (eval calls env u) ≡ c
          → logic_value If (eval calls env u ∷ eval calls env (put_at w path new) ∷ evals calls env ts) ≡ logic_value If (eval calls env u ∷ eval calls env w ∷ evals calls env ts)
      by true e = ap (logic_value If) (k e)
      by false e = if_first (eval calls env u) (eval calls env (put_at w path new)) (eval calls env w) (evals calls env ts) e
  guarded (op (Logic If)) no_term (suc (suc zero)) path new env ns ns' ss ss' s s' p h p' h' k = refl
  guarded (op (Logic If)) (term u no_term) (suc (suc zero)) path new env ns ns' ss ss' s s' p h p' h' k = refl
  guarded (op (Logic If)) (term u (term w no_term)) (suc (suc zero)) path new env ns ns' ss ss' s s' p h p' h' k = refl
  guarded (op (Logic If)) (term u (term w (term y ts))) (suc (suc zero)) path new env ns ns' ss ss' s s' p h p' h' k = by (truth_of (eval calls env u)) refl
    where
      by : (c : Bool) → truth_of (eval calls env u) ≡ c
          → logic_value If (eval calls env u ∷ eval calls env w ∷ eval calls env (put_at y path new) ∷ evals calls env ts)
          ≡ logic_value If (eval calls env u ∷ eval calls env w ∷ eval calls env y ∷ evals calls env ts)
      by true e = if_second (eval calls env u) (eval calls env w) (eval calls env (put_at y path new)) (eval calls env y) (evals calls env ts) e
      by false e = ap (logic_value If) (k e)
  guarded g ts i path new env ns ns' ss ss' s s' p h p' h' k = ap (head_value calls g) (k tt)

  mutual
    pub eval-put_at : (t : PlainTerm) (path : List ℕ) (new : PlainTerm) (names : Names) (env : Env) (s s' : PlainSort) → least_sort known names t ≡ Ok s → least_sort known names (put_at t path new) ≡ Ok s'
        → AreAllowed names → Fits names env → SameAt calls t path new env → eval calls env (put_at t path new) ≡ eval calls env t
    eval-put_at (var x) [] new names env s s' p p' a h k = k
    eval-put_at (number n) [] new names env s s' p p' a h k = k
    eval-put_at (truth b) [] new names env s s' p p' a h k = k
    eval-put_at (tag n) [] new names env s s' p p' a h k = k
    eval-put_at (app g ts) [] new names env s s' p p' a h k = k
    eval-put_at (bind b x u t) [] new names env s s' p p' a h k = k
    eval-put_at (var x) (i ∷ path) new names env s s' p p' a h k = refl
    eval-put_at (number n) (i ∷ path) new names env s s' p p' a h k = refl
    eval-put_at (truth b) (i ∷ path) new names env s s' p p' a h k = refl
    eval-put_at (tag n) (i ∷ path) new names env s s' p p' a h k = refl
    eval-put_at (app g ts) (i ∷ path) new names env s s' p p' a h k =
        let r = bind_ok (least_sorts known names ts) (head_sort known g (written ts)) s p in
        let r' = bind_ok (least_sorts known names (put_among ts i path new)) (head_sort known g (written (put_among ts i path new))) s' p' in
        guarded g ts i path new env (written ts) (written (put_among ts i path new)) r.0 r'.0 s s' r.2 (all_evaluate known calls checks fit ts names env r.0 r.1 a h).of_sorts r'.2
        (all_evaluate known calls checks fit (put_among ts i path new) names env r'.0 r'.1 a h).of_sorts (λ w. evals-put_among ts i path new names env r.0 r'.0 r.1 r'.1 a h (k w))
    eval-put_at (bind b x u t) (zero ∷ path) new names env s s' p p' a h k =
        let r = binder_ok known names b x u t s p in
        let r' = binder_ok known names b x (put_at u path new) t s' p' in
        ap (λ v. binder_value b (members_of v) (λ w. eval calls ((x, w) ∷ env) t)) (eval-put_at u path new names env (sets r.element) (sets r'.element) r.of_set r'.of_set a h k)
    eval-put_at (bind b x u t) (suc zero ∷ path) new names env s s' p p' a h k =
        let r = binder_ok known names b x u t s p in
        let r' = binder_ok known names b x u (put_at t path new) s' p' in
        let e : r'.element ≡ r.element = same_element r'.element r.element (sym r'.of_set ∙ r.of_set) in
        let q : least_sort known ((x, r.element) ∷ names) (put_at t path new) ≡ Ok r'.body = subst (λ z. least_sort known ((x, z) ∷ names) (put_at t path new) ≡ Ok r'.body) e r'.of_body in
        let m = evaluates known calls checks fit u names env (sets r.element) r.of_set a h in
        let each = members_sound r.element (eval calls env u) m.sound.of_sort in
        binder_value-members (λ v. eval calls ((x, v) ∷ env) (put_at t path new)) (λ v. eval calls ((x, v) ∷ env) t) b (members_of (eval calls env u))
        (λ v w. eval-put_at t path new ((x, r.element) ∷ names) ((x, v) ∷ env) r.body r'.body r.of_body q
        (AreAllowed-more x r.element names (element_allowed r.element m.sound.sort_allowed) a)
        (Fits-more x r.element v names env (Each-member (IsOfSort r.element) v (members_of (eval calls env u)) each.each w) h) (k v w))
    eval-put_at (bind b x u t) (suc (suc i) ∷ path) new names env s s' p p' a h k = refl

    pub evals-put_among : (ts : PlainTerms) (i : ℕ) (path : List ℕ) (new : PlainTerm) (names : Names) (env : Env) (ss ss' : List PlainSort) → least_sorts known names ts ≡ Ok ss
        → least_sorts known names (put_among ts i path new) ≡ Ok ss' → AreAllowed names → Fits names env → SameAmong calls ts i path new env → evals calls env (put_among ts i path new) ≡ evals calls env ts
    evals-put_among no_term i path new names env ss ss' p p' a h k = refl
    evals-put_among (term t ts) zero path new names env ss ss' p p' a h k =
        let r = bind_ok (least_sort known names t) (λ s. least_sorts known names ts >>= λ us. Ok (s ∷ us)) ss p in
        let r' = bind_ok (least_sort known names (put_at t path new)) (λ s. least_sorts known names ts >>= λ us. Ok (s ∷ us)) ss' p' in
        ap (λ v. v ∷ evals calls env ts) (eval-put_at t path new names env r.0 r'.0 r.1 r'.1 a h k)
    evals-put_among (term t ts) (suc i) path new names env ss ss' p p' a h k =
        let r = bind_ok (least_sort known names t) (λ s. least_sorts known names ts >>= λ us. Ok (s ∷ us)) ss p in
        let r' = bind_ok (least_sort known names t) (λ s. least_sorts known names (put_among ts i path new) >>= λ us. Ok (s ∷ us)) ss' p' in
        let q = bind_ok (least_sorts known names ts) (λ us. Ok (r.0 ∷ us)) ss r.2 in
        let q' = bind_ok (least_sorts known names (put_among ts i path new)) (λ us. Ok (r'.0 ∷ us)) ss' r'.2 in
        ap (λ vs. eval calls env t ∷ vs) (evals-put_among ts i path new names env q.0 q'.0 q.1 q'.1 a h k)

pub exchange-kept : ExchangesKeepValues
exchange-kept defs names env t new path s s' sound a h p p' k =
    eval-put_at (latest_first defs) (calls_of defs) (checks_of defs) (calls_fit defs sound) t path new names env s s'
    (sort_of_ok defs names t s p).2 (sort_of_ok defs names (put_at t path new) s' p').2 a h k
