-- The instances of a true law are true.
use Rattle.std.proofs.Common.{cond, ◌≡◌, ℕ, Bool, true, false, List, [], ◌∷◌, Ok, refl, sym, ap, ◌∙◌, subst, map}
use Rattle.std.specs.Prelude.{◌&&◌, ◌||◌}
use Rattle.std.specs.List.{list_all}
use Rattle.kid_value.specs.PlainValue.{PlainValue, int, bool, set, seq, map_of}
use Rattle.kid_value.specs.PlainSort.{PlainSort}
use Rattle.kid_value.specs.Rows.Parts.{truth_of}
use Rattle.kid_value.proofs.SortLemmas.{and_parts}
use Rattle.kid_term.specs.PlainTerm.{op, PlainTerm, var, number, truth, tag, app, bind, PlainTerms, no_term, term}
use Rattle.kid_term.specs.Names.{Names, PlainDef, same_name, latest_first}
use Rattle.kid_term.specs.Eval.{Env, Calls, value_at, eval, evals, calls_of}
use Rattle.kid_term.specs.Sorted.{◌>>=◌}
use Rattle.kid_value.specs.NameSet.{is_among}
use Rattle.kid_term.specs.Simultaneous.{Subst, term_for, substituted, all_substituted}
use Rattle.kid_term.specs.Substitution.{mentions, some_mentions, captures, some_capture}
use Rattle.kid_term.specs.Sorting.{least_sort, least_sorts, head_sort}
use Rattle.kid_term.specs.Written.{written}
use Rattle.kid_term.specs.Fitting.{Fits, AreAllowed, AreSound}
use Rattle.kid_term.specs.Small.{checks_of}
use Rattle.kid_term.specs.Truths.{AllTrue}
use Rattle.kid_term.proofs.EvalLemmas.{same_name-true}
use Rattle.kid_term.proofs.Inversions.{bind_ok}
use Rattle.kid_term.proofs.SimultaneousLemmas.{eval-put}
use Rattle.kid_term.proofs.SortedValue.{calls_fit, all_evaluate}
use Rattle.kid_laws.specs.Law.{Law}
use Rattle.kid_laws.specs.Lawful.{Kind, anys, bools, ints, sets, seqs, maps, kinded, is_side, are_sides, takes, same_kind, is_name, stands, stands_among, is_told, names_of, is_lawful}
use Rattle.kid_laws.specs.Truth.{EachOf, ForAll, Given, IsTrue}
use Rattle.kid_laws.proofs.KindLemmas.{Has, Have, op_met}

-- ---- sides of laws

-- nothing is bound in a side
mutual
  side-captures : (xs : List (List ℕ)) (x : List ℕ) (new t : PlainTerm) → is_side xs t ≡ true → captures x new t ≡ false
  side-captures xs x new (var y) h = refl
  side-captures xs x new (number n) h = refl
  side-captures xs x new (truth b) h = refl
  side-captures xs x new (tag n) h = refl
  side-captures xs x new (app g ts) h = sides-capture xs x new ts h
  side-captures xs x new (bind b y s t) h = cc

  sides-capture : (xs : List (List ℕ)) (x : List ℕ) (new : PlainTerm) (ts : PlainTerms) → are_sides xs ts ≡ true → some_capture x new ts ≡ false
  sides-capture xs x new no_term h = refl
  sides-capture xs x new (term t ts) h =
      let r = and_parts (is_side xs t) (are_sides xs ts) h in
      neither (captures x new t) (some_capture x new ts) (side-captures xs x new t r.0) (sides-capture xs x new ts r.1)
    where
      neither : (b c : Bool) → b ≡ false → c ≡ false → (b || c) ≡ false
      neither b c p q = rw (p, q) refl

mutual
  side-among : (xs : List (List ℕ)) (z : List ℕ) (t : PlainTerm) → is_side xs t ≡ true → mentions z t ≡ true → is_among z xs ≡ true
  side-among xs z (var x) h m = ap (λ y. is_among y xs) (same_name-true z x m) ∙ h
  side-among xs z (number n) h m = cc
  side-among xs z (truth b) h m = cc
  side-among xs z (tag n) h m = cc
  side-among xs z (app g ts) h m = sides-among xs z ts h m
  side-among xs z (bind b x s t) h m = cc

  sides-among : (xs : List (List ℕ)) (z : List ℕ) (ts : PlainTerms) → are_sides xs ts ≡ true → some_mentions z ts ≡ true → is_among z xs ≡ true
  sides-among xs z no_term h m = cc
  sides-among xs z (term t ts) h m =
      let r = and_parts (is_side xs t) (are_sides xs ts) h in
      either (mentions z t) (some_mentions z ts) m (side-among xs z t r.0) (sides-among xs z ts r.1)
    where
      either : (b c : Bool) → (b || c) ≡ true → (b ≡ true → is_among z xs ≡ true) → (c ≡ true → is_among z xs ≡ true) → is_among z xs ≡ true
      either true c e f g = f refl
      either false c e f g = g e

same_kind-true : (j k : Kind) → same_kind j k ≡ true → j ≡ k
same_kind-true anys anys h = refl
same_kind-true bools bools h = refl
same_kind-true ints ints h = refl
same_kind-true sets sets h = refl
same_kind-true seqs seqs h = refl
same_kind-true maps maps h = refl
same_kind-true j k h = cc

at_each : (k : Kind) (v : PlainValue) (P : PlainValue → Type 0) → Has k v → EachOf k P → P v
at_each anys v P h f = f v
at_each bools (bool b) P h f = f b
at_each ints (int n) P h f = f n
at_each sets (set vs) P h f = f vs h
at_each seqs (seq vs) P h f = f vs
at_each maps (map_of m) P h f = f m h
at_each k v P h f = absurd h

either_of : {A : Type 0} (b c : Bool) → (b || c) ≡ true → (b ≡ true → A) → (c ≡ true → A) → A
either_of true c e f g = f refl
either_of false c e f g = g e

-- the name itself at a place where a kind is taken
here : (calls : Calls) (env : Env) (σ : Subst) (x : List ℕ) (k j : Kind) (t : PlainTerm) → (is_name x t && same_kind j k) ≡ true → Has j (eval calls env (substituted σ t)) → Has k (eval calls env (term_for x σ))
here calls env σ x k j (var y) h w =
    let r = and_parts (same_name y x) (same_kind j k) h in
    let e = same_name-true y x r.0 in let f = same_kind-true j k r.1 in
    subst (λ z. Has z (eval calls env (term_for x σ))) f (subst (λ z. Has j (eval calls env (term_for z σ))) e w)
here calls env σ x k j (number n) h w = cc
here calls env σ x k j (truth b) h w = cc
here calls env σ x k j (tag n) h w = cc
here calls env σ x k j (app g ts) h w = cc
here calls env σ x k j (bind b y s t) h w = cc

-- the variables with their terms' values
abbrev term_values : Calls → Env → Subst → List (List ℕ × Kind) → Env
term_values calls env σ [] = env
term_values calls env σ (x ∷ xs) = (x.0, eval calls env (term_for x.0 σ)) ∷ term_values calls env σ xs

abbrev AllHave : Calls → Env → Subst → List (List ℕ × Kind) → Type 0
AllHave calls env σ [] = Unit {0}
AllHave calls env σ (x ∷ xs) = Has x.1 (eval calls env (term_for x.0 σ)) × AllHave calls env σ xs

at_all : (calls : Calls) (env : Env) (σ : Subst) (xs : List (List ℕ × Kind)) (P : Env → Type 0) → AllHave calls env σ xs → ForAll env xs P → P (term_values calls env σ xs)
at_all calls env σ [] P h f = f
at_all calls env σ (x ∷ xs) P h f =
    at_all calls env σ xs (λ e. P ((x.0, eval calls env (term_for x.0 σ)) ∷ e)) h.1
    (at_each x.1 (eval calls env (term_for x.0 σ)) (λ v. ForAll env xs (λ e. P ((x.0, v) ∷ e))) h.0 f)

value_at-term : (calls : Calls) (env : Env) (σ : Subst) (z : List ℕ) (xs : List (List ℕ × Kind)) → is_among z (map (λ x. x.0) xs) ≡ true → value_at z (term_values calls env σ xs) ≡ eval calls env (term_for z σ)
value_at-term calls env σ z [] h = cc
value_at-term calls env σ z (x ∷ xs) h = by (same_name z x.0) refl h (value_at-term calls env σ z xs)
  where
    by : (b : Bool) → same_name z x.0 ≡ b → (b || is_among z (map (λ x. x.0) xs)) ≡ true → (is_among z (map (λ x. x.0) xs) ≡ true → value_at z (term_values calls env σ xs) ≡ eval calls env (term_for z σ))
        → cond b (eval calls env (term_for x.0 σ)) (value_at z (term_values calls env σ xs)) ≡ eval calls env (term_for z σ)
    by true e h ih = ap (λ y. eval calls env (term_for y σ)) (sym (same_name-true z x.0 e))
    by false e h ih = ih h

-- a side of a law, with the terms put in, has its value at the terms' values
side-value : (calls : Calls) (env : Env) (σ : Subst) (xs : List (List ℕ × Kind)) (t : PlainTerm) → is_side (map (λ x. x.0) xs) t ≡ true
    → eval calls env (substituted σ t) ≡ eval calls (term_values calls env σ xs) t
side-value calls env σ xs t h =
    eval-put calls t σ env (term_values calls env σ xs) (λ x. side-captures (map (λ x. x.0) xs) x (term_for x σ) t h)
    (λ z m. sym (value_at-term calls env σ z xs (side-among (map (λ x. x.0) xs) z t h m)))

given_all : (calls : Calls) (env : Env) (σ : Subst) (xs : List (List ℕ × Kind)) (cs : List PlainTerm) (P : Type 0) → list_all (is_side (map (λ x. x.0) xs)) cs ≡ true
    → AllTrue calls env (map (substituted σ) cs) → Given calls (term_values calls env σ xs) cs P → P
given_all calls env σ xs [] P c h f = f
given_all calls env σ xs (t ∷ cs) P c h f =
    let r = and_parts (is_side (map (λ x. x.0) xs) t) (list_all (is_side (map (λ x. x.0) xs)) cs) c in
    given_all calls env σ xs cs P r.1 h.1 (f (ap truth_of (sym (side-value calls env σ xs t r.0)) ∙ h.0))

module _ (defs : List PlainDef) (names : Names) (env : Env) (sound : AreSound defs) (allowed : AreAllowed names) (fits : Fits names env) (σ : Subst) where
  -- a name that stands where a kind is taken has a value of the kind
  mutual
    stands_has : (x : List ℕ) (k : Kind) (t : PlainTerm) (s : PlainSort) → stands x k t ≡ true → least_sort (latest_first defs) names (substituted σ t) ≡ Ok s → Has k (eval (calls_of defs) env (term_for x σ))
    stands_has x k (app (op o) ts) s h e =
        let r = bind_ok (least_sorts (latest_first defs) names (all_substituted σ ts)) (head_sort (latest_first defs) (op o) (written (all_substituted σ ts))) s e in
        let w = all_evaluate (latest_first defs) (calls_of defs) (checks_of defs) (calls_fit defs sound) (all_substituted σ ts) names env r.0 r.1 allowed fits in
        stand_has x k (takes o) ts r.0 h r.1 (op_met o (written (all_substituted σ ts)) r.0 (evals (calls_of defs) env (all_substituted σ ts)) s r.2 w.of_sorts)
    stands_has x k t s h e = cc

    stand_has : (x : List ℕ) (k : Kind) (js : List Kind) (ts : PlainTerms) (ss : List PlainSort) → stands_among x k js ts ≡ true → least_sorts (latest_first defs) names (all_substituted σ ts) ≡ Ok ss
        → Have js (evals (calls_of defs) env (all_substituted σ ts)) → Has k (eval (calls_of defs) env (term_for x σ))
    stand_has x k js no_term ss h e w = cc
    stand_has x k [] (term t ts) ss h e w =
        let r = bind_ok (least_sort (latest_first defs) names (substituted σ t)) (λ s. least_sorts (latest_first defs) names (all_substituted σ ts) >>= λ us. Ok (s ∷ us)) ss e in
        let q = bind_ok (least_sorts (latest_first defs) names (all_substituted σ ts)) (λ us. Ok (r.0 ∷ us)) ss r.2 in
        either_of (stands x k t) (stands_among x k [] ts) h (λ g. stands_has x k t r.0 g r.1) (λ g. stand_has x k [] ts q.0 g q.1 tt)
    stand_has x k (j ∷ js) (term t ts) ss h e w =
        let r = bind_ok (least_sort (latest_first defs) names (substituted σ t)) (λ s. least_sorts (latest_first defs) names (all_substituted σ ts) >>= λ us. Ok (s ∷ us)) ss e in
        let q = bind_ok (least_sorts (latest_first defs) names (all_substituted σ ts)) (λ us. Ok (r.0 ∷ us)) ss r.2 in
        either_of (is_name x t && same_kind j k || stands x k t) (stands_among x k js ts) h
        (λ g. either_of (is_name x t && same_kind j k) (stands x k t) g (λ f. here (calls_of defs) env σ x k j t f w.0) (λ f. stands_has x k t r.0 f r.1))
        (λ g. stand_has x k js ts q.0 g q.1 w.1)

  told_have : (l : Law) (xs : List (List ℕ × Kind)) (s s' : PlainSort) → list_all (is_told l) xs ≡ true
      → least_sort (latest_first defs) names (substituted σ l.left) ≡ Ok s → least_sort (latest_first defs) names (substituted σ l.right) ≡ Ok s' → AllHave (calls_of defs) env σ xs
  told_have l [] s s' h e f = tt
  told_have l (x ∷ xs) s s' h e f =
      let r = and_parts (is_told l x) (list_all (is_told l) xs) h in (
        either_of (same_kind x.1 anys || stands x.0 x.1 l.left) (stands x.0 x.1 l.right) r.0
            (λ g. either_of (same_kind x.1 anys) (stands x.0 x.1 l.left) g
            (λ a. subst (λ k. Has k (eval (calls_of defs) env (term_for x.0 σ))) (sym (same_kind-true x.1 anys a)) tt)
            (λ a. stands_has x.0 x.1 l.left s a e))
            (λ g. stands_has x.0 x.1 l.right s' g f),
        told_have l xs s s' r.1 e f,
      )

  -- where both sides of an instance have a sort and its conditions are true, the sides have one value
  pub instance_true : (l : Law) (s s' : PlainSort) → is_lawful l ≡ true → IsTrue (calls_of defs) env l
      → least_sort (latest_first defs) names (substituted σ l.left) ≡ Ok s → least_sort (latest_first defs) names (substituted σ l.right) ≡ Ok s'
      → AllTrue (calls_of defs) env (map (substituted σ) l.conditions)
      → eval (calls_of defs) env (substituted σ l.left) ≡ eval (calls_of defs) env (substituted σ l.right)
  instance_true l s s' lawful true_ e f h =
      let p = and_parts _ (list_all (is_told l) (kinded l)) lawful in
      let q = and_parts _ (list_all (is_side (names_of l)) l.conditions) p.0 in
      let r = and_parts (is_side (names_of l) l.left) (is_side (names_of l) l.right) q.0 in
      let at = at_all (calls_of defs) env σ (kinded l) (λ v. Given (calls_of defs) v l.conditions (eval (calls_of defs) v l.left ≡ eval (calls_of defs) v l.right)) (told_have l (kinded l) s s' p.1 e f) true_ in
      side-value (calls_of defs) env σ (kinded l) l.left r.0
      ∙ given_all (calls_of defs) env σ (kinded l) l.conditions _ q.1 h at
      ∙ sym (side-value (calls_of defs) env σ (kinded l) l.right r.1)
