-- A law that is proved is true at all good inputs, for all values of its variables.
use Rattle.std.proofs.Common.{◌≡◌, ℕ, Bool, true, false, List, [], ◌∷◌, ◌++◌, Result, Ok, Err, map, refl, sym, ap, ◌∙◌, subst, cond}
use Rattle.std.specs.Prelude.{◌||◌, not}
use Rattle.std.proofs.lemmas.List.{map-append}
use Rattle.kid_value.specs.NameSet.{is_among}
use Rattle.kid_value.specs.PlainSort.{PlainSort, bools}
use Rattle.kid_value.specs.PlainValue.{PlainValue}
use Rattle.kid_value.specs.Rows.Parts.{truth_of}
use Rattle.kid_value.proofs.SortLemmas.{and_parts}
use Rattle.kid_value.proofs.ValueSetLaws.{value_eq-true}
use Rattle.kid_term.specs.Eval.{Env, Calls, eval, bound, value_at, calls_of}
use Rattle.kid_term.specs.Fitting.{IsOfSort, AreOfSorts, Fits, AreAllowed}
use Rattle.kid_term.specs.Good.{IsConcluded, LawHolds, Good}
use Rattle.kid_term.specs.Names.{same_name, Names, is_named}
use Rattle.kid_term.specs.PlainLaw.{PlainConclusion, equal, holds, PlainLaw}
use Rattle.kid_term.specs.PlainTerm.{PlainTerm}
use Rattle.kid_term.specs.PlainTheory.{PlainTheory}
use Rattle.kid_term.specs.Sorted.{Sorted}
use Rattle.kid_term.specs.Sorting.{sort_at}
use Rattle.kid_term.specs.Truths.{IsTrueAt, AllTrue}
use Rattle.kid_term.specs.declared.why.Why.{Why}
use Rattle.kid_term.proofs.EvalLemmas.{or_none, same_name-true, eval-agree}
use Rattle.kid_moves.specs.PlainRule.{PlainMove}
use Rattle.kid_scope.specs.Cases.{IsCase}
use Rattle.kid_scope.proofs.ClosedSorts.{sorted-closed}
use Rattle.kid_scope.proofs.HoldLemmas.{holds_true}
use Rattle.kid_scope.proofs.RewriteLemmas.{staged, unless_ok}
use Rattle.kid_kernel.specs.Differ.{words_of, differ}
use Rattle.kid_kernel.specs.Held.{AreNames, LawsHold, Held}
use Rattle.kid_kernel.specs.IsTheory.{IsTheory}
use Rattle.kid_kernel.specs.Key.{key}
use Rattle.kid_kernel.specs.Moves.{first_untrue, moved, stepped, begun}
use Rattle.kid_kernel.specs.PlainFacts.{PlainFacts}
use Rattle.kid_kernel.proofs.Differing.{among_parts}
use Rattle.kid_kernel.proofs.StartLemmas.{truths_sorted}
use Rattle.kid_kernel.proofs.StepLemmas.{moved_held}
use Rattle.kid_theory.specs.Proof.{proof_names, proof_start, goal_of, all_stepped, proof_facts, reaches, is_proved}

-- ---- the facts of a proof follow from its start

-- these facts, over these names
record IsOver (t : PlainTheory) (names : Names) (start : List PlainTerm) (f : PlainFacts) : Type 0 where
  held : Held t names start f.facts
  named : f.names ≡ names

abbrev ok_fact : PlainTerm → Result PlainTerm Why
ok_fact fact = Ok fact

step_over : (t : PlainTheory) (names : Names) (start : List PlainTerm) (m : PlainMove) (f g : PlainFacts) → IsOver t names start f → stepped t f m ≡ Ok g → IsOver t names start g
step_over t names start m f g over p =
    let r = staged (moved t f.names f.facts m) (λ fact. Ok (record f { facts = f.facts ++ fact ∷ [] })) g p in
    let fact : PlainTerm = r.0 in
    let made : moved t names f.facts m ≡ Ok fact = subst (λ ns. moved t ns f.facts m ≡ ok_fact fact) over.named r.1 in
    let is : record f { facts = f.facts ++ fact ∷ [] } ≡ g = cc in
    subst (IsOver t names start) is (record { held = moved_held t names start f.facts m fact over.held made; named = over.named })

steps_over : (t : PlainTheory) (names : Names) (start : List PlainTerm) (moves : List PlainMove) (f g : PlainFacts) → IsOver t names start f → all_stepped t moves f ≡ Ok g → IsOver t names start g
steps_over t names start [] f g over p = let is : f ≡ g = cc in subst (IsOver t names start) is over
steps_over t names start (m ∷ moves) f g over p =
    let r = staged (stepped t f m) (λ h. all_stepped t moves h) g p in
    steps_over t names start moves r.0 g (step_over t names start m f r.0 over r.1) r.2

abbrev begin_with : PlainTheory → Names → List PlainTerm → PlainFacts
begin_with t names start = record { theory = key t; names = names; start = start; facts = start }

begin_over : (t : PlainTheory) (names : Names) (start : List PlainTerm) (f : PlainFacts) → IsTheory t → AreNames t names → begun (key t) t.signature.definitions names start ≡ Ok f → IsOver t names start f
begin_over t names start f is named p =
    let r = unless_ok (first_untrue t.signature.definitions names start) (begin_with t names start) f p in
    subst (IsOver t names start) r.1 (record {
      held = record { theory = is; named = named; sorted = truths_sorted t.signature.definitions names start r.0; follow = λ laws env case s. s };
      named = refl;
    })

proof_over : (t : PlainTheory) (l : PlainLaw) (moves : List PlainMove) (f : PlainFacts) → IsTheory t → AreNames t (proof_names t l) → proof_facts t l moves ≡ Ok f → IsOver t (proof_names t l) (proof_start t l) f
proof_over t l moves f is named p =
    let r = staged (begun (key t) t.signature.definitions (proof_names t l) (proof_start t l)) (λ g. all_stepped t moves g) f p in
    steps_over t (proof_names t l) (proof_start t l) moves r.0 f (begin_over t (proof_names t l) (proof_start t l) r.0 is named r.1) r.2

-- ---- values of the variables in front of inputs

pub named_words : (x : List ℕ) (ns : Names) → is_named x ns ≡ is_among x (words_of ns)
named_words x [] = refl
named_words x (n ∷ ns) = ap (λ b. same_name x n.0 || b) (named_words x ns)

not_true : (b : Bool) → not b ≡ true → b ≡ false
not_true true p = cc
not_true false p = refl

-- of names that differ, one of the first is none of the second
pub differ_apart : (xs ys : List (List ℕ)) (y : List ℕ) → differ (xs ++ ys) ≡ true → is_among y xs ≡ true → is_among y ys ≡ false
differ_apart [] ys y d m = cc
differ_apart (x ∷ xs) ys y d m =
    let r = and_parts (not (is_among x (xs ++ ys))) (differ (xs ++ ys)) d in
    by (same_name y x) refl m (among_parts x xs ys (not_true (is_among x (xs ++ ys)) r.0)).1 (differ_apart xs ys y r.1)
  where
    by : (c : Bool) → same_name y x ≡ c → (c || is_among y xs) ≡ true → is_among x ys ≡ false → (is_among y xs ≡ true → is_among y ys ≡ false) → is_among y ys ≡ false
    by true e q new rest = subst (λ z. is_among z ys ≡ false) (sym (same_name-true y x e)) new
    by false e q new rest = rest q

unbound_value : (ns : Names) (vs : List PlainValue) (x : Env) (y : List ℕ) → is_named y ns ≡ false → value_at y (bound ns vs ++ x) ≡ value_at y x
unbound_value [] vs x y p = refl
unbound_value (n ∷ ns) [] x y p = refl
unbound_value (n ∷ ns) (v ∷ vs) x y p =
    let r = or_none (same_name y n.0) (is_named y ns) p in
    ap (λ c. cond c v (value_at y (bound ns vs ++ x))) r.0 ∙ unbound_value ns vs x y r.1

abbrev ok_sort : PlainSort → Sorted
ok_sort s = Ok s

bound_fits : (ns : Names) (vs : List PlainValue) (x : Env) (y : List ℕ) (s : PlainSort) → AreOfSorts (map (λ n. n.1) ns) vs → sort_at y ns ≡ Ok s → IsOfSort s (value_at y (bound ns vs ++ x))
bound_fits [] vs x y s of p = cc
bound_fits (n ∷ ns) [] x y s of p = absurd of
bound_fits (n ∷ ns) (v ∷ vs) x y s of p = by (same_name y n.0) p (bound_fits ns vs x y s of.1)
  where
    by : (c : Bool) → cond c (ok_sort n.1) (sort_at y ns) ≡ Ok s → (sort_at y ns ≡ Ok s → IsOfSort s (value_at y (bound ns vs ++ x))) → IsOfSort s (cond c v (value_at y (bound ns vs ++ x)))
    by true q rest = let e : n.1 ≡ s = cc in subst (λ r. IsOfSort r v) e of.0
    by false q rest = rest q

pub sort_first : (ns ms : Names) (y : List ℕ) → is_named y ns ≡ true → sort_at y (ns ++ ms) ≡ sort_at y ns
sort_first [] ms y p = cc
sort_first (n ∷ ns) ms y p = by (same_name y n.0) p (sort_first ns ms y)
  where
    by : (c : Bool) → (c || is_named y ns) ≡ true → (is_named y ns ≡ true → sort_at y (ns ++ ms) ≡ sort_at y ns) → cond c (ok_sort n.1) (sort_at y (ns ++ ms)) ≡ cond c (ok_sort n.1) (sort_at y ns)
    by true q rest = refl
    by false q rest = rest q

pub sort_later : (ns ms : Names) (y : List ℕ) → is_named y ns ≡ false → sort_at y (ns ++ ms) ≡ sort_at y ms
sort_later [] ms y p = refl
sort_later (n ∷ ns) ms y p =
    let r = or_none (same_name y n.0) (is_named y ns) p in
    ap (λ c. cond c (ok_sort n.1) (sort_at y (ns ++ ms))) r.0 ∙ sort_later ns ms y r.1

module _ (t : PlainTheory) (l : PlainLaw) (is : IsTheory t) (named : AreNames t (proof_names t l)) (x : Env) (good : Good t x) (vs : List PlainValue) (of : AreOfSorts (map (λ n. n.1) l.variables) vs) where
  abbrev calls : Calls
  calls = calls_of t.signature.definitions

  abbrev inputs : Names
  inputs = t.signature.inputs

  abbrev env : Env
  env = bound l.variables vs ++ x

  -- an input keeps its value
  input_value : (y : List ℕ) → is_named y inputs ≡ true → value_at y env ≡ value_at y x
  input_value y p =
      let d : differ (words_of inputs ++ words_of l.variables) ≡ true = ap differ (sym (map-append (λ n. n.0) inputs l.variables)) ∙ named.differ in
      let m : is_among y (words_of inputs) ≡ true = sym (named_words y inputs) ∙ p in
      unbound_value l.variables vs x y (named_words y l.variables ∙ differ_apart (words_of inputs) (words_of l.variables) y d m)

  env_fits : Fits (proof_names t l) env
  env_fits y s p = by (is_named y inputs) refl
    where
      by : (c : Bool) → is_named y inputs ≡ c → IsOfSort s (value_at y env)
      by true e = subst (IsOfSort s) (sym (input_value y e)) (good.fits y s (sym (sort_first inputs l.variables y e) ∙ p))
      by false e = bound_fits l.variables vs x y s of (sym (sort_later inputs l.variables y e) ∙ p)

  -- the inputs with values of the variables are a case
  env_case : IsCase t (proof_names t l) env
  env_case = record { inputs = x; good = good; agrees = input_value; fits = env_fits }

  condition_true : IsTrueAt calls env t.spec.condition
  condition_true =
      let closed = sorted-closed t.signature.definitions t.spec.inputs t.spec.condition bools is.condition in
      ap truth_of (eval-agree calls t.spec.condition env x (λ y m. input_value y (ap (is_named y) is.same_inputs ∙ closed y m))) ∙ good.condition

-- ---- the goal

abbrev ok_facts : PlainFacts → Result PlainFacts Why
ok_facts f = Ok f

-- what a goal says of two terms or one
goal_concluded : (known : Calls) (values : Env) (c : PlainConclusion) → IsTrueAt known values (goal_of c) → IsConcluded known values c
goal_concluded known values (equal l r) h = value_eq-true (eval known values l) (eval known values r) h
goal_concluded known values (holds c) h = h

reached_true : (t : PlainTheory) (names : Names) (start : List PlainTerm) (goal : PlainTerm) (r : Result PlainFacts Why) → ((f : PlainFacts) → r ≡ ok_facts f → IsOver t names start f) → LawsHold t
    → reaches t goal r ≡ true → (values : Env) → IsCase t names values → AllTrue (calls_of t.signature.definitions) values start → IsTrueAt (calls_of t.signature.definitions) values goal
reached_true t names start goal (Err why) over laws p values case s = cc
reached_true t names start goal (Ok f) over laws p values case s =
    let o = over f refl in
    let held = o.held in
    holds_true t.signature.definitions (record { names = f.names; facts = f.facts; assumed = [] }) goal values held.theory.sound
    (subst (λ ns. AreAllowed ns) (sym o.named) held.named.allowed) (subst (λ ns. Fits ns values) (sym o.named) case.fits) (held.follow laws values case s) tt p

pub proved_holds : (t : PlainTheory) (l : PlainLaw) (moves : List PlainMove) → IsTheory t → AreNames t (proof_names t l) → LawsHold t → is_proved t l moves ≡ true
    → (x : Env) → Good t x → LawHolds (calls_of t.signature.definitions) x l
unfolding is_proved
proved_holds t l moves is named laws p x good vs of given =
    goal_concluded (calls_of t.signature.definitions) (bound l.variables vs ++ x) l.conclusion
    (reached_true t (proof_names t l) (proof_start t l) (goal_of l.conclusion) (proof_facts t l moves) (λ f e. proof_over t l moves f is named e) laws p (bound l.variables vs ++ x)
    (env_case t l is named x good vs of) (condition_true t l is named x good vs of, given))
