-- What a move adds follows from the start, and has a sort.
use Rattle.std.proofs.Common.{◌≡◌, ℕ, zero, suc, ◌+◌, ◌≤◌, true, false, List, [], ◌∷◌, ◌++◌, Option, Some, None, Result, Ok, Err, length, length-append, get_or, map, drop, refl, sym, ap, ◌∙◌, subst, cond, arith}
use Rattle.std.specs.Prelude.{◌<◌, ◌^◌, nat_le, take, OnOk}
use Rattle.std.proofs.lemmas.Bool.Decides.{nat_tests}
use Rattle.std.proofs.lemmas.List.{drop_more}
use Rattle.kid_value.specs.PlainSort.{PlainSort, never, bools, ints, pairs, sets, seqs, maps, enums}
use Rattle.kid_value.specs.PlainValue as value
use Rattle.kid_value.specs.PlainValue.{PlainValue, int, bool, pair, set, seq, map_of}
use Rattle.kid_value.specs.Rows.Parts.{truth_of}
use Rattle.kid_value.specs.Rows.Logic as row
use Rattle.kid_term.specs.PlainTerm.{PlainTerm, op, app, no_term, term, node_count, depth}
use Rattle.kid_term.specs.PlainTheory.{PlainTheory}
use Rattle.kid_term.specs.Names.{Names, PlainDef, latest_first}
use Rattle.kid_term.specs.Sorted.{Fault, Size, TermDeep, Sorted}
use Rattle.kid_term.specs.Sorting.{sort_of, least_sort}
use Rattle.kid_term.specs.LogicSorts.{two_bools}
use Rattle.kid_term.specs.Chain.{◌>>=◌}
use Rattle.kid_term.specs.Eval.{Env, Calls, eval, calls_of}
use Rattle.kid_term.specs.Truths.{IsTrueAt, AllTrue}
use Rattle.kid_term.specs.declared.operator.Op.TheVariants.{Logic}
use Rattle.kid_term.specs.declared.operator.LogicOp.TheVariants.{And}
use Rattle.kid_term.specs.declared.why.Why.{Why}
use Rattle.kid_term.specs.declared.why.Why.TheVariants.{Memory}
use Rattle.kid_term.proofs.Inversions.{ok}
use Rattle.kid_term.proofs.SortedValue.{sort_of_ok}
use Rattle.kid_scope.specs.Cases.{IsCase}
use Rattle.kid_scope.specs.Holds.{has_a_sort}
use Rattle.kid_scope.specs.InstanceView.{Fails}
use Rattle.kid_scope.specs.Scope.{PlainScope}
use Rattle.kid_scope.specs.Using.{nth}
use Rattle.kid_scope.proofs.ClosedSorts.{sort_there}
use Rattle.kid_scope.proofs.Places.{sized}
use Rattle.kid_scope.proofs.RewriteLemmas.{staged, unless_ok}
use Rattle.kid_scope.proofs.Truths.{AllTrue-append, both_true}
use Rattle.kid_kernel.specs.FactAnswers.{PushedOn, Stepped}
use Rattle.kid_kernel.specs.Held.{AllSorted, LawsHold, Held, HeldOver}
use Rattle.kid_kernel.specs.Key.{key}
use Rattle.kid_kernel.specs.Comparing.{conjuncts}
use Rattle.kid_kernel.specs.Moves.{both, untrue, truth_term, found, given, parted, given_parts, moved, stepped}
use Rattle.kid_kernel.specs.Placed.{top_scope}
use Rattle.kid_kernel.specs.PlainFacts.{PlainFacts}
use Rattle.kid_moves.specs.PlainRule.{PlainRule, PlainLine, PlainMove, left_of, right_of, both_of, again, concluded_by, after_lines}
use Rattle.kid_moves.specs.RuleView.{plain_line}
use Rattle.kid_moves.specs.declared.rule.Line.{Line}
use Rattle.kid_kernel.specs.Rules.{rewritten_by, lines_rewritten, concluded}
use Rattle.kid_kernel.proofs.ConclusionLemmas.{rewritten_by-kept, rewritten_by-sorted, concluded-true, concluded-sorted}
use Rattle.kid_kernel.proofs.FactLemmas.{there_sort, scope_stands, case_meets}
use Rattle.kid_kernel.proofs.KeyLemmas.{over_its_key}
use Rattle.kid_kernel.proofs.SoundTheory.{sound_theory}
use Rattle.kid_kernel.proofs.StartLemmas.{truth_there}

abbrev went : PlainTerm → Result PlainTerm Why
went t = Ok t

-- ---- facts by their numbers

true_at : (calls : Calls) (env : Env) (ts : List PlainTerm) (k : ℕ) (t : PlainTerm) → nth ts k ≡ Some t → AllTrue calls env ts → IsTrueAt calls env t
true_at calls env [] k t e a = cc
true_at calls env (u ∷ ts) zero t e a = let q : u ≡ t = cc in subst (λ z. IsTrueAt calls env z) q a.0
true_at calls env (u ∷ ts) (suc k) t e a = true_at calls env ts k t e a.1

sorted_at : (defs : List PlainDef) (names : Names) (ts : List PlainTerm) (k : ℕ) (t : PlainTerm) → nth ts k ≡ Some t → AllSorted defs names ts → has_a_sort (sort_of defs names t) ≡ true
sorted_at defs names [] k t e a = cc
sorted_at defs names (u ∷ ts) zero t e a = let q : u ≡ t = cc in subst (λ z. has_a_sort (sort_of defs names z) ≡ true) q a.0
sorted_at defs names (u ∷ ts) (suc k) t e a = sorted_at defs names ts k t e a.1

given_ok : (ts : List PlainTerm) (k : ℕ) (t : PlainTerm) → given ts k ≡ Ok t → (i : ℕ) × (nth ts i ≡ Some t)
given_ok ts zero t e = cc
given_ok ts (suc k) t e = by (nth ts k) refl e
  where
    by : (o : Option PlainTerm) → nth ts k ≡ o → found o ≡ went t → (i : ℕ) × (nth ts i ≡ Some t)
    by None q p = cc
    by (Some u) q p = let s : u ≡ t = cc in (k, q ∙ ap (λ z. Some z) s)

pub given_sorted : (defs : List PlainDef) (names : Names) (facts : List PlainTerm) (k : ℕ) (t : PlainTerm) → given facts k ≡ Ok t → AllSorted defs names facts → has_a_sort (sort_of defs names t) ≡ true
given_sorted defs names facts k t e a = let r = given_ok facts k t e in sorted_at defs names facts r.0 t r.1 a

-- ---- conjunctions

and_true : (v w : PlainValue) → truth_of (row.and v w) ≡ true → (truth_of v ≡ true) × (truth_of w ≡ true)
and_true (bool true) (bool true) p = (refl, refl)
and_true (bool true) (bool false) p = cc
and_true (bool false) (bool q) p = cc
and_true (bool b) (int n) p = cc
and_true (bool b) (pair x y) p = cc
and_true (bool b) (set vs) p = cc
and_true (bool b) (seq vs) p = cc
and_true (bool b) (map_of m) p = cc
and_true (bool b) (value.tag n) p = cc
and_true (int n) w p = cc
and_true (pair x y) w p = cc
and_true (set vs) w p = cc
and_true (seq vs) w p = cc
and_true (map_of m) w p = cc
and_true (value.tag n) w p = cc

abbrev no_sorts : Result (List PlainSort) Fault
no_sorts = Ok []

-- the least sort of a conjunction, by those of its parts
abbrev and_sort : Sorted → Sorted → Sorted
and_sort r q = (r >>= λ s. (q >>= λ t. no_sorts >>= λ ss. Ok (t ∷ ss)) >>= λ ss. Ok (s ∷ ss)) >>= two_bools

and_ok : (r q : Sorted) (s : PlainSort) → and_sort r q ≡ ok s → (r ≡ Ok bools) × (q ≡ Ok bools)
and_ok (Ok bools) (Ok bools) s p = (refl, refl)
and_ok (Ok bools) (Ok never) s p = cc
and_ok (Ok bools) (Ok (ints a b)) s p = cc
and_ok (Ok bools) (Ok (pairs a b)) s p = cc
and_ok (Ok bools) (Ok (sets a)) s p = cc
and_ok (Ok bools) (Ok (seqs a n)) s p = cc
and_ok (Ok bools) (Ok (maps a b)) s p = cc
and_ok (Ok bools) (Ok (enums ns)) s p = cc
and_ok (Ok never) (Ok t) s p = cc
and_ok (Ok (ints a b)) (Ok t) s p = cc
and_ok (Ok (pairs a b)) (Ok t) s p = cc
and_ok (Ok (sets a)) (Ok t) s p = cc
and_ok (Ok (seqs a n)) (Ok t) s p = cc
and_ok (Ok (maps a b)) (Ok t) s p = cc
and_ok (Ok (enums ns)) (Ok t) s p = cc
and_ok (Ok a) (Err f) s p = cc
and_ok (Err f) q s p = cc

-- the parts of a conjunction with a sort have sorts
record PartsSorted (defs : List PlainDef) (names : Names) (a b : PlainTerm) : Type 0 where
  first : has_a_sort (sort_of defs names a) ≡ true
  second : has_a_sort (sort_of defs names b) ≡ true

parts_sorted : (defs : List PlainDef) (names : Names) (a b : PlainTerm) → has_a_sort (sort_of defs names (both a b)) ≡ true → PartsSorted defs names a b
parts_sorted defs names a b h =
    let p = sort_there (sort_of defs names (both a b)) h in
    let r = sort_of_ok defs names (both a b) p.0 p.1 in
    let q = and_ok (least_sort (latest_first defs) names a) (least_sort (latest_first defs) names b) p.0 r.2 in
    record {
      first = there_sort (sort_of defs names a) bools (sized defs names a bools (grind (arith, nat_tests, r.0)) (grind (arith, nat_tests, r.1)) q.0);
      second = there_sort (sort_of defs names b) bools (sized defs names b bools (grind (arith, nat_tests, r.0)) (grind (arith, nat_tests, r.1)) q.1);
    }

abbrev first_or : PlainTerm → Option (PlainTerm × PlainTerm) → PlainTerm
first_or t None = t
first_or t (Some p) = p.0

abbrev second_or : PlainTerm → Option (PlainTerm × PlainTerm) → PlainTerm
second_or t None = t
second_or t (Some p) = p.1

conjuncts_ok : (t a b : PlainTerm) → conjuncts t ≡ Some (a, b) → t ≡ both a b
conjuncts_ok (app (op (Logic And)) (term x (term y no_term))) a b p = let e : x ≡ a = ap (first_or x) p in let f : y ≡ b = ap (second_or y) p in λ i. both (e i) (f i)
conjuncts_ok t a b p = cc

abbrev parts_went : PlainTerm → PlainTerm → Result (PlainTerm × PlainTerm) Why
parts_went a b = Ok (a, b)

parts_ok : (facts : List PlainTerm) (k : ℕ) (a b : PlainTerm) → given_parts facts k ≡ Ok (a, b) → given facts k ≡ Ok (both a b)
parts_ok facts k a b p =
    let r = staged (given facts k) (λ t. parted (conjuncts t)) (a, b) p in
    r.1 ∙ ap went (conjuncts_ok r.0 a b (by (conjuncts r.0) r.2))
  where
    by : (o : Option (PlainTerm × PlainTerm)) → parted o ≡ parts_went a b → o ≡ Some (a, b)
    by None q = cc
    by (Some c) q = cc

-- ---- lines

-- what the first of the lines that are left makes of a term has a sort, and the others make of it what all lines make of the first term
pub after_line : (t : PlainTheory) (sc : PlainScope) (lines : List Line) (i : ℕ) (line : Line) (whole : Result PlainTerm Why) (old new : PlainTerm) → i < length lines → line ≡ get_or lines i line
    → whole ≡ lines_rewritten t sc (map plain_line (drop i lines)) old → rewritten_by t sc (plain_line line) old ≡ Ok new
    → (has_a_sort (sort_of t.signature.definitions sc.names new) ≡ true) × (whole ≡ lines_rewritten t sc (map plain_line (drop (i + 1) lines)) new)
after_line t sc lines i line whole old new within is told p =
    let s = rewritten_by-sorted t sc (plain_line line) old new p in
    let front : drop i lines ≡ line ∷ drop (i + 1) lines = drop_more lines i line within ∙ ap (λ (l : Line). l ∷ drop (i + 1) lines) (sym is) in (
      there_sort (sort_of t.signature.definitions sc.names new) s.0 s.1,
      told ∙ ap (λ (ls : List Line). lines_rewritten t sc (map plain_line ls) old) front ∙ ap (λ r. r >>= λ z. lines_rewritten t sc (map plain_line (drop (i + 1) lines)) z) p,
    )

-- ---- the fact of a move

module _ (t : PlainTheory) (names : Names) (start facts : List PlainTerm) (h : Held t names start facts) where
  abbrev calls : Calls
  calls = calls_of t.signature.definitions

  abbrev here : PlainTerm → Sorted
  here fact = sort_of t.signature.definitions names fact

  -- a fact that may be added
  record Added (fact : PlainTerm) : Type 0 where
    follows : LawsHold t → (env : Env) → IsCase t names env → AllTrue calls env start → IsTrueAt calls env fact
    sorted : has_a_sort (here fact) ≡ true

  given_added : (k : ℕ) (fact : PlainTerm) → given facts k ≡ Ok fact → Added fact
  given_added k fact e =
      let r = given_ok facts k fact e in
      record {
        follows = λ laws env g s. true_at calls env facts r.0 fact r.1 (h.follow laws env g s);
        sorted = sorted_at t.signature.definitions names facts r.0 fact r.1 h.sorted;
      }

  left_added : (a b : PlainTerm) → Added (both a b) → Added a
  left_added a b n = record {
    follows = λ laws env g s. (and_true (eval calls env a) (eval calls env b) (n.follows laws env g s)).0;
    sorted = (parts_sorted t.signature.definitions names a b n.sorted).first;
  }

  right_added : (a b : PlainTerm) → Added (both a b) → Added b
  right_added a b n = record {
    follows = λ laws env g s. (and_true (eval calls env a) (eval calls env b) (n.follows laws env g s)).1;
    sorted = (parts_sorted t.signature.definitions names a b n.sorted).second;
  }

  both_added : (a b : PlainTerm) → Added a → Added b → here (both a b) ≡ Ok bools → Added (both a b)
  both_added a b n m p = record {
    follows = λ laws env g s. both_true (eval calls env a) (eval calls env b) (n.follows laws env g s) (m.follows laws env g s);
    sorted = there_sort (here (both a b)) bools p;
  }

  concluded_added : (rule : PlainRule) (ts : List PlainTerm) (fact : PlainTerm) → concluded t (top_scope names facts) rule ts ≡ Ok fact → Added fact
  concluded_added rule ts fact p =
      let q = concluded-sorted t (top_scope names facts) rule ts fact p in
      record {
        follows = λ laws env g s.
            concluded-true t (top_scope names facts) rule ts fact env (sound_theory t h.theory laws) (scope_stands t names start facts h) (case_meets t names start facts h laws env g s) p;
        sorted = there_sort (here fact) q.0 q.1;
      }

  line_added : (line : PlainLine) (old fact : PlainTerm) → Added old → rewritten_by t (top_scope names facts) line old ≡ Ok fact → Added fact
  line_added line old fact n p =
      let r = sort_there (here old) n.sorted in
      let q = rewritten_by-sorted t (top_scope names facts) line old fact p in
      record {
        follows = λ laws env g s.
            ap truth_of
            (rewritten_by-kept t (top_scope names facts) line old fact r.0 env (sound_theory t h.theory laws) (scope_stands t names start facts h) (case_meets t names start facts h laws env g s) r.1 p)
            ∙ n.follows laws env g s;
        sorted = there_sort (here fact) q.0 q.1;
      }

  lines_added : (lines : List PlainLine) (old fact : PlainTerm) → Added old → lines_rewritten t (top_scope names facts) lines old ≡ Ok fact → Added fact
  lines_added [] old fact n p = let e : old ≡ fact = cc in subst Added e n
  lines_added (line ∷ lines) old fact n p =
      let r = staged (rewritten_by t (top_scope names facts) line old) (λ new. lines_rewritten t (top_scope names facts) lines new) fact p in
      lines_added lines r.0 fact (line_added line old r.0 n r.1) r.2

  moved_added : (m : PlainMove) (fact : PlainTerm) → moved t names facts m ≡ Ok fact → Added fact
  moved_added (left_of k) fact p =
      let r = staged (given_parts facts k) (λ c. went c.0) fact p in
      let e : r.0.0 ≡ fact = cc in
      subst Added e (left_added r.0.0 r.0.1 (given_added k (both r.0.0 r.0.1) (parts_ok facts k r.0.0 r.0.1 r.1)))
  moved_added (right_of k) fact p =
      let r = staged (given_parts facts k) (λ c. went c.1) fact p in
      let e : r.0.1 ≡ fact = cc in
      subst Added e (right_added r.0.0 r.0.1 (given_added k (both r.0.0 r.0.1) (parts_ok facts k r.0.0 r.0.1 r.1)))
  moved_added (both_of k l) fact p =
      let r = staged (given facts k) (λ a. given facts l >>= λ b. truth_term t.signature.definitions names (both a b)) fact p in
      let q = staged (given facts l) (λ b. truth_term t.signature.definitions names (both r.0 b)) fact r.2 in
      let w = unless_ok (untrue (here (both r.0 q.0))) (both r.0 q.0) fact q.2 in
      subst Added w.1 (both_added r.0 q.0 (given_added k r.0 r.1) (given_added l q.0 q.1) (truth_there (here (both r.0 q.0)) w.0))
  moved_added (again k) fact p = given_added k fact p
  moved_added (concluded_by rule ts) fact p = concluded_added rule ts fact p
  moved_added (after_lines k lines) fact p =
      let r = staged (given facts k) (λ old. lines_rewritten t (top_scope names facts) lines old) fact p in
      lines_added lines r.0 fact (given_added k r.0 r.1) r.2

  -- facts with the one that is added
  more_held : (fact : PlainTerm) → Added fact → Held t names start (facts ++ fact ∷ [])
  more_held fact n = record {
    theory = h.theory;
    named = h.named;
    sorted = more_sorted facts h.sorted;
    follow = λ laws env g s. AllTrue-append calls env facts (fact ∷ []) (h.follow laws env g s) (n.follows laws env g s, tt);
  }
    where
      more_sorted : (ts : List PlainTerm) → AllSorted t.signature.definitions names ts → AllSorted t.signature.definitions names (ts ++ fact ∷ [])
      more_sorted [] a = (n.sorted, tt)
      more_sorted (u ∷ ts) a = (a.0, more_sorted ts a.1)

-- facts with the one of a move
pub moved_held : (t : PlainTheory) (names : Names) (start facts : List PlainTerm) (m : PlainMove) (fact : PlainTerm) → Held t names start facts → moved t names facts m ≡ Ok fact
    → Held t names start (facts ++ fact ∷ [])
moved_held t names start facts m fact h p = more_held t names start facts h fact (moved_added t names start facts h m fact p)

-- ---- what is kept after a move

take_more : (n : ℕ) (xs ys : List PlainTerm) → n ≤ length xs → take n (xs ++ ys) ≡ take n xs
take_more zero xs ys h = refl
take_more (suc n) [] ys h = absurd (omega (arith, h))
take_more (suc n) (x ∷ xs) ys h = ap (λ z. x ∷ z) (take_more n xs ys (omega (arith, h)))

-- `new` is the list with its fact
step_held : (k : List ℕ) (t : PlainTheory) (names : Names) (n : ℕ) (facts new : List PlainTerm) (m : PlainMove) (fact : PlainTerm) → HeldOver k names (take n facts) facts → key t ≡ k → n ≤ length facts
    → moved t names facts m ≡ Ok fact → new ≡ facts ++ fact ∷ [] → HeldOver k names (take n new) new
step_held k t names n facts new m fact h e l p q =
    let all = facts ++ fact ∷ [] in
    let w : HeldOver (key t) names (take n facts) all =
    over_its_key t names (take n facts) all (more_held t names (take n facts) facts (h t e) fact (moved_added t names (take n facts) facts (h t e) m fact p)) in
    let v : HeldOver (key t) names (take n all) all = subst (λ z. HeldOver (key t) names z all) (sym (take_more n facts (fact ∷ []) l)) w in
    let u : HeldOver k names (take n all) all = subst (λ z. HeldOver z names (take n all) all) e v in
    subst (λ z. HeldOver k names (take n z) z) (sym q) u

-- facts that are numbered and keep what facts keep
abbrev pub AreHeld : List ℕ → Names → ℕ → List PlainTerm → Type 0
AreHeld k names n facts = HeldOver k names (take n facts) facts × (n ≤ length facts) × (length facts < 2 ^ 32)

pub step_kept : {A : Type 0} (r : Result A Why) (k : List ℕ) (t : PlainTheory) (names : Names) (n : ℕ) (facts new : List PlainTerm) (m : PlainMove) (fact : PlainTerm) → PushedOn r facts new fact
    → OnOk r (length new < 2 ^ 32) → AreHeld k names n facts → key t ≡ k → moved t names facts m ≡ Ok fact → AreHeld k names n new
step_kept (Ok x) k t names n facts new m fact q few h e p =
    (step_held k t names n facts new m fact h.0 e h.1 p q, (let l : length new ≡ length facts + 1 = ap length q ∙ length-append facts (fact ∷ []) in omega (arith, l, h.1)), few)
step_kept (Err w) k t names n facts new m fact q few h e p = subst (AreHeld k names n) (sym q.1) h

-- ---- what a step answers

abbrev pub facts_of : List ℕ → Names → ℕ → List PlainTerm → PlainFacts
facts_of k names n facts = record { theory = k; names = names; start = take n facts; facts = facts }

abbrev stepping : PlainFacts → Result PlainFacts Why
stepping f = Ok f

fails_any : {A : Type 0} (w : Why) (there : Result A Why) → w ≡ Memory → Fails w there
fails_any w there e = subst (λ z. Fails z there) (sym e) tt

pub step_returns : {A : Type 0} (r : Result A Why) (k : List ℕ) (t : PlainTheory) (names : Names) (n : ℕ) (facts new : List PlainTerm) (m : PlainMove) (fact : PlainTerm) → PushedOn r facts new fact
    → n ≤ length facts → moved t names facts m ≡ Ok fact
    → Stepped r (facts_of k names n facts) (facts_of k names n new) (stepped t (facts_of k names n facts) m)
step_returns (Ok x) k t names n facts new m fact q l p =
    let e : facts_of k names n new ≡ record { theory = k; names = names; start = take n facts; facts = facts ++ fact ∷ [] } =
    ap (facts_of k names n) q ∙ ap (λ z. record { theory = k; names = names; start = z; facts = facts ++ fact ∷ [] }) (take_more n facts (fact ∷ []) l) in
    ap (λ z. z >>= λ f. stepping (record (facts_of k names n facts) { facts = facts ++ f ∷ [] })) p ∙ ap stepping (sym e)
step_returns (Err w) k t names n facts new m fact q l p = (fails_any w (stepped t (facts_of k names n facts) m) q.0, ap (facts_of k names n) q.1)
