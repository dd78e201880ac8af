-- The rules for calls, values, facts and casts keep the value.
use Rattle.std.proofs.Common.{◌≡◌, ℕ, zero, suc, ℤ, Bool, true, false, List, [], ◌∷◌, Option, Some, None, Result, Ok, Err, refl, sym, ap, ◌∙◌, cond, subst, length}
use Rattle.std.specs.Prelude.{pos, int_le, nat_le, nat_eq}
use Rattle.std.specs.List.{list_all}
use Rattle.std.proofs.Common.{arith}
use Rattle.std.proofs.lemmas.Int.{ints as int_rules}
use Rattle.std.proofs.lemmas.Bool.Decides.{nat_tests}
use Rattle.kid_value.specs.PlainValue as value
use Rattle.kid_value.specs.PlainValue.{PlainValue, int, bool, pair, set, seq, map_of, items}
use Rattle.kid_value.specs.PlainSort.{PlainSort, never, bools, ints, pairs, sets, seqs, maps, enums, has_sort}
use Rattle.kid_value.specs.SortOrder.{is_subsort}
use Rattle.kid_value.specs.Rows.Parts.{truth_of}
use Rattle.kid_value.specs.Rows.Number as row
use Rattle.kid_value.specs.Rows.Seq as seq_row
use Rattle.kid_value.specs.Rows.Logic as logic_row
use Rattle.kid_value.proofs.SortLemmas.{and_parts, and_both, list_all-weaker, has_sort-subsort}
use Rattle.kid_value.proofs.ValueSetLaws.{value_eq-true}
use Rattle.kid_term.specs.PlainTerm.{op, call, cast, PlainTerm, number, truth, app, no_term, term, terms, term_row}
use Rattle.kid_term.specs.Names.{PlainDef}
use Rattle.kid_term.specs.Sorted.{Sorted}
use Rattle.kid_term.specs.Sorting.{sort_of}
use Rattle.kid_term.specs.Eval.{Env, Calls, eval, calls_of, cast_value}
use Rattle.kid_term.specs.Closed.{is_closed}
use Rattle.kid_term.specs.Quote.{quote}
use Rattle.kid_term.specs.Simultaneous.{substituted, captures_any}
use Rattle.kid_term.specs.declared.operator.Op.TheVariants.{Logic}
use Rattle.kid_term.specs.declared.operator.LogicOp.TheVariants.{Eq}
use Rattle.kid_term.specs.declared.why.Why.{Why}
use Rattle.kid_term.specs.declared.why.Why.TheVariants.{NoMatch, Capture}
use Rattle.kid_term.proofs.ClosedLemmas.{eval-closed}
use Rattle.kid_term.proofs.QuoteLemmas.{eval-quote}
use Rattle.kid_term.proofs.SortedValue.{sorted-kept}
use Rattle.kid_term.specs.Truths.{IsTrueAt, AllTrue}
use Rattle.kid_scope.specs.Cases.{IsScope, IsSoundTheory, Meets}
use Rattle.kid_term.specs.Definition.{definition_of}
use Rattle.kid_scope.specs.Scope.{PlainScope, negated}
use Rattle.kid_term.specs.PlainTheory.{PlainTheory}
use Rattle.kid_scope.specs.Same.{same_term}
use Rattle.kid_scope.specs.Rewriting.{PlainInstance, Rule, KeepsValue, lies_within}
use Rattle.kid_scope.specs.Instances.{no_match, just, provided, forth_alone}
use Rattle.kid_scope.specs.Unfolding.{paired, opened, opened_call, opened_in, closed_from, closed_call}
use Rattle.kid_scope.specs.Settling.{computed, is_a_truth, settled_as}
use Rattle.kid_scope.specs.Using.{nth, fact_at, sides_of, exchanged, used_as, used, use_alone}
use Rattle.kid_scope.specs.Uncasting.{at_most, length_of, uncast_from, uncast_in}
use Rattle.kid_scope.specs.Laws.{PlaceRulesKeepValues, TermwiseRulesKeepValues}
use Rattle.kid_scope.proofs.RewriteLemmas.{staged}
use Rattle.kid_scope.proofs.SameLemmas.{same_term-true}
use Rattle.kid_scope.proofs.Truths.{true_bool}
use Rattle.kid_scope.proofs.Unfolded.{row-terms, opened-value}

-- ---- instances

abbrev ok : PlainInstance → Result PlainInstance Why
ok n = Ok n

-- the new term of an instance has the value of the old one, where its conditions are true
abbrev Keeps : Calls → Env → PlainTerm → PlainInstance → Type 0
Keeps calls env old n = AllTrue calls env n.conditions → eval calls env n.term ≡ eval calls env old

just-keeps : (calls : Calls) (env : Env) (new old : PlainTerm) (n : PlainInstance) → just new ≡ Ok n → eval calls env new ≡ eval calls env old → Keeps calls env old n
just-keeps calls env new old n p e = let q : record { conditions = []; term = new; within = [] } ≡ n = cc in subst (Keeps calls env old) q (λ a. e)

provided-keeps : (calls : Calls) (env : Env) (cs : List PlainTerm) (new old : PlainTerm) (n : PlainInstance) → provided cs new ≡ Ok n → (AllTrue calls env cs → eval calls env new ≡ eval calls env old) → Keeps calls env old n
provided-keeps calls env cs new old n p e = let q : record { conditions = cs; term = new; within = [] } ≡ n = cc in subst (Keeps calls env old) q e

if-ok : (c : Bool) (r : Result PlainInstance Why) (n : PlainInstance) → cond c r no_match ≡ Ok n → (c ≡ true) × (r ≡ Ok n)
if-ok true r n p = (refl, p)
if-ok false r n p = cc

forth-keeps : (back : Bool) (args : List PlainTerm) (rule : Rule) → KeepsValue rule → KeepsValue (forth_alone back args rule)
forth-keeps false [] rule keeps = keeps
forth-keeps false (a ∷ args) rule keeps = λ t sc old new s s' env sound scope met p. cc
forth-keeps true args rule keeps = λ t sc old new s s' env sound scope met p. cc

-- ---- unfold and fold

record Opened (d : PlainDef) (ts : List PlainTerm) (body : PlainTerm) : Type 0 where
  counted : nat_eq (length ts) (length d.parameters) ≡ true
  free : captures_any (paired d.parameters ts) d.body ≡ false
  is : substituted (paired d.parameters ts) d.body ≡ body

abbrev body_of : PlainTerm → Result PlainTerm Why
body_of t = Ok t

opened-ok : (d : PlainDef) (ts : List PlainTerm) (body : PlainTerm) → opened d ts ≡ Ok body → Opened d ts body
opened-ok d ts body p = by (nat_eq (length ts) (length d.parameters)) (captures_any (paired d.parameters ts) d.body) refl refl p
  where
    by : (b c : Bool) → nat_eq (length ts) (length d.parameters) ≡ b → captures_any (paired d.parameters ts) d.body ≡ c
        → cond b (cond c (Err Capture) (body_of (substituted (paired d.parameters ts) d.body))) (Err NoMatch) ≡ body_of body → Opened d ts body
    by true false e f q = record { counted = e; free = f; is = cc }
    by true true e f q = cc
    by false c e f q = cc

module _ (t : PlainTheory) (sound : IsSoundTheory t) (env : Env) where
  abbrev calls : Calls
  calls = calls_of t.signature.definitions

  body-value : (f : List ℕ) (d : PlainDef) (ts : List PlainTerm) (body : PlainTerm) → definition_of f t.signature.definitions ≡ Some d → opened d ts ≡ Ok body
      → eval calls env body ≡ eval calls env (app (call f) (term_row ts))
  body-value f d ts body p q =
      let o = opened-ok d ts body q in
      ap (eval calls env) (sym o.is) ∙ opened-value t.signature.definitions env f d ts sound.definitions sound.distinct p o.counted o.free

  opened_in-keeps : (old : PlainTerm) (n : PlainInstance) → opened_in t.signature.definitions old ≡ Ok n → Keeps calls env old n
  opened_in-keeps (app (call f) ts) n p = by (definition_of f t.signature.definitions) refl p
    where
      by : (o : Option PlainDef) → definition_of f t.signature.definitions ≡ o → opened_call o (terms ts) ≡ ok n → Keeps calls env (app (call f) ts) n
      by None e q = cc
      by (Some d) e q =
          let r = staged (opened d (terms ts)) (λ body. just body) n q in
          just-keeps calls env r.0 (app (call f) ts) n r.2 (body-value f d (terms ts) r.0 e r.1 ∙ ap (λ z. eval calls env (app (call f) z)) (row-terms ts))
  opened_in-keeps old n p = cc

  fold-keeps : (f : List ℕ) (back : Bool) (args : List PlainTerm) (old : PlainTerm) (n : PlainInstance) → closed_call back (definition_of f t.signature.definitions) f args old ≡ Ok n → Keeps calls env old n
  fold-keeps f back args old n p = by back (definition_of f t.signature.definitions) refl p
    where
      with_body : (d : PlainDef) → definition_of f t.signature.definitions ≡ Some d → (r : Result PlainTerm Why) → opened d args ≡ r → closed_from r (app (call f) (term_row args)) old ≡ ok n → Keeps calls env old n
      with_body d e (Err w) g q = cc
      with_body d e (Ok body) g q =
          let k = if-ok (same_term body old) (just (app (call f) (term_row args))) n q in
          just-keeps calls env (app (call f) (term_row args)) old n k.1 (sym (body-value f d args body e g) ∙ ap (eval calls env) (same_term-true body old k.0))

      by : (b : Bool) (o : Option PlainDef) → definition_of f t.signature.definitions ≡ o → closed_call b o f args old ≡ ok n → Keeps calls env old n
      by b None e q = cc
      by false (Some d) e q = with_body d e (opened d args) refl q
      by true (Some d) e q = cc

-- ---- compute, holds, fails

computed-keeps : (t : PlainTheory) (sc : PlainScope) (env : Env) (old : PlainTerm) (s : PlainSort) (n : PlainInstance) → IsSoundTheory t → IsScope t sc → Meets t sc env
    → sort_of t.signature.definitions sc.names old ≡ Ok s → computed t.signature.definitions old ≡ Ok n → Keeps (calls_of t.signature.definitions) env old n
computed-keeps t sc env old s n sound scope met p q =
    let calls = calls_of t.signature.definitions in
    let k = if-ok (is_closed old) (just (quote (eval calls [] old))) n q in
    let e = eval-closed calls env [] old k.0 in
    let v = (sorted-kept t.signature.definitions sc.names env old s sound.definitions scope.allowed met.case.fits p).of_sort in
    just-keeps calls env (quote (eval calls [] old)) old n k.1 (ap (λ z. eval calls env (quote z)) (sym e) ∙ eval-quote calls env (eval calls env old) v.canonical)

truth-ok : (r : Sorted) → is_a_truth r ≡ true → r ≡ Ok bools
truth-ok (Ok bools) p = refl
truth-ok (Ok never) p = cc
truth-ok (Ok (ints a b)) p = cc
truth-ok (Ok (pairs a b)) p = cc
truth-ok (Ok (sets a)) p = cc
truth-ok (Ok (seqs a n)) p = cc
truth-ok (Ok (maps a b)) p = cc
truth-ok (Ok (enums ns)) p = cc
truth-ok (Err f) p = cc

not-true : (v : PlainValue) → truth_of (logic_row.not v) ≡ true → v ≡ bool false
not-true (bool true) p = cc
not-true (bool false) p = refl
not-true (int n) p = cc
not-true (pair x y) p = cc
not-true (set vs) p = cc
not-true (seq vs) p = cc
not-true (map_of m) p = cc
not-true (value.tag n) p = cc

holds-keeps : (calls : Calls) (env : Env) (old : PlainTerm) (r : Sorted) (n : PlainInstance) → settled_as true old r ≡ Ok n → Keeps calls env old n
holds-keeps calls env old r n q =
    let k = if-ok (is_a_truth r) (provided (old ∷ []) (truth true)) n q in
    provided-keeps calls env (old ∷ []) (truth true) old n k.1 (λ a. sym (true_bool (eval calls env old) a.0))

fails-keeps : (calls : Calls) (env : Env) (old : PlainTerm) (r : Sorted) (n : PlainInstance) → settled_as false (negated old) r ≡ Ok n → Keeps calls env old n
fails-keeps calls env old r n q =
    let k = if-ok (is_a_truth r) (provided (negated old ∷ []) (truth false)) n q in
    provided-keeps calls env (negated old ∷ []) (truth false) old n k.1 (λ a. sym (not-true (eval calls env old) a.0))

-- ---- facts

true_at : (calls : Calls) (env : Env) (ts : List PlainTerm) (k : ℕ) (t : PlainTerm) → nth ts k ≡ Some t → AllTrue calls env ts → IsTrueAt calls env t
true_at calls env [] k t e a = cc
true_at calls env (u ∷ ts) zero t e a = let q : u ≡ t = cc in subst (IsTrueAt calls env) q a.0
true_at calls env (u ∷ ts) (suc k) t e a = true_at calls env ts k t e a.1

pub fact_true : (calls : Calls) (env : Env) (ts : List PlainTerm) (k : ℕ) (t : PlainTerm) → fact_at ts k ≡ Some t → AllTrue calls env ts → IsTrueAt calls env t
fact_true calls env ts zero t e a = cc
fact_true calls env ts (suc k) t e a = true_at calls env ts k t e a

abbrev first_or : PlainTerm → Option (PlainTerm × PlainTerm) → PlainTerm
first_or t None = t
first_or t (Some p) = p.0

abbrev second_or : PlainTerm → Option (PlainTerm × PlainTerm) → PlainTerm
second_or t None = t
second_or t (Some p) = p.1

sides-ok : (t l r : PlainTerm) → sides_of t ≡ Some (l, r) → t ≡ app (op (Logic Eq)) (term l (term r no_term))
sides-ok (app (op (Logic Eq)) (term x (term y no_term))) l r p =
    let e : x ≡ l = ap (first_or x) p in let f : y ≡ r = ap (second_or y) p in λ i. app (op (Logic Eq)) (term (e i) (term (f i) no_term))
sides-ok t l r p = cc

exchanged-keeps : (calls : Calls) (env : Env) (from to old : PlainTerm) (n : PlainInstance) → exchanged from to old ≡ Ok n → eval calls env to ≡ eval calls env from → Keeps calls env old n
exchanged-keeps calls env from to old n q e =
    let k = if-ok (same_term from old) (just to) n q in just-keeps calls env to old n k.1 (e ∙ ap (eval calls env) (same_term-true from old k.0))

used-keeps : (calls : Calls) (env : Env) (back : Bool) (fact old : PlainTerm) (n : PlainInstance) → IsTrueAt calls env fact → used_as back fact (sides_of fact) old ≡ Ok n → Keeps calls env old n
used-keeps calls env back fact old n h p = by back (sides_of fact) refl p
  where
    equal : (s : PlainTerm × PlainTerm) → sides_of fact ≡ Some s → eval calls env s.0 ≡ eval calls env s.1
    equal s e =
        let w : IsTrueAt calls env (app (op (Logic Eq)) (term s.0 (term s.1 no_term))) = subst (IsTrueAt calls env) (sides-ok fact s.0 s.1 e) h in
        value_eq-true (eval calls env s.0) (eval calls env s.1) w

    by : (back : Bool) (o : Option (PlainTerm × PlainTerm)) → sides_of fact ≡ o → used_as back fact o old ≡ ok n → Keeps calls env old n
    by false (Some s) e q = exchanged-keeps calls env s.0 s.1 old n q (sym (equal s e))
    by true (Some s) e q = exchanged-keeps calls env s.1 s.0 old n q (equal s e)
    by false None e q = exchanged-keeps calls env fact (truth true) old n q (sym (true_bool (eval calls env fact) h))
    by true None e q = cc

use-keeps : (calls : Calls) (env : Env) (k : ℕ) (back : Bool) (args facts : List PlainTerm) (old : PlainTerm) (n : PlainInstance) → AllTrue calls env facts → use_alone k back args facts old ≡ Ok n → Keeps calls env old n
use-keeps calls env k back [] facts old n a p = by (fact_at facts k) refl p
  where
    by : (o : Option PlainTerm) → fact_at facts k ≡ o → used back o old ≡ ok n → Keeps calls env old n
    by None e q = cc
    by (Some fact) e q = used-keeps calls env back fact old n (fact_true calls env facts k fact e a) q
use-keeps calls env k back (t ∷ args) facts old n a p = cc

-- ---- casts

in_interval : (lo hi : ℤ) (v : PlainValue) → truth_of (row.le (int lo) v) ≡ true → truth_of (row.le v (int hi)) ≡ true → has_sort (ints lo hi) v ≡ true
in_interval lo hi (int n) p q = and_both (int_le lo n) (int_le n hi) p q
in_interval lo hi (bool b) p q = cc
in_interval lo hi (pair x y) p q = cc
in_interval lo hi (set vs) p q = cc
in_interval lo hi (seq vs) p q = cc
in_interval lo hi (map_of m) p q = cc
in_interval lo hi (value.tag n) p q = cc

in_bound : (a b : PlainSort) (m n : ℕ) (v : PlainValue) → has_sort (seqs b m) v ≡ true → is_subsort b a ≡ true → truth_of (row.le (seq_row.len v) (int (pos n))) ≡ true → has_sort (seqs a n) v ≡ true
in_bound a b m n (seq vs) h s p =
    let r = and_parts (nat_le (length (items vs)) m) (list_all (has_sort b) (items vs)) h in
    and_both (nat_le (length (items vs)) n) (list_all (has_sort a) (items vs)) (by (length (items vs)) n p) (list_all-weaker (has_sort b) (has_sort a) (λ x. has_sort-subsort b a x s) (items vs) r.1)
  where
    by : (l n : ℕ) → int_le (pos l) (pos n) ≡ true → nat_le l n ≡ true
    by l n p = grind (arith, int_rules, nat_tests)
in_bound a b m n (int k) h s p = cc
in_bound a b m n (bool c) h s p = cc
in_bound a b m n (pair x y) h s p = cc
in_bound a b m n (set vs) h s p = cc
in_bound a b m n (map_of e) h s p = cc
in_bound a b m n (value.tag k) h s p = cc

-- a cast to a sort that the value has changes nothing
cast-same : (a : PlainSort) (v : PlainValue) → has_sort a v ≡ true → v ≡ cast_value a (v ∷ [])
cast-same a v h = rw h refl

module _ (calls : Calls) (env : Env) where
  abbrev casted : PlainSort → PlainTerm → PlainTerm
  casted a u = app (cast a) (term u no_term)

  within-keeps : (a : PlainSort) (u : PlainTerm) (r : Sorted) (n : PlainInstance) → ((s : PlainSort) → r ≡ Ok s → has_sort s (eval calls env u) ≡ true) → cond (lies_within a r) (just u) no_match ≡ Ok n → Keeps calls env (casted a u) n
  within-keeps a u (Ok s) n h p =
      let k = if-ok (is_subsort s a) (just u) n p in
      just-keeps calls env u (casted a u) n k.1 (cast-same a (eval calls env u) (has_sort-subsort s a (eval calls env u) k.0 (h s refl)))
  within-keeps a u (Err f) n h p = cc

  uncast-keeps : (a : PlainSort) (u : PlainTerm) (r : Sorted) (n : PlainInstance) → ((s : PlainSort) → r ≡ Ok s → has_sort s (eval calls env u) ≡ true) → uncast_from a u r ≡ Ok n → Keeps calls env (casted a u) n
  uncast-keeps (ints lo hi) u r n h p =
      provided-keeps calls env (at_most (number lo) u ∷ at_most u (number hi) ∷ []) u (casted (ints lo hi) u) n p
      (λ a. cast-same (ints lo hi) (eval calls env u) (in_interval lo hi (eval calls env u) a.0 a.1.0))
  uncast-keeps (seqs b k) u (Ok (seqs c m)) n h p =
      let q = if-ok (is_subsort c b) (provided (at_most (length_of u) (number (pos k)) ∷ []) u) n p in
      provided-keeps calls env (at_most (length_of u) (number (pos k)) ∷ []) u (casted (seqs b k) u) n q.1
      (λ a. cast-same (seqs b k) (eval calls env u) (in_bound b c m k (eval calls env u) (h (seqs c m) refl) q.0 a.0))
  uncast-keeps (seqs b k) u (Ok never) n h p = within-keeps (seqs b k) u (Ok never) n h p
  uncast-keeps (seqs b k) u (Ok bools) n h p = within-keeps (seqs b k) u (Ok bools) n h p
  uncast-keeps (seqs b k) u (Ok (ints l m)) n h p = within-keeps (seqs b k) u (Ok (ints l m)) n h p
  uncast-keeps (seqs b k) u (Ok (pairs l m)) n h p = within-keeps (seqs b k) u (Ok (pairs l m)) n h p
  uncast-keeps (seqs b k) u (Ok (sets l)) n h p = within-keeps (seqs b k) u (Ok (sets l)) n h p
  uncast-keeps (seqs b k) u (Ok (maps l m)) n h p = within-keeps (seqs b k) u (Ok (maps l m)) n h p
  uncast-keeps (seqs b k) u (Ok (enums ns)) n h p = within-keeps (seqs b k) u (Ok (enums ns)) n h p
  uncast-keeps (seqs b k) u (Err f) n h p = within-keeps (seqs b k) u (Err f) n h p
  uncast-keeps never u r n h p = within-keeps never u r n h p
  uncast-keeps bools u r n h p = within-keeps bools u r n h p
  uncast-keeps (pairs c d) u r n h p = within-keeps (pairs c d) u r n h p
  uncast-keeps (sets c) u r n h p = within-keeps (sets c) u r n h p
  uncast-keeps (maps c d) u r n h p = within-keeps (maps c d) u r n h p
  uncast-keeps (enums ns) u r n h p = within-keeps (enums ns) u r n h p

uncast_in-keeps : (t : PlainTheory) (sc : PlainScope) (env : Env) (old : PlainTerm) (n : PlainInstance) → IsSoundTheory t → IsScope t sc → Meets t sc env
    → uncast_in t.signature.definitions sc.names old ≡ Ok n → Keeps (calls_of t.signature.definitions) env old n
uncast_in-keeps t sc env (app (cast a) (term u no_term)) n sound scope met p =
    uncast-keeps (calls_of t.signature.definitions) env a u (sort_of t.signature.definitions sc.names u) n
    (λ s e. (sorted-kept t.signature.definitions sc.names env u s sound.definitions scope.allowed met.case.fits e).of_sort.has) p
uncast_in-keeps t sc env old n sound scope met p = cc

-- ---- all of them

pub place_rules_keep : PlaceRulesKeepValues
place_rules_keep = record {
  unfolds = λ back args. forth-keeps back args (λ t sc old. opened_in t.signature.definitions old) (λ t sc old new s s' env sound scope met p q q' w a. opened_in-keeps t sound env old new p a);
  folds = λ f back args t sc old new s s' env sound scope met p q q' w a. fold-keeps t sound env f back args old new p a;
  computes = λ back args.
      forth-keeps back args (λ t sc old. computed t.signature.definitions old) (λ t sc old new s s' env sound scope met p q q' w a. computed-keeps t sc env old s new sound scope met q p a);
  holds = λ back args.
      forth-keeps back args (λ t sc old. settled_as true old (sort_of t.signature.definitions sc.names old))
      (λ t sc old new s s' env sound scope met p q q' w a. holds-keeps (calls_of t.signature.definitions) env old (sort_of t.signature.definitions sc.names old) new p a);
  fails = λ back args.
      forth-keeps back args (λ t sc old. settled_as false (negated old) (sort_of t.signature.definitions sc.names old))
      (λ t sc old new s s' env sound scope met p q q' w a. fails-keeps (calls_of t.signature.definitions) env old (sort_of t.signature.definitions sc.names old) new p a);
  uses = λ k back args t sc old new s s' env sound scope met p q q' w a. use-keeps (calls_of t.signature.definitions) env k back args sc.facts old new met.facts p a;
  uncasts = λ back args.
      forth-keeps back args (λ t sc old. uncast_in t.signature.definitions sc.names old) (λ t sc old new s s' env sound scope met p q q' w a. uncast_in-keeps t sc env old new sound scope met p a);
}

pub termwise_keep : TermwiseRulesKeepValues
termwise_keep f keeps t sc old new s s' env sound scope met p q q' w a =
    keeps old new t.signature.definitions sc.names env s s' p sound.definitions scope.allowed met.case.fits q q' a
