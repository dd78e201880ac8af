-- Rules by laws and axioms of a theory keep the value, and what such a law concludes is true.
use Rattle.std.proofs.Common.{◌≡◌, ℕ, Bool, true, false, List, [], ◌∷◌, ◌++◌, Option, Some, None, Result, Ok, Err, refl, sym, ap, ◌∙◌, cond, subst, map, length, inl, inr, arith}
use Rattle.std.specs.Prelude.{◌||◌, nat_eq}
use Rattle.std.proofs.lemmas.Bool.Decides.{nat_tests}
use Rattle.kid_term.specs.PlainTerm.{PlainTerm}
use Rattle.kid_term.specs.Names.{same_name, Names}
use Rattle.kid_term.specs.Simultaneous.{Subst, substituted, captures_any}
use Rattle.kid_term.specs.Eval.{Env, Calls, eval, calls_of}
use Rattle.kid_term.specs.PlainLaw.{PlainConclusion, equal, holds, PlainLaw}
use Rattle.kid_term.specs.PlainTheory.{PlainTheory}
use Rattle.kid_term.specs.Truths.{IsTrueAt, AllTrue}
use Rattle.kid_term.specs.declared.why.Why.{Why}
use Rattle.kid_term.specs.declared.why.Why.TheVariants.{Capture}
use Rattle.kid_scope.specs.Cases.{said_by, IsScope, IsSoundTheory, Meets}
use Rattle.kid_scope.specs.Scope.{PlainScope}
use Rattle.kid_scope.specs.Rewriting.{PlainInstance, KeepsValue, all_within}
use Rattle.kid_scope.specs.Instances.{no_match}
use Rattle.kid_scope.specs.LawInstances.{Contains, AllFree, ConcludedAt, sorts_for}
use Rattle.kid_scope.specs.Unfolding.{paired}
use Rattle.kid_scope.specs.LawRules.{Way, names_of, StandsFor, law_named, some_bound, put_in, put_found, by_sides, by_conclusion, by_named, by_law, concluded_of, concluded_named, law_conclusion}
use Rattle.kid_scope.specs.Laws.{LawRulesKeepValues}
use Rattle.kid_scope.proofs.LawLemmas.{laws_hold}
use Rattle.kid_scope.proofs.Unfolded.{as_many}

-- ---- the law that is named

abbrev found : PlainLaw → Option PlainLaw
found law = Some law

named-there : (f : List ℕ) (ls : List PlainLaw) (law : PlainLaw) → law_named f ls ≡ Some law → Contains law ls
named-there f [] law p = cc
named-there f (l ∷ ls) law p = by (same_name f l.name) p (named-there f ls law)
  where
    by : (c : Bool) → cond c (found l) (law_named f ls) ≡ found law → (law_named f ls ≡ found law → Contains law ls) → Contains law (l ∷ ls)
    by true q rest = inl cc
    by false q rest = inr (rest q)

-- ---- terms that are put in

or_none : (b c : Bool) → (b || c) ≡ false → (b ≡ false) × (c ≡ false)
or_none true c p = cc
or_none false c p = (refl, p)

none_bound : (σ : Subst) (ts : List PlainTerm) → some_bound σ ts ≡ false → AllFree σ ts
none_bound σ [] p = tt
none_bound σ (t ∷ ts) p = let r = or_none (captures_any σ t) (some_bound σ ts) p in (r.0, none_bound σ ts r.1)

abbrev ok : PlainInstance → Result PlainInstance Why
ok n = Ok n

abbrev instance_with : Names → List PlainTerm → List PlainTerm → PlainTerm → PlainInstance
instance_with vs ts cs new = record { conditions = map (substituted (paired vs ts)) cs; term = substituted (paired vs ts) new; within = sorts_for vs ts }

record PutIn (vs : Names) (ts cs : List PlainTerm) (new : PlainTerm) (n : PlainInstance) : Type 0 where
  free : AllFree (paired vs ts) (new ∷ cs)
  is : instance_with vs ts cs new ≡ n

put_in-ok : (vs : Names) (ts cs : List PlainTerm) (new : PlainTerm) (n : PlainInstance) → put_in vs ts cs new ≡ Ok n → PutIn vs ts cs new n
put_in-ok vs ts cs new n p = by (some_bound (paired vs ts) (new ∷ cs)) refl p
  where
    by : (c : Bool) → some_bound (paired vs ts) (new ∷ cs) ≡ c → cond c (Err Capture) (ok (instance_with vs ts cs new)) ≡ ok n → PutIn vs ts cs new n
    by true e q = cc
    by false e q = record { free = none_bound (paired vs ts) (new ∷ cs) e; is = cc }

counted : (m n : ℕ) → m ≡ n → nat_eq m n ≡ true
counted m n e = grind (arith, nat_tests)

-- ---- in a scope that is met

module _ (t : PlainTheory) (sc : PlainScope) (env : Env) (sound : IsSoundTheory t) (scope : IsScope t sc) (met : Meets t sc env) where
  abbrev calls : Calls
  calls = calls_of t.signature.definitions

  -- the terms of an instance lie within the sorts of their variables, and its conditions are true
  abbrev Licensed : PlainInstance → Type 0
  Licensed n = (all_within t.signature.definitions sc.names n.within ≡ true) × AllTrue calls env n.conditions

  law_says : (law : PlainLaw) (c : PlainConclusion) (ts : List PlainTerm) (new : PlainTerm) → Contains law (t.laws ++ t.axioms) → law.conclusion ≡ c → length ts ≡ length law.variables
      → AllFree (paired law.variables ts) law.conditions → AllFree (paired law.variables ts) (said_by c) → Licensed (instance_with law.variables ts law.conditions new) → ConcludedAt calls env (paired law.variables ts) c
  law_says law c ts new here e l free said_free a =
      subst (ConcludedAt calls env (paired law.variables ts)) e
      (laws_hold t sc env law ts sound scope met
      (record {
        stands = here;
        counted = counted (length ts) (length law.variables) l;
        conditions_free = free;
        conclusion_free = subst (λ z. AllFree (paired law.variables ts) (said_by z)) (sym e) said_free;
      })
      a.0 a.1)

  -- one side has the value of the other at terms of which no name would be bound
  abbrev AreEqual : PlainLaw → PlainTerm → PlainTerm → Type 0
  AreEqual law from to =
      (ts : List PlainTerm) → length ts ≡ length law.variables → captures_any (paired law.variables ts) from ≡ false → AllFree (paired law.variables ts) (to ∷ law.conditions)
      → Licensed (instance_with law.variables ts law.conditions to) → eval calls env (substituted (paired law.variables ts) to) ≡ eval calls env (substituted (paired law.variables ts) from)

  module _ (m : Way) (stands : StandsFor m) where
    by_sides-keeps : (law : PlainLaw) (from to : PlainTerm) (args : List PlainTerm) (old : PlainTerm) (n : PlainInstance) → AreEqual law from to → by_sides m law from to args old ≡ Ok n → Licensed n
        → eval calls env n.term ≡ eval calls env old
    by_sides-keeps law from to args old n equal_at p a = by (m (names_of law.variables) from args old) refl p
      where
        by : (o : Option (List PlainTerm)) → m (names_of law.variables) from args old ≡ o → put_found o law to ≡ ok n → eval calls env n.term ≡ eval calls env old
        by None e q = cc
        by (Some ts) e q =
            let k = stands law.variables from args old ts e in
            let i = put_in-ok law.variables ts law.conditions to n q in
            ap (λ z. eval calls env z.term) (sym i.is) ∙ equal_at ts k.0 k.2 i.free (subst Licensed (sym i.is) a) ∙ ap (eval calls env) k.1

    by_conclusion-keeps : (back : Bool) (law : PlainLaw) (c : PlainConclusion) (args : List PlainTerm) (old : PlainTerm) (n : PlainInstance) → Contains law (t.laws ++ t.axioms) → law.conclusion ≡ c
        → by_conclusion m back law c args old ≡ Ok n → Licensed n → eval calls env n.term ≡ eval calls env old
    by_conclusion-keeps false law (equal l r) args old n here e p a =
        by_sides-keeps law l r args old n (λ ts k from_free free b. sym (law_says law (equal l r) ts r here e k free.1 (from_free, (free.0, tt)) b)) p a
    by_conclusion-keeps true law (equal l r) args old n here e p a =
        by_sides-keeps law r l args old n (λ ts k from_free free b. law_says law (equal l r) ts l here e k free.1 (free.0, (from_free, tt)) b) p a
    by_conclusion-keeps back law (holds c) args old n here e p a = cc

    by_named-keeps : (f : List ℕ) (back : Bool) (args : List PlainTerm) (old : PlainTerm) (n : PlainInstance) → by_named m back (law_named f (t.laws ++ t.axioms)) args old ≡ Ok n → Licensed n
        → eval calls env n.term ≡ eval calls env old
    by_named-keeps f back args old n p a = by (law_named f (t.laws ++ t.axioms)) refl p
      where
        by : (o : Option PlainLaw) → law_named f (t.laws ++ t.axioms) ≡ o → by_named m back o args old ≡ ok n → eval calls env n.term ≡ eval calls env old
        by None e q = cc
        by (Some law) e q = by_conclusion-keeps back law law.conclusion args old n (named-there f (t.laws ++ t.axioms) law e) refl q a

  concluded_of-true : (law : PlainLaw) (c : PlainConclusion) (ts : List PlainTerm) (n : PlainInstance) → Contains law (t.laws ++ t.axioms) → law.conclusion ≡ c → concluded_of law c ts ≡ Ok n → Licensed n
      → IsTrueAt calls env n.term
  concluded_of-true law (equal l r) ts n here e p a = cc
  concluded_of-true law (holds c) ts n here e p a = by (nat_eq (length ts) (length law.variables)) refl p
    where
      by : (b : Bool) → nat_eq (length ts) (length law.variables) ≡ b → cond b (put_in law.variables ts law.conditions c) no_match ≡ ok n → IsTrueAt calls env n.term
      by false k q = cc
      by true k q =
          let i = put_in-ok law.variables ts law.conditions c n q in
          subst (λ z. IsTrueAt calls env z.term) i.is
          (law_says law (holds c) ts c here e (as_many (length ts) (length law.variables) k) i.free.1 (i.free.0, tt) (subst Licensed (sym i.is) a))

  concluded_named-true : (f : List ℕ) (ts : List PlainTerm) (n : PlainInstance) → concluded_named (law_named f (t.laws ++ t.axioms)) ts ≡ Ok n → Licensed n → IsTrueAt calls env n.term
  concluded_named-true f ts n p a = by (law_named f (t.laws ++ t.axioms)) refl p
    where
      by : (o : Option PlainLaw) → law_named f (t.laws ++ t.axioms) ≡ o → concluded_named o ts ≡ ok n → IsTrueAt calls env n.term
      by None e q = cc
      by (Some law) e q = concluded_of-true law law.conclusion ts n (named-there f (t.laws ++ t.axioms) law e) refl q a

pub by_law-keeps : (m : Way) → StandsFor m → (f : List ℕ) (back : Bool) (args : List PlainTerm) → KeepsValue (by_law m f back args)
by_law-keeps m stands f back args = λ t sc old new s s' env sound scope met p q q' w a. by_named-keeps t sc env sound scope met m stands f back args old new p (w, a)

pub law_conclusion-true : (f : List ℕ) (ts : List PlainTerm) (t : PlainTheory) (sc : PlainScope) (env : Env) (n : PlainInstance) → law_conclusion f ts t ≡ Ok n → IsSoundTheory t → IsScope t sc
    → Meets t sc env → all_within t.signature.definitions sc.names n.within ≡ true → AllTrue (calls_of t.signature.definitions) env n.conditions → IsTrueAt (calls_of t.signature.definitions) env n.term
law_conclusion-true f ts t sc env n p sound scope met w a = concluded_named-true t sc env sound scope met f ts n p (w, a)

pub law_rules_keep : LawRulesKeepValues
law_rules_keep = record { rewrites = by_law-keeps; concludes = law_conclusion-true }

-- ---- ways that pair names with terms in another form

-- a function that goes by the clauses of `paired` on names alone
pub zipped_paired : (z : List (List ℕ) → List PlainTerm → Subst) → ((ts : List PlainTerm) → z [] ts ≡ []) → ((x : List ℕ) (xs : List (List ℕ)) → z (x ∷ xs) [] ≡ [])
    → ((x : List ℕ) (xs : List (List ℕ)) (t : PlainTerm) (ts : List PlainTerm) → z (x ∷ xs) (t ∷ ts) ≡ (x, t) ∷ z xs ts) → (vs : Names) (ts : List PlainTerm) → z (names_of vs) ts ≡ paired vs ts
zipped_paired z none short more [] ts = none ts
zipped_paired z none short more (v ∷ vs) [] = short v.0 (names_of vs)
zipped_paired z none short more (v ∷ vs) (t ∷ ts) = more v.0 (names_of vs) t ts ∙ ap (λ r. (v.0, t) ∷ r) (zipped_paired z none short more vs ts)

names-length : (vs : Names) → length (names_of vs) ≡ length vs
names-length [] = refl
names-length (v ∷ vs) = omega (arith, names-length vs)

pub stands_for : (m : Way) (z : List (List ℕ) → List PlainTerm → Subst) → ((vs : Names) (ts : List PlainTerm) → z (names_of vs) ts ≡ paired vs ts)
    → ((xs : List (List ℕ)) (side : PlainTerm) (args : List PlainTerm) (old : PlainTerm) (ts : List PlainTerm) → m xs side args old ≡ Some ts
    → (length ts ≡ length xs) × (substituted (z xs ts) side ≡ old) × (captures_any (z xs ts) side ≡ false))
    → StandsFor m
stands_for m z pairs there vs side args old ts e =
    let k = there (names_of vs) side args old ts e in
    (k.0 ∙ names-length vs, subst (λ σ. substituted σ side ≡ old) (pairs vs ts) k.1, subst (λ σ. captures_any σ side ≡ false) (pairs vs ts) k.2)
