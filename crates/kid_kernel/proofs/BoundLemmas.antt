-- Terms that are neither too large nor too deep, and their parts.
use Rattle.std.proofs.Common.{◌≡◌, ℕ, ◌+◌, ◌<◌, ◌≤◌, zero, suc, true, List, [], ◌∷◌, Some, Result, Ok, Err, get_or, length, map, refl, sym, ap, ◌∙◌, subst, arith}
use Rattle.std.specs.Prelude.{OnOk}
use Rattle.kid_value.specs.PlainSort.{PlainSort}
use Rattle.kid_term.specs.PlainTerm.{PlainTerm, op, app, no_term, term, term_row, node_count}
use Rattle.kid_term.specs.TermView.{plain_term}
use Rattle.kid_term.specs.Names.{Names, PlainDef}
use Rattle.kid_term.specs.Sorted.{Sorted}
use Rattle.kid_term.specs.Sorting.{sort_of}
use Rattle.kid_term.specs.declared.Term.{Term}
use Rattle.kid_term.specs.declared.operator.Op.TheVariants.{Logic}
use Rattle.kid_term.specs.declared.operator.LogicOp.TheVariants.{And}
use Rattle.kid_scope.specs.Holds.{has_a_sort}
use Rattle.kid_scope.specs.Scope.{PlainScope, scope_at, scope_among}
use Rattle.kid_scope.proofs.ClosedSorts.{sort_there}
use Rattle.kid_scope.proofs.Places.{part_sorted}
use Rattle.kid_kernel.specs.Comparing.{conjuncts}
use Rattle.kid_kernel.specs.Leading.{IsBounded, AreBounded, Leads, LeadsAmong}
use Rattle.kid_kernel.proofs.ComparingLemmas.{same_parts, nothing_there}

pub one_bounded : (ts : List Term) (i : ℕ) (t : Term) → i < length ts → t ≡ get_or ts i t → AreBounded (term_row (map plain_term ts)) → IsBounded (plain_term t)
one_bounded [] i t p q b = absurd (omega arith)
one_bounded (x ∷ ts) zero t p q b = let e : t ≡ x = q in subst (λ z. IsBounded (plain_term z)) (sym e) (record { size = omega (arith, b.size); deep = omega (arith, b.deep) })
one_bounded (x ∷ ts) (suc i) t p q b = one_bounded ts i t (omega arith) q (record { size = omega (arith, b.size); deep = omega (arith, b.deep) })

-- what stands at a place among terms, and beyond them
pub among_at : (known : List PlainDef) (ts : List Term) (i : ℕ) (path : List ℕ) (sc : PlainScope) (t : Term) → i < length ts → t ≡ get_or ts i t
    → scope_among known (term_row (map plain_term ts)) i path sc ≡ scope_at known (plain_term t) path sc
among_at known [] i path sc t p q = absurd (omega arith)
among_at known (x ∷ ts) zero path sc t p q = ap (λ z. scope_at known (plain_term z) path sc) (sym q)
among_at known (x ∷ ts) (suc i) path sc t p q = among_at known ts i path sc t (omega arith) q

pub among_past : (known : List PlainDef) (ts : List Term) (i : ℕ) (path : List ℕ) (sc : PlainScope) → length ts ≤ i → scope_among known (term_row (map plain_term ts)) i path sc ≡ sc
among_past known [] i path sc p = refl
among_past known (x ∷ ts) zero path sc p = absurd (omega arith)
among_past known (x ∷ ts) (suc i) path sc p = among_past known ts i path sc (omega arith)

-- the way among terms is the way in the one at the place, and ends beyond them
module _ (known : List PlainDef) (names names' : Names) (assumed assumed' : List PlainTerm) where
  leads_at : (ts : List Term) (i : ℕ) (path : List ℕ) (t : Term) → i < length ts → t ≡ get_or ts i t → Leads known (plain_term t) path names assumed names' assumed'
      → LeadsAmong known (term_row (map plain_term ts)) i path names assumed names' assumed'
  leads_at ts i path t p q h facts = among_at known ts i path (record { names = names; facts = facts; assumed = assumed }) t p q ∙ h facts

  pub leads_on : {A E : Type 0} (found : Result A E) (ts : List Term) (i : ℕ) (path : List ℕ) (t : Term) → i < length ts → t ≡ get_or ts i t
      → OnOk found (Leads known (plain_term t) path names assumed names' assumed') → OnOk found (LeadsAmong known (term_row (map plain_term ts)) i path names assumed names' assumed')
  leads_on (Ok x) ts i path t p q h = leads_at ts i path t p q h
  leads_on (Err e) ts i path t p q h = h

-- ---- the parts of a conjunction

has_of : (r : Sorted) (s : PlainSort) → r ≡ Ok s → has_a_sort r ≡ true
has_of r s e = ap has_a_sort e

pub parts_sorted : (defs : List PlainDef) (names : Names) (c a b : PlainTerm) → conjuncts c ≡ Some (a, b) → has_a_sort (sort_of defs names c) ≡ true
    → (has_a_sort (sort_of defs names a) ≡ true) × (has_a_sort (sort_of defs names b) ≡ true)
parts_sorted defs names (app (op (Logic And)) (term u (term v no_term))) a b e p =
    let k = same_parts u v a b e in
    let whole = app (op (Logic And)) (term u (term v no_term)) in
    let s = sort_there (sort_of defs names whole) p in
    let sc : PlainScope = record { names = names; facts = []; assumed = [] } in
    let x = part_sorted defs whole (zero ∷ []) u sc s.0 refl s.1 in
    let y = part_sorted defs whole (suc zero ∷ []) v sc s.0 refl s.1 in (
      subst (λ z. has_a_sort (sort_of defs names z) ≡ true) k.0 (has_of (sort_of defs names u) x.0 x.1),
      subst (λ z. has_a_sort (sort_of defs names z) ≡ true) k.1 (has_of (sort_of defs names v) y.0 y.1),
    )
parts_sorted defs names c a b e p = absurd (nothing_there a b e)

pub parts_count : (c a b : PlainTerm) → conjuncts c ≡ Some (a, b) → node_count a + node_count b + 1 ≡ node_count c
parts_count (app (op (Logic And)) (term u (term v no_term))) a b e =
    let k = same_parts u v a b e in
    omega (arith, ap node_count k.0, ap node_count k.1)
parts_count c a b e = absurd (nothing_there a b e)
