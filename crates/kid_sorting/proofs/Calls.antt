-- Which definition a call means, and what its sort is.
use Rattle.std.proofs.Common.{◌≡◌, ℕ, zero, suc, ◌+◌, ◌≤◌, Bool, true, false, cond, List, [], ◌∷◌, ◌++◌, Some, None, Ok, Err, refl, ap, ◌∙◌, arith, map, length, drop, nat_eq}
use Rattle.std.proofs.lemmas.List.{map-append}
use Rattle.std.proofs.lemmas.Bool.Decides.{nat_tests}
use Rattle.kid_value.specs.PlainSort.{PlainSort}
use Rattle.kid_value.specs.SortView.{plain_sort}
use Rattle.kid_value.specs.declared.sort.Sort.{Sort}
use Rattle.kid_value.specs.NameView.{plain_name}
use Rattle.kid_term.specs.DefView.{plain_def}
use Rattle.kid_term.specs.Names.{same_name, PlainDef, latest_over}
use Rattle.kid_term.specs.Sorted.{Sorted, Unknown, Kind}
use Rattle.kid_term.specs.Sorting.{fit_parameters, call_sort}
use Rattle.kid_term.specs.declared.definition.Def.{Def}
use Rattle.kid_term.specs.Definition.{first_named, definition_of}

latest_over-append : (known ds : List PlainDef) (d : PlainDef) → latest_over known (ds ++ d ∷ []) ≡ d ∷ latest_over known ds
latest_over-append known [] d = refl
latest_over-append known (e ∷ ds) d = latest_over-append (e ∷ known) ds d

definition_of-last : (f : List ℕ) (all earlier : List Def) (d : Def) → all ≡ earlier ++ d ∷ []
    → definition_of f (map plain_def all) ≡ cond (same_name f d.name) (Some (plain_def d)) (definition_of f (map plain_def earlier))
definition_of-last f all earlier d are =
    ap (λ ds. definition_of f (map plain_def ds)) are
    ∙ ap (definition_of f) (map-append plain_def earlier (d ∷ []))
    ∙ ap (first_named f) (latest_over-append [] (map plain_def earlier) (plain_def d))

-- the definition of a name is the last one, where that has the name, and else an earlier one
pub definition_of-here : (f : List ℕ) (all earlier : List Def) (d : Def) → all ≡ earlier ++ d ∷ [] → same_name f d.name ≡ true
    → definition_of f (map plain_def all) ≡ Some (plain_def d)
definition_of-here f all earlier d are e = definition_of-last f all earlier d are ∙ rw e refl

pub definition_of-earlier : (f : List ℕ) (all earlier : List Def) (d : Def) → all ≡ earlier ++ d ∷ [] → same_name f d.name ≡ false
    → definition_of f (map plain_def all) ≡ definition_of f (map plain_def earlier)
definition_of-earlier f all earlier d are e = definition_of-last f all earlier d are ∙ rw e refl

abbrev called : List PlainSort → PlainDef → Sorted
called ss d = cond (fit_parameters d.parameters ss) (Ok d.sort) (Err Kind)

call_sort-known : (f : List ℕ) (known : List PlainDef) (ss : List PlainSort) (d : PlainDef) → Some d ≡ first_named f known → call_sort f known ss ≡ called ss d
call_sort-known f [] ss d p = cc
call_sort-known f (e ∷ known) ss d p = by (same_name f e.name) p (λ q. call_sort-known f known ss d q)
  where
    by : (c : Bool) → Some d ≡ cond c (Some e) (first_named f known) → (Some d ≡ first_named f known → call_sort f known ss ≡ called ss d)
        → cond c (called ss e) (call_sort f known ss) ≡ called ss d
    by true q r = let same : e ≡ d = cc in ap (called ss) same
    by false q r = r q

-- a call has the declared sort where its arguments fit, and else is of a wrong kind
pub call_sort-fits : (f : List ℕ) (known : List PlainDef) (ss : List PlainSort) (d : PlainDef) (s : PlainSort) → Some d ≡ first_named f known
    → fit_parameters d.parameters ss ≡ true → d.sort ≡ s → call_sort f known ss ≡ Ok s
call_sort-fits f known ss d s p fit q = call_sort-known f known ss d p ∙ rw fit (λ i. Ok (q i))

pub call_sort-misfits : (f : List ℕ) (known : List PlainDef) (ss : List PlainSort) (d : PlainDef) → Some d ≡ first_named f known
    → fit_parameters d.parameters ss ≡ false → call_sort f known ss ≡ Err Kind
call_sort-misfits f known ss d p fit = call_sort-known f known ss d p ∙ rw fit refl

pub call_sort-unknown : (f : List ℕ) (known : List PlainDef) (ss : List PlainSort) → None ≡ first_named f known → call_sort f known ss ≡ Err Unknown
call_sort-unknown f [] ss p = refl
call_sort-unknown f (e ∷ known) ss p = by (same_name f e.name) p (λ q. call_sort-unknown f known ss q)
  where
    by : (c : Bool) → None ≡ cond c (Some e) (first_named f known) → (None ≡ first_named f known → call_sort f known ss ≡ Err Unknown)
        → cond c (called ss e) (call_sort f known ss) ≡ Err Unknown
    by true q r = cc
    by false q r = r q

same_test : (m n a b : ℕ) → a ≡ m + 1 → b ≡ n + 1 → nat_eq m n ≡ nat_eq a b
same_test m n a b p q = grind (arith, nat_tests)

more_than_none : (n : ℕ) → false ≡ nat_eq 0 (suc n)
more_than_none n = grind (arith, nat_tests)

-- beyond the last parameter there are no more sorts where there are as many
pub fit_parameters-rest : (ps : List (List ℕ × Sort)) (ss : List Sort) (i : ℕ) → i ≡ length ps → i ≤ length ss
    → fit_parameters (map plain_name (drop i ps)) (map plain_sort (drop i ss)) ≡ nat_eq (length ps) (length ss)
fit_parameters-rest [] [] zero p q = refl
fit_parameters-rest [] (s ∷ ss) zero p q = more_than_none (length ss)
fit_parameters-rest [] ss (suc i) p q = absurd (omega arith)
fit_parameters-rest (r ∷ ps) ss zero p q = absurd (omega arith)
fit_parameters-rest (r ∷ ps) [] (suc i) p q = absurd (omega arith)
fit_parameters-rest (r ∷ ps) (s ∷ ss) (suc i) p q =
    fit_parameters-rest ps ss i (omega arith) (omega arith) ∙ same_test (length ps) (length ss) (length (r ∷ ps)) (length (s ∷ ss)) (omega arith) (omega arith)
