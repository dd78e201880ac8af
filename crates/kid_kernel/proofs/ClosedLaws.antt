-- The laws of a theory name their variables and the inputs alone.
use Rattle.std.proofs.Common.{◌≡◌, ℕ, Bool, true, false, List, [], ◌∷◌, ◌++◌, Ok, Err, refl, sym, ◌∙◌}
use Rattle.std.specs.Prelude.{◌&&◌, ◌||◌}
use Rattle.std.specs.List.{list_all}
use Rattle.kid_value.specs.PlainSort.{PlainSort, never, bools, ints, pairs, sets, seqs, maps, enums}
use Rattle.kid_value.proofs.SortLemmas.{and_parts}
use Rattle.kid_term.specs.PlainTerm.{PlainTerm}
use Rattle.kid_term.specs.PlainLaw.{PlainConclusion, equal, holds, PlainLaw}
use Rattle.kid_term.specs.Names.{Names, PlainDef, is_named}
use Rattle.kid_term.specs.Sorted.{Sorted}
use Rattle.kid_term.specs.Sorting.{sort_of}
use Rattle.kid_sorting.specs.Declaring.{are_allowed, is_truth}
use Rattle.kid_sorting.proofs.NewNames.{is_named_append}
use Rattle.kid_scope.specs.Cases.{IsClosed, AllClosed, said_by, LawsClosed}
use Rattle.kid_scope.proofs.ClosedSorts.{sorted-closed}
use Rattle.kid_kernel.specs.SortedLaw.{is_unbound, is_condition, have_common, is_sorted_conclusion, is_sorted_law}

or_turned : (b c : Bool) → (b || c) ≡ (c || b)
or_turned true true = refl
or_turned true false = refl
or_turned false true = refl
or_turned false false = refl

-- names in another order
turned : (y : List ℕ) (xs ys : Names) → is_named y (xs ++ ys) ≡ is_named y (ys ++ xs)
turned y xs ys = is_named_append y xs ys ∙ or_turned (is_named y xs) (is_named y ys) ∙ sym (is_named_append y ys xs)

truth_there : (r : Sorted) → is_truth r ≡ true → r ≡ Ok bools
truth_there (Ok bools) p = refl
truth_there (Ok never) p = cc
truth_there (Ok (ints a b)) p = cc
truth_there (Ok (pairs a b)) p = cc
truth_there (Ok (sets a)) p = cc
truth_there (Ok (seqs a n)) p = cc
truth_there (Ok (maps a b)) p = cc
truth_there (Ok (enums ns)) p = cc
truth_there (Err f) p = cc

-- both sorts are there
both_there : (r q : Sorted) → have_common r q ≡ true → (s s' : PlainSort) × (r ≡ Ok s) × (q ≡ Ok s')
both_there (Ok s) (Ok s') p = (s, s', refl, refl)
both_there (Ok s) (Err f) p = cc
both_there (Err f) q p = cc

module _ (defs : List PlainDef) (inputs vs : Names) where
  over_both : (t : PlainTerm) (s : PlainSort) → sort_of defs (inputs ++ vs) t ≡ Ok s → IsClosed (vs ++ inputs) t
  over_both t s p y m = turned y vs inputs ∙ sorted-closed defs (inputs ++ vs) t s p y m

  condition_closed : (c : PlainTerm) → is_condition defs (inputs ++ vs) c ≡ true → IsClosed (vs ++ inputs) c
  condition_closed c p = over_both c bools (truth_there (sort_of defs (inputs ++ vs) c) (and_parts (is_unbound c) (is_truth (sort_of defs (inputs ++ vs) c)) p).1)

  conditions_closed : (cs : List PlainTerm) → list_all (is_condition defs (inputs ++ vs)) cs ≡ true → AllClosed (vs ++ inputs) cs
  conditions_closed [] p = tt
  conditions_closed (c ∷ cs) p =
      let r = and_parts (is_condition defs (inputs ++ vs) c) (list_all (is_condition defs (inputs ++ vs)) cs) p in
      (condition_closed c r.0, conditions_closed cs r.1)

  conclusion_closed : (c : PlainConclusion) → is_sorted_conclusion defs (inputs ++ vs) c ≡ true → AllClosed (vs ++ inputs) (said_by c)
  conclusion_closed (equal l r) p =
      let common = have_common (sort_of defs (inputs ++ vs) l) (sort_of defs (inputs ++ vs) r) in
      let q = both_there (sort_of defs (inputs ++ vs) l) (sort_of defs (inputs ++ vs) r) (and_parts (is_unbound l && is_unbound r) common p).1 in
      (over_both l q.0 q.2, (over_both r q.1 q.3, tt))
  conclusion_closed (holds c) p = (condition_closed c p, tt)

-- laws that are sorted over the inputs and their variables name these alone
pub laws_closed : (defs : List PlainDef) (inputs : Names) (laws : List PlainLaw) → list_all (is_sorted_law defs inputs) laws ≡ true → LawsClosed inputs laws
laws_closed defs inputs [] p = tt
laws_closed defs inputs (l ∷ laws) p =
    let r = and_parts (is_sorted_law defs inputs l) (list_all (is_sorted_law defs inputs) laws) p in
    let of_conclusion = is_sorted_conclusion defs (inputs ++ l.variables) l.conclusion in
    let q = and_parts (are_allowed l.variables && list_all (is_condition defs (inputs ++ l.variables)) l.conditions) of_conclusion r.0 in
    let w = and_parts (are_allowed l.variables) (list_all (is_condition defs (inputs ++ l.variables)) l.conditions) q.0 in
    ((conditions_closed defs inputs l.variables l.conditions w.1, conclusion_closed defs inputs l.variables l.conclusion q.1), laws_closed defs inputs laws r.1)
