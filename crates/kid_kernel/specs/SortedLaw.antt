-- Laws whose terms have sorts over the inputs and the variables.
use Rattle.std.specs.Prelude.{Bool, true, false, ◌&&◌, List, ◌++◌, Option, Some, None, is_some, Ok, Err, ◌≡◌}
use Rattle.std.specs.List.{list_all}
use Rattle.kid_value.specs.SortOrder.{join}
use Rattle.kid_value.specs.SortView.{plain_sort}
use Rattle.kid_value.specs.declared.sort.Sort.{Sort}
use Rattle.kid_term.specs.PlainTerm.{PlainTerm, var, number, truth, tag, app, bind, PlainTerms, no_term, term}
use Rattle.kid_term.specs.Names.{Names, PlainDef}
use Rattle.kid_term.specs.Sorted.{Sorted}
use Rattle.kid_term.specs.Sorting.{sort_of}
use Rattle.kid_sorting.specs.Declaring.{are_allowed, is_truth}
use Rattle.kid_term.specs.PlainLaw.{PlainConclusion, equal, holds, PlainLaw}

-- no binder stands in the term
abbrev mutual
  pub is_unbound : PlainTerm → Bool
  is_unbound (var x) = true
  is_unbound (number n) = true
  is_unbound (truth b) = true
  is_unbound (tag n) = true
  is_unbound (app h ts) = are_unbound ts
  is_unbound (bind b x s t) = false

  pub are_unbound : PlainTerms → Bool
  are_unbound no_term = true
  are_unbound (term t ts) = is_unbound t && are_unbound ts

-- a condition of a law: a truth value over the names, without a binder
abbrev pub is_condition : List PlainDef → Names → PlainTerm → Bool
is_condition defs names c = is_unbound c && is_truth (sort_of defs names c)

-- both sorts are there and have a common one
abbrev pub have_common : Sorted → Sorted → Bool
have_common (Ok a) (Ok b) = is_some (join a b)
have_common r s = false

abbrev pub is_sorted_conclusion : List PlainDef → Names → PlainConclusion → Bool
is_sorted_conclusion defs names (equal l r) = is_unbound l && is_unbound r && have_common (sort_of defs names l) (sort_of defs names r)
is_sorted_conclusion defs names (holds c) = is_condition defs names c

-- variables of allowed sorts, and conditions and a conclusion without binders that have sorts over the inputs and the variables
abbrev pub is_sorted_law : List PlainDef → Names → PlainLaw → Bool
is_sorted_law defs inputs l =
    are_allowed l.variables && list_all (is_condition defs (inputs ++ l.variables)) l.conditions
    && is_sorted_conclusion defs (inputs ++ l.variables) l.conclusion

-- the sort that there is, if there is one
abbrev pub Sorts : Option Sort → Sorted → Type 0
Sorts (Some s) there = there ≡ Ok (plain_sort s)
Sorts None (Ok s) = ⊥
Sorts None (Err fault) = Unit {0}
