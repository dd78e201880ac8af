-- Names that are declared, and the rules that a definition meets.
use Rattle.std.specs.Prelude.{ℕ, nat_le, Bool, true, false, not, ◌&&◌, List, [], ◌∷◌, ◌++◌, Ok, Err}
use Rattle.kid_value.specs.PlainSort.{PlainSort, bools}
use Rattle.kid_value.specs.SortOrder.{is_subsort}
use Rattle.kid_value.specs.SortLimits.{is_allowed}
use Rattle.kid_term.specs.Names.{Names, same_name, is_named, PlainDef}
use Rattle.kid_term.specs.Sorted.{Sorted}
use Rattle.kid_term.specs.Sorting.{sort_of}
use Rattle.kid_term.specs.CallDepth.{body_depth, depths_of}

-- a name that none of these has
abbrev pub is_new : Names → List ℕ → Bool
is_new taken x = not (is_named x taken)

-- names that none of these has, nor two of them
abbrev pub are_new : Names → Names → Bool
are_new taken [] = true
are_new taken (n ∷ ns) = is_new taken n.0 && are_new (taken ++ n ∷ []) ns

abbrev pub are_allowed : Names → Bool
are_allowed [] = true
are_allowed (n ∷ ns) = is_allowed n.1 && are_allowed ns

-- a further name, which is the last to be looked for
abbrev pub with_name : Names → List ℕ → PlainSort → Names
with_name names x s = names ++ (x, s) ∷ []

abbrev pub is_truth : Sorted → Bool
is_truth (Ok bools) = true
is_truth r = false

-- the term's sort lies within this one
abbrev pub is_within : PlainSort → Sorted → Bool
is_within s (Ok a) = is_subsort a s
is_within s (Err fault) = false

-- ---- definitions

-- allowed sorts, and a body that lies within the declared sort, over the parameters alone and the definitions before
abbrev pub is_sorted_definition : List PlainDef → PlainDef → Bool
is_sorted_definition defs d = are_allowed d.parameters && is_allowed d.sort && is_within d.sort (sort_of defs d.parameters d.body)

-- calls do not go deeper than 16
abbrev pub is_shallow : List PlainDef → PlainDef → Bool
is_shallow defs d = nat_le (body_depth (depths_of defs) d.body) 16

-- no definition has the name
abbrev pub is_undefined : List ℕ → List PlainDef → Bool
is_undefined f [] = true
is_undefined f (d ∷ ds) = not (same_name f d.name) && is_undefined f ds
