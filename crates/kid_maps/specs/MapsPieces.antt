-- The pieces of the search of maps, and what holds of them.
use Rattle.std.specs.Prelude.{◌≡◌, ℕ, true, List, [], ◌∷◌, Some}
use Rattle.kid_value.specs.InSort.{in_sort}
use Rattle.kid_value.specs.Least.{least_value}
use Rattle.kid_value.specs.PlainSort.{PlainSort, sets, maps}
use Rattle.kid_term.specs.PlainTerm.{PlainTerm, var}
use Rattle.kid_term.specs.Eval.{Env, Calls, eval}
use Rattle.kid_term.specs.declared.operator.LogicOp.TheVariants.{Not, And, Eq}
use Rattle.kid_term.specs.declared.operator.MapOp.TheVariants.{Map, Dom, Ran, Get, Put, Drop, Fill, Submap, Fits}
use Rattle.kid_term.specs.declared.operator.SetOp.TheVariants.{Set, Subset, Union, Inter, Card, Least}
use Rattle.kid_search.specs.Operators.{on_sets, on_truths, on_maps}
use Rattle.kid_search.specs.Pieces.{PlainPieces, AreLawful, lacks, are_apart}

-- maps from keys of the sort a, of which `least` has the least value, to values of the sort b
module _ (a b : PlainSort) (least : PlainTerm) (m p y z : List ℕ) (ks vs : PlainTerm) where
  abbrev key : PlainTerm
  key = on_sets Least (on_maps Dom (var p ∷ []) ∷ least ∷ [])

  abbrev no_open : PlainTerm
  no_open = on_truths Eq (var p ∷ on_maps Map [] ∷ [])

  -- maps of all keys of ks to values of vs: a descriptor has the map so far, and for each open key its candidates
  abbrev pub maps_pieces : PlainPieces
  maps_pieces = record {
    components = (m, maps a b) ∷ (p, maps a (sets b)) ∷ [];
    start = on_maps Map [] ∷ on_maps Fill (ks ∷ vs ∷ []) ∷ [];
    inv = on_truths Eq (on_sets Inter (on_maps Dom (var m ∷ []) ∷ on_maps Dom (var p ∷ []) ∷ []) ∷ on_sets Set [] ∷ []);
    sat = on_maps Submap (var m ∷ var z ∷ [])
        ∷ on_truths Eq (on_maps Dom (var z ∷ []) ∷ on_sets Union (on_maps Dom (var m ∷ []) ∷ on_maps Dom (var p ∷ []) ∷ []) ∷ [])
        ∷ on_maps Fits (var z ∷ var p ∷ []) ∷ [];
    goal = on_truths And (on_truths Eq (on_maps Dom (var z ∷ []) ∷ ks ∷ []) ∷ on_sets Subset (on_maps Ran (var z ∷ []) ∷ vs ∷ []) ∷ []);
    leaf_guard = no_open;
    leaf = var m;
    kid_guard = on_truths Not (no_open ∷ []);
    branch = Some record { name = y; sort = b; pool = on_maps Get (var p ∷ key ∷ on_sets Set [] ∷ []) };
    kids = (on_maps Put (var m ∷ key ∷ var y ∷ []) ∷ on_maps Drop (var p ∷ key ∷ []) ∷ []) ∷ [];
    measure = on_sets Card (on_maps Dom (var p ∷ []) ∷ []);
  }

-- where the names differ, the output stands in neither set, and both have values of their sorts
abbrev pub MapsAreLawful : Type 0
MapsAreLawful =
    (a b : PlainSort) (least : PlainTerm) (m p y z : List ℕ) (ks vs : PlainTerm) (calls : Calls) (input : Env) → ((env : Env) → eval calls env least ≡ least_value a)
    → are_apart (z ∷ y ∷ m ∷ p ∷ []) ≡ true → lacks ks (z ∷ []) ≡ true → lacks vs (z ∷ []) ≡ true
    → in_sort (sets a) (eval calls input ks) ≡ true → in_sort (sets b) (eval calls input vs) ≡ true
    → AreLawful calls input z (maps_pieces a b least m p y z ks vs) (maps a b)
