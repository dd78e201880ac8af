-- The search of the maps over keys and values: a descriptor has the map so far, and for each open key its candidates.
use Rattle.std.specs.Prelude.{ℕ, pos, Bool, false, not, ◌&&◌, cond, List, [], ◌∷◌, Option, Some, None, map}
use Rattle.std.specs.Int.{int_gap}
use Rattle.kid_value.specs.Least.{least_value}
use Rattle.kid_value.specs.PlainSort.{PlainSort, sets, maps}
use Rattle.kid_value.specs.PlainValue.{PlainValue, map_of, no_entry}
use Rattle.kid_value.specs.Rows.Parts.{truth_of, number_of, members_of}
use Rattle.kid_value.specs.Rows.Logic.{and, eq}
use Rattle.kid_value.specs.Rows.Map.{dom, ran, get, put, drop, fill, submap, fits, narrow}
use Rattle.kid_value.specs.Rows.Set.{subset, union, inter, card, least}
use Rattle.kid_search.specs.Space.{Descriptor, Space, fit, all_true, no_members}

abbrev pub no_keys : PlainValue
no_keys = map_of no_entry

abbrev pub maps_kept : Descriptor → Bool
maps_kept (m ∷ p ∷ []) = truth_of (eq (inter (dom m) (dom p)) no_members)
maps_kept d = false

abbrev pub maps_satisfies : Descriptor → PlainValue → Bool
maps_satisfies (m ∷ p ∷ []) z = all_true (submap m z ∷ eq (dom z) (union (dom m) (dom p)) ∷ fits z p ∷ [])
maps_satisfies d z = false

abbrev pub maps_leaf : Descriptor → Option PlainValue
maps_leaf (m ∷ p ∷ []) = cond (truth_of (eq p no_keys)) (Some m) None
maps_leaf d = None

abbrev pub maps_by : PlainValue → PlainValue → PlainValue → List Descriptor
maps_by k m p = map (λ y. put m k y ∷ drop p k ∷ []) (members_of (get p k no_members))

abbrev pub maps_kids : PlainSort → Descriptor → List Descriptor
maps_kids a (m ∷ p ∷ []) = cond (not (truth_of (eq p no_keys))) (maps_by (least (dom p) (least_value a)) m p) []
maps_kids a d = []

abbrev pub maps_rank : Descriptor → ℕ
maps_rank (m ∷ p ∷ []) = int_gap (pos 0) (number_of (card (dom p)))
maps_rank d = 0

abbrev pub maps_space : PlainSort → PlainSort → Space
maps_space a b = record { is_good = λ d. fit (maps a b ∷ maps a (sets b) ∷ []) d && maps_kept d; satisfies = maps_satisfies; leaf = maps_leaf; kids = maps_kids a; rank = maps_rank }

-- the start, and the goal of a match
abbrev pub maps_start : PlainValue → PlainValue → Descriptor
maps_start ks vs = no_keys ∷ fill ks vs ∷ []

abbrev pub maps_goal : PlainValue → PlainValue → PlainValue → Bool
maps_goal ks vs z = truth_of (and (eq (dom z) ks) (subset (ran z) vs))

-- the cut, and the fact that it takes
abbrev pub maps_pool : PlainValue → Descriptor → Descriptor
maps_pool c (m ∷ p ∷ []) = m ∷ narrow p c ∷ []
maps_pool c d = d

abbrev pub fits_in : PlainValue → PlainValue → Bool
fits_in c z = truth_of (fits z c)
