-- The sorts of the operators on maps.
use Rattle.std.specs.Prelude.{List, [], ◌∷◌, Ok, Err}
use Rattle.kid_value.specs.PlainSort.{PlainSort, never, bools, sets, maps}
use Rattle.kid_value.specs.SortOrder.{join}
use Rattle.kid_term.specs.Sorted.{Kind, Sorted, allowed, with_one, with_two, with_three, with_set, with_map, with_join}
use Rattle.kid_term.specs.declared.operator.MapOp.{MapOp}
use Rattle.kid_term.specs.declared.operator.MapOp.TheVariants.{Map, Dom, Ran, Get, Put, Drop, Fill, Submap, Fits, Narrow}

-- no arguments
abbrev pub with_none : List PlainSort → Sorted → Sorted
with_none [] r = r
with_none (a ∷ ss) r = Err Kind

-- a value that may be a key of the map: the sorts of the keys and of the values, and that of the keys and the value
abbrev pub with_key : PlainSort → PlainSort → (PlainSort → PlainSort → PlainSort → Sorted) → Sorted
with_key m x k = with_map m (λ a b. with_join (join a x) (k a b))

-- two maps whose keys have a common sort: the first's sorts, and that of the second's values
abbrev pub two_maps : List PlainSort → (PlainSort → PlainSort → PlainSort → Sorted) → Sorted
two_maps ss k = with_two ss (λ m n. with_map m (λ a b. with_map n (λ c d. with_join (join a c) (λ _. k a b d))))

abbrev pub map_sort : MapOp → List PlainSort → Sorted
map_sort Map ss = with_none ss (Ok (maps never never))
map_sort Dom ss = with_one ss (λ m. with_map m (λ a b. allowed (sets a)))
map_sort Ran ss = with_one ss (λ m. with_map m (λ a b. allowed (sets b)))
map_sort Get ss = with_three ss (λ m x d. with_key m x (λ a b e. with_join (join b d) allowed))
map_sort Put ss = with_three ss (λ m x y. with_key m x (λ a b e. with_join (join b y) (λ v. allowed (maps e v))))
map_sort Drop ss = with_two ss (λ m x. with_key m x (λ a b e. allowed (maps a b)))
map_sort Fill ss = with_two ss (λ s x. with_set s (λ a. allowed (maps a x)))
map_sort Submap ss = two_maps ss (λ a b d. with_join (join b d) (λ _. Ok bools))
map_sort Fits ss = two_maps ss (λ a b d. with_set d (λ e. with_join (join b e) (λ _. Ok bools)))
map_sort Narrow ss = two_maps ss (λ a b d. with_set b (λ x. with_set d (λ y. with_join (join x y) (λ _. allowed (maps a b)))))
