-- The search of the subsets of a set: a descriptor has the members taken, and those still open.
use Rattle.std.specs.Prelude.{ℕ, pos, Bool, false, not, ◌&&◌, cond, List, [], ◌∷◌, Option, Some, None}
use Rattle.std.specs.Int.{int_gap}
use Rattle.kid_value.specs.Least.{least_value}
use Rattle.kid_value.specs.PlainSort.{PlainSort, sets}
use Rattle.kid_value.specs.PlainValue.{PlainValue}
use Rattle.kid_value.specs.Rows.Parts.{truth_of, number_of}
use Rattle.kid_value.specs.Rows.Logic.{eq}
use Rattle.kid_value.specs.Rows.Set.{subset, union, inter, diff, with, without, card, least}
use Rattle.kid_search.specs.Space.{no_members, Descriptor, Space, fit, all_true}

abbrev pub subsets_kept : Descriptor → Bool
subsets_kept (u ∷ w ∷ []) = truth_of (eq (inter u w) no_members)
subsets_kept d = false

abbrev pub subsets_satisfies : Descriptor → PlainValue → Bool
subsets_satisfies (u ∷ w ∷ []) z = all_true (subset u z ∷ subset z (union u w) ∷ [])
subsets_satisfies d z = false

abbrev pub subsets_leaf : Descriptor → Option PlainValue
subsets_leaf (u ∷ w ∷ []) = cond (truth_of (eq w no_members)) (Some u) None
subsets_leaf d = None

abbrev pub subsets_by : PlainValue → PlainValue → PlainValue → List Descriptor
subsets_by c u w = (u ∷ without c w ∷ []) ∷ (with c u ∷ without c w ∷ []) ∷ []

abbrev pub subsets_kids : PlainSort → Descriptor → List Descriptor
subsets_kids a (u ∷ w ∷ []) = cond (not (truth_of (eq w no_members))) (subsets_by (least w (least_value a)) u w) []
subsets_kids a d = []

abbrev pub subsets_rank : Descriptor → ℕ
subsets_rank (u ∷ w ∷ []) = int_gap (pos 0) (number_of (card w))
subsets_rank d = 0

abbrev pub subsets_space : PlainSort → Space
subsets_space a = record { is_good = λ d. fit (sets a ∷ sets a ∷ []) d && subsets_kept d; satisfies = subsets_satisfies; leaf = subsets_leaf; kids = subsets_kids a; rank = subsets_rank }

-- the start, and the goal of a match
abbrev pub subsets_start : PlainValue → Descriptor
subsets_start s = no_members ∷ s ∷ []

abbrev pub subsets_goal : PlainValue → PlainValue → Bool
subsets_goal s z = truth_of (subset z s)

-- the cuts, and the facts that they take
abbrev pub subsets_drop : PlainValue → Descriptor → Descriptor
subsets_drop c (u ∷ w ∷ []) = u ∷ diff w c ∷ []
subsets_drop c d = d

abbrev pub is_apart : PlainValue → PlainValue → Bool
is_apart c z = truth_of (eq (inter z c) no_members)

abbrev pub subsets_take : PlainValue → Descriptor → Descriptor
subsets_take c (u ∷ w ∷ []) = union u (inter w c) ∷ diff w c ∷ []
subsets_take c d = d

abbrev pub is_within : PlainValue → PlainValue → Bool
is_within c z = truth_of (subset c z)
