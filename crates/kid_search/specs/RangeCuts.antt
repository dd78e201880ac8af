-- The cuts of an interval lose nothing.
use Rattle.std.specs.Prelude.{◌≡◌, ℕ, ℤ, Bool, true, false, List, [], ◌∷◌, map}
use Rattle.kid_value.specs.InSort.{in_sort}
use Rattle.kid_value.specs.PlainSort.{ints}
use Rattle.kid_value.specs.PlainValue.{PlainValue}
use Rattle.kid_term.specs.Eval.{Env, Calls, eval}
use Rattle.kid_term.specs.PlainTerm.{PlainTerm}
use Rattle.kid_term.specs.Substitution.{mentions}
use Rattle.kid_search.specs.CutBy.{has_cut, cut_by, cut_fact}
use Rattle.kid_search.specs.Pieces.{PlainPieces, space_of, at_descriptor, true_in, are_apart}
use Rattle.kid_search.specs.RangePieces.{range_components, range_pieces}
use Rattle.kid_search.specs.Space.{Descriptor}
use Rattle.kid_search.specs.SpaceLaws.{IsCut}
use Rattle.kid_search.specs.declared.cut_kind.CutKind.{CutKind}

module _ (calls : Calls) (input : Env) (z : List ℕ) (p : PlainPieces) where
  -- a cut by a term at a descriptor, and the fact that it takes
  abbrev pub cut_at : CutKind → PlainTerm → Descriptor → Descriptor
  cut_at kind c d = cut_by kind (map (λ n. n.1) p.components) (eval calls (at_descriptor calls input z p d) c) d

  abbrev pub fact_at : CutKind → PlainTerm → Descriptor → PlainValue → Bool
  fact_at kind c d v = true_in calls ((z, v) ∷ at_descriptor calls input z p d) (cut_fact kind p.components z c)

  abbrev pub is_good_in : Descriptor → Bool
  is_good_in d = let s = space_of calls input z p in s.is_good d

-- at each good descriptor, by a term whose value there is a number and in which the output does not stand
abbrev pub RangeCutsLoseNothing : Type 0
RangeCutsLoseNothing =
    (lo hi : ℤ) (l h z : List ℕ) (a b : PlainTerm) (calls : Calls) (input : Env) → are_apart (z ∷ l ∷ h ∷ []) ≡ true
    → (kind : CutKind) → has_cut kind (map (λ n. n.1) (range_components lo hi l h)) ≡ true → (c : PlainTerm) → mentions z c ≡ false
    → (x y : ℤ) (d : Descriptor) → is_good_in calls input z (range_pieces lo hi l h z a b) d ≡ true
    → in_sort (ints x y) (eval calls (at_descriptor calls input z (range_pieces lo hi l h z a b) d) c) ≡ true
    → IsCut (space_of calls input z (range_pieces lo hi l h z a b)) (in_sort (ints lo hi)) (fact_at calls input z (range_pieces lo hi l h z a b) kind c d) d
    (cut_at calls input z (range_pieces lo hi l h z a b) kind c d)
