-- The pieces of the search of an interval make its search space.
use Rattle.std.proofs.Common.{◌≡◌, ℕ, ℤ, pos, ◌+ℤ◌, ◌-ℤ◌, Bool, true, false, cond, List, [], ◌∷◌, Some, None, refl, sym, ap, ◌∙◌}
use Rattle.std.specs.Prelude.{◌&&◌}
use Rattle.std.specs.Int.{int_gap}
use Rattle.kid_value.specs.InSort.{in_sort}
use Rattle.kid_value.specs.Least.{least_value}
use Rattle.kid_value.specs.PlainSort.{PlainSort, ints, has_sort}
use Rattle.kid_value.specs.PlainValue.{PlainValue, int}
use Rattle.kid_value.specs.Rows.Parts.{truth_of, number_of}
use Rattle.kid_value.specs.Rows.Logic.{and, eq}
use Rattle.kid_value.specs.Rows.Number.{le, lt, add, sub, max}
use Rattle.kid_value.proofs.SortLemmas.{and_parts}
use Rattle.kid_term.specs.PlainTerm.{PlainTerm}
use Rattle.kid_term.specs.Eval.{Env, Calls, value_at, eval}
use Rattle.kid_search.specs.Space.{Descriptor, Space, fit, all_true}
use Rattle.kid_search.specs.SpaceLaws.{IsLawful}
use Rattle.kid_search.specs.Range.{half, range_kept, range_space, range_goal, range_start}
use Rattle.kid_search.proofs.BoolLemmas.{false_true}
use Rattle.kid_search.proofs.SameSpace.{SameAtGood, lawful-same, starts-same}
use Rattle.kid_search.proofs.RangeLaws.{range-lawful, range-starts}
use Rattle.kid_search.proofs.SetMeaning.{in_sort-parts}
use Rattle.kid_search.specs.Pieces.{space_of, is_goal}
use Rattle.kid_search.specs.RangePieces.{range_pieces, RangeIsLawful}
use Rattle.kid_search.proofs.JustOne.{just-one}
use Rattle.kid_search.proofs.ReadLemmas.{no_fit, no_end, found, passed, AreApart, apart, lacks_one}

module _ (lo hi : ℤ) (l h z : List ℕ) (a b : PlainTerm) (calls : Calls) (input : Env) (names : AreApart l h z) where
  abbrev made : Space
  made = space_of calls input z (range_pieces lo hi l h z a b)

  abbrev space : Space
  space = range_space lo hi

  abbrev low_sort : PlainSort
  low_sort = ints lo (hi +ℤ pos 1)

  abbrev high_sort : PlainSort
  high_sort = ints (lo -ℤ pos 1) hi

  abbrev env : PlainValue → PlainValue → Env
  env x y = (l, x) ∷ (h, y) ∷ input

  at_l : (x y : PlainValue) → value_at l (env x y) ≡ x
  at_l x y = found l x ((h, y) ∷ input)

  at_h : (x y : PlainValue) → value_at h (env x y) ≡ y
  at_h x y = passed h l x ((h, y) ∷ input) names.components ∙ found h y input

  good : (d : Descriptor) → made.is_good d ≡ space.is_good d
  good (x ∷ y ∷ []) = refl
  good [] = refl
  good (x ∷ []) = no_fit (in_sort low_sort x && false) _ _ (no_end (in_sort low_sort x) true)
  good (x ∷ y ∷ t ∷ ts) = no_fit (in_sort low_sort x && (in_sort high_sort y && false)) _ _ (no_end (in_sort low_sort x) (in_sort high_sort y))

  no : (d : Descriptor) → range_kept d ≡ false → space.is_good d ≡ true → ⊥
  no d e g = false_true (sym e ∙ (and_parts (fit (low_sort ∷ high_sort ∷ []) d) (range_kept d) g).1)

  satisfies : (d : Descriptor) (t : PlainValue) → space.is_good d ≡ true → in_sort (ints lo hi) t ≡ true → made.satisfies d t ≡ space.satisfies d t
  satisfies (x ∷ y ∷ []) t g i =
      let rl = passed l z t (env x y) names.first ∙ at_l x y in
      let rh = passed h z t (env x y) names.second ∙ at_h x y in
      let rz = found z t (env x y) in
      λ i. all_true (le (rl i) (rz i) ∷ le (rz i) (rh i) ∷ [])
  satisfies d t g i = absurd (no d refl g)

  leaf : (d : Descriptor) → space.is_good d ≡ true → made.leaf d ≡ space.leaf d
  leaf (x ∷ y ∷ []) g =
      (λ i. cond (truth_of (eq (at_l x y i) (at_h x y i))) (Some (cond (has_sort (ints lo hi) (at_l x y i)) (at_l x y i) (least_value (ints lo hi)))) None)
      ∙ by (truth_of (eq x y)) refl
    where
      by : (c : Bool) → truth_of (eq x y) ≡ c → cond c (Some (cond (has_sort (ints lo hi) x) x (least_value (ints lo hi)))) None ≡ cond c (Some x) None
      by true e =
          let r = range-lawful lo hi in
          let s = (in_sort-parts (ints lo hi) x (r.leaf_in_sort (x ∷ y ∷ []) x g (ap (λ c. cond c (Some x) None) e))).0 in
          ap (λ c. Some (cond c x (least_value (ints lo hi)))) s
      by false e = refl
  leaf d g = absurd (no d refl g)

  kids : (d : Descriptor) → space.is_good d ≡ true → made.kids d ≡ space.kids d
  kids (x ∷ y ∷ []) g =
      λ i. cond (truth_of (lt (at_l x y i) (at_h x y i)))
      ((at_l x y i ∷ half (at_l x y i) (at_h x y i) ∷ []) ∷ (add (half (at_l x y i) (at_h x y i)) (int (pos 1)) ∷ at_h x y i ∷ []) ∷ []) []
  kids d g = absurd (no d refl g)

  rank : (d : Descriptor) → space.is_good d ≡ true → made.rank d ≡ space.rank d
  rank (x ∷ y ∷ []) g = λ i. int_gap (pos 0) (number_of (max (int (pos 0)) (sub (at_h x y i) (at_l x y i))))
  rank d g = absurd (no d refl g)

  pub range-same : SameAtGood space made (in_sort (ints lo hi))
  range-same = record { good = good; satisfies = satisfies; leaf = leaf; kids = kids; rank = rank }

  pub pieces-lawful : IsLawful made (in_sort (ints lo hi))
  pieces-lawful = lawful-same space made (in_sort (ints lo hi)) (range-lawful lo hi) range-same

pub range_is_lawful : RangeIsLawful
range_is_lawful lo hi l h z a b calls input names la lb sa sb =
    let lawful = pieces-lawful lo hi l h z a b calls input (apart l h z names) in
    record {
      lawful = lawful;
      just_one = just-one (space_of calls input z (range_pieces lo hi l h z a b)) (in_sort (ints lo hi)) lawful;
      starts = starts-same (range_space lo hi) (space_of calls input z (range_pieces lo hi l h z a b)) (in_sort (ints lo hi))
          (range_goal (eval calls input a) (eval calls input b)) (is_goal calls input z (range_pieces lo hi l h z a b)) (range_start (eval calls input a) (eval calls input b))
          (range-same lo hi l h z a b calls input (apart l h z names)) (range-starts lo hi (eval calls input a) (eval calls input b) sa sb)
          (λ v i. truth_of (and (le (lacks_one calls z v input a la i) (found z v input i)) (le (found z v input i) (lacks_one calls z v input b lb i))));
    }
