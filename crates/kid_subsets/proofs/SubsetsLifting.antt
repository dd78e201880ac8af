-- The pieces of the search of subsets make its search space.
use Rattle.std.proofs.Common.{◌≡◌, ℕ, pos, true, false, cond, List, [], ◌∷◌, Some, None, refl, sym, ◌∙◌}
use Rattle.std.specs.Prelude.{not, ◌&&◌}
use Rattle.std.specs.Int.{int_gap}
use Rattle.kid_value.specs.InSort.{in_sort}
use Rattle.kid_value.specs.Least.{least_value}
use Rattle.kid_value.specs.PlainSort.{PlainSort, sets}
use Rattle.kid_value.specs.PlainValue.{PlainValue}
use Rattle.kid_value.specs.Rows.Parts.{truth_of, number_of}
use Rattle.kid_value.specs.Rows.Logic.{eq}
use Rattle.kid_value.specs.Rows.Set as rows
use Rattle.kid_term.specs.PlainTerm.{PlainTerm}
use Rattle.kid_term.specs.Eval.{Env, Calls, value_at, eval}
use Rattle.kid_search.specs.Space.{Descriptor, Space, fit, all_true, no_members}
use Rattle.kid_search.specs.SpaceLaws.{IsLawful}
use Rattle.kid_subsets.specs.Subsets.{subsets_kept, subsets_space, subsets_by, subsets_goal, subsets_start}
use Rattle.kid_value.proofs.SortLemmas.{and_parts}
use Rattle.kid_search.proofs.BoolLemmas.{false_true}
use Rattle.kid_search.proofs.JustOne.{just-one}
use Rattle.kid_search.proofs.SameSpace.{SameAtGood, lawful-same, starts-same}
use Rattle.kid_subsets.proofs.SubsetsLaws.{subsets-lawful, subsets-starts}
use Rattle.kid_search.specs.Pieces.{space_of, is_goal, AreLawful}
use Rattle.kid_subsets.specs.SubsetsPieces.{subsets_pieces, SubsetsAreLawful}
use Rattle.kid_search.proofs.ReadLemmas.{AreApart, no_fit, no_end, found, passed, apart, lacks_one}

module _ (a : PlainSort) (least : PlainTerm) (u w z : List ℕ) (s : PlainTerm) (calls : Calls) (input : Env) (names : AreApart u w z) (least_is : (env : Env) → eval calls env least ≡ least_value a) where
  abbrev made : Space
  made = space_of calls input z (subsets_pieces a least u w z s)

  abbrev env : PlainValue → PlainValue → Env
  env x y = (u, x) ∷ (w, y) ∷ input

  at_u : (x y : PlainValue) → value_at u (env x y) ≡ x
  at_u x y = found u x ((w, y) ∷ input)

  at_w : (x y : PlainValue) → value_at w (env x y) ≡ y
  at_w x y = passed w u x ((w, y) ∷ input) names.components ∙ found w y input

  pub good : (d : Descriptor) → made.is_good d ≡ (subsets_space a).is_good d
  good (x ∷ y ∷ []) = λ i. fit (sets a ∷ sets a ∷ []) (x ∷ y ∷ []) && truth_of (eq (rows.inter (at_u x y i) (at_w x y i)) no_members)
  good [] = refl
  good (x ∷ []) = no_fit (in_sort (sets a) x && false) _ _ (no_end (in_sort (sets a) x) true)
  good (x ∷ y ∷ t ∷ ts) = no_fit (in_sort (sets a) x && (in_sort (sets a) y && false)) _ _ (no_end (in_sort (sets a) x) (in_sort (sets a) y))

  no : (d : Descriptor) → subsets_kept d ≡ false → (subsets_space a).is_good d ≡ true → ⊥
  no d e g = false_true (sym e ∙ (and_parts (fit (sets a ∷ sets a ∷ []) d) (subsets_kept d) g).1)

  pub same : SameAtGood (subsets_space a) made (in_sort (sets a))
  same = record {
    good = good;
    satisfies = satisfies;
    leaf = leaf;
    kids = kids;
    rank = rank;
  }
    where
      satisfies : (d : Descriptor) (v : PlainValue) → (subsets_space a).is_good d ≡ true → in_sort (sets a) v ≡ true → made.satisfies d v ≡ (subsets_space a).satisfies d v
      satisfies (x ∷ y ∷ []) v g i =
          let ru = passed u z v (env x y) names.first ∙ at_u x y in
          let rw' = passed w z v (env x y) names.second ∙ at_w x y in
          let rz = found z v (env x y) in
          λ i. all_true (rows.subset (ru i) (rz i) ∷ rows.subset (rz i) (rows.union (ru i) (rw' i)) ∷ [])
      satisfies d v g i = absurd (no d refl g)

      leaf : (d : Descriptor) → (subsets_space a).is_good d ≡ true → made.leaf d ≡ (subsets_space a).leaf d
      leaf (x ∷ y ∷ []) g = λ i. cond (truth_of (eq (at_w x y i) no_members)) (Some (at_u x y i)) None
      leaf d g = absurd (no d refl g)

      kids : (d : Descriptor) → (subsets_space a).is_good d ≡ true → made.kids d ≡ (subsets_space a).kids d
      kids (x ∷ y ∷ []) g = λ i. cond (not (truth_of (eq (at_w x y i) no_members))) (subsets_by (rows.least (at_w x y i) (least_is (env x y) i)) (at_u x y i) (at_w x y i)) []
      kids d g = absurd (no d refl g)

      rank : (d : Descriptor) → (subsets_space a).is_good d ≡ true → made.rank d ≡ (subsets_space a).rank d
      rank (x ∷ y ∷ []) g = λ i. int_gap (pos 0) (number_of (rows.card (at_w x y i)))
      rank d g = absurd (no d refl g)

  pub pieces-lawful : IsLawful made (in_sort (sets a))
  pieces-lawful = lawful-same (subsets_space a) made (in_sort (sets a)) (subsets-lawful a) same

pub subsets_are_lawful : SubsetsAreLawful
subsets_are_lawful a least u w z s calls input least_is names lack sorted =
    let made = space_of calls input z (subsets_pieces a least u w z s) in
    let lawful = pieces-lawful a least u w z s calls input (apart u w z names) least_is in
    record {
      lawful = lawful;
      just_one = just-one made (in_sort (sets a)) lawful;
      starts = starts-same (subsets_space a) made (in_sort (sets a)) (subsets_goal (eval calls input s)) (is_goal calls input z (subsets_pieces a least u w z s)) (subsets_start (eval calls input s))
          (same a least u w z s calls input (apart u w z names) least_is) (subsets-starts a (eval calls input s) sorted)
          (λ v i. truth_of (rows.subset (found z v input i) (lacks_one calls z v input s lack i)));
    }
