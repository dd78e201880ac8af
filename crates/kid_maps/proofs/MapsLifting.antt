-- The pieces of the search of maps make its search space.
use Rattle.std.proofs.Common.{◌≡◌, ℕ, pos, true, false, cond, List, [], ◌∷◌, map, Some, None, refl, sym, ap, ◌∙◌}
use Rattle.std.specs.Prelude.{not, ◌&&◌}
use Rattle.std.specs.Int.{int_gap}
use Rattle.std.specs.List.{flat_map}
use Rattle.kid_value.specs.InSort.{in_sort}
use Rattle.kid_value.specs.Least.{least_value}
use Rattle.kid_value.specs.PlainSort.{PlainSort, sets, maps}
use Rattle.kid_value.specs.PlainValue.{PlainValue}
use Rattle.kid_value.specs.Rows.Parts.{truth_of, number_of, members_of}
use Rattle.kid_value.specs.Rows.Logic.{and, eq}
use Rattle.kid_value.specs.Rows.Map as rows
use Rattle.kid_value.specs.Rows.Set.{union, inter, card}
use Rattle.kid_value.specs.Rows.Set as set_rows
use Rattle.kid_value.proofs.SortLemmas.{and_parts}
use Rattle.kid_term.specs.PlainTerm.{PlainTerm}
use Rattle.kid_term.specs.Eval.{Env, Calls, value_at, eval}
use Rattle.kid_search.specs.Space.{Descriptor, Space, fit, all_true, no_members}
use Rattle.kid_search.specs.SpaceLaws.{IsLawful}
use Rattle.kid_maps.specs.Maps.{no_keys, maps_kept, maps_space, maps_goal, maps_start}
use Rattle.kid_search.proofs.BoolLemmas.{false_true}
use Rattle.kid_search.proofs.JustOne.{just-one}
use Rattle.kid_search.proofs.SameSpace.{SameAtGood, lawful-same, starts-same}
use Rattle.kid_maps.proofs.MapsLaws.{maps-lawful, maps-starts}
use Rattle.kid_search.specs.Pieces.{space_of, is_goal, AreLawful}
use Rattle.kid_maps.specs.MapsPieces.{maps_pieces, MapsAreLawful}
use Rattle.kid_search.proofs.ReadLemmas.{no_fit, no_end, found, passed, over_pool, AreSeparate, separate, lacks_one}

module _ (a b : PlainSort) (least : PlainTerm) (m p y z : List ℕ) (ks vs : PlainTerm) (calls : Calls) (input : Env) (names : AreSeparate m p y z) (least_is : (env : Env) → eval calls env least ≡ least_value a) where
  abbrev made : Space
  made = space_of calls input z (maps_pieces a b least m p y z ks vs)

  abbrev space : Space
  space = maps_space a b

  abbrev env : PlainValue → PlainValue → Env
  env x q = (m, x) ∷ (p, q) ∷ input

  at_m : (x q : PlainValue) → value_at m (env x q) ≡ x
  at_m x q = found m x ((p, q) ∷ input)

  at_p : (x q : PlainValue) → value_at p (env x q) ≡ q
  at_p x q = passed p m x ((p, q) ∷ input) names.second_first ∙ found p q input

  good : (d : Descriptor) → made.is_good d ≡ space.is_good d
  good (x ∷ q ∷ []) = λ i. fit (maps a b ∷ maps a (sets b) ∷ []) (x ∷ q ∷ []) && truth_of (eq (inter (rows.dom (at_m x q i)) (rows.dom (at_p x q i))) no_members)
  good [] = refl
  good (x ∷ []) = no_fit (in_sort (maps a b) x && false) _ _ (no_end (in_sort (maps a b) x) true)
  good (x ∷ q ∷ t ∷ ts) = no_fit (in_sort (maps a b) x && (in_sort (maps a (sets b)) q && false)) _ _ (no_end (in_sort (maps a b) x) (in_sort (maps a (sets b)) q))

  no : (d : Descriptor) → maps_kept d ≡ false → space.is_good d ≡ true → ⊥
  no d e g = false_true (sym e ∙ (and_parts (fit (maps a b ∷ maps a (sets b) ∷ []) d) (maps_kept d) g).1)

  satisfies : (d : Descriptor) (t : PlainValue) → space.is_good d ≡ true → in_sort (maps a b) t ≡ true → made.satisfies d t ≡ space.satisfies d t
  satisfies (x ∷ q ∷ []) t g i =
      let rm = passed m z t (env x q) names.first_output ∙ at_m x q in
      let rp = passed p z t (env x q) names.second_output ∙ at_p x q in
      let rz = found z t (env x q) in
      λ i. all_true (rows.submap (rm i) (rz i) ∷ eq (rows.dom (rz i)) (union (rows.dom (rm i)) (rows.dom (rp i))) ∷ rows.fits (rz i) (rp i) ∷ [])
  satisfies d t g i = absurd (no d refl g)

  leaf : (d : Descriptor) → space.is_good d ≡ true → made.leaf d ≡ space.leaf d
  leaf (x ∷ q ∷ []) g = λ i. cond (truth_of (eq (at_p x q i) no_keys)) (Some (at_m x q i)) None
  leaf d g = absurd (no d refl g)

  abbrev key_of : PlainValue → PlainValue
  key_of q = set_rows.least (rows.dom q) (least_value a)

  -- what a kid's terms give
  abbrev each : Env → Descriptor
  each e = rows.put (value_at m e) (set_rows.least (rows.dom (value_at p e)) (eval calls e least)) (value_at y e) ∷ rows.drop (value_at p e) (set_rows.least (rows.dom (value_at p e)) (eval calls e least)) ∷ []

  kids : (d : Descriptor) → space.is_good d ≡ true → made.kids d ≡ space.kids d
  kids (x ∷ q ∷ []) g =
      (λ i. cond (not (truth_of (eq (at_p x q i) no_keys))) (flat_map (λ e. each e ∷ []) (map (λ t. (y, t) ∷ env x q) (members_of (rows.get (at_p x q i) (set_rows.least (rows.dom (at_p x q i)) (least_is (env x q) i)) no_members)))) [])
      ∙ ap (λ ds. cond (not (truth_of (eq q no_keys))) ds [])
      (over_pool (λ t. (y, t) ∷ env x q) each (λ t. rows.put x (key_of q) t ∷ rows.drop q (key_of q) ∷ []) (members_of (rows.get q (key_of q) no_members)) (λ t n.
      let rm = passed m y t (env x q) names.first_branch ∙ at_m x q in
      let rp = passed p y t (env x q) names.second_branch ∙ at_p x q in
      let ry = found y t (env x q) in
      let rl = least_is ((y, t) ∷ env x q) in
      λ i. rows.put (rm i) (set_rows.least (rows.dom (rp i)) (rl i)) (ry i) ∷ rows.drop (rp i) (set_rows.least (rows.dom (rp i)) (rl i)) ∷ []))
  kids d g = absurd (no d refl g)

  rank : (d : Descriptor) → space.is_good d ≡ true → made.rank d ≡ space.rank d
  rank (x ∷ q ∷ []) g = λ i. int_gap (pos 0) (number_of (card (rows.dom (at_p x q i))))
  rank d g = absurd (no d refl g)

  same : SameAtGood (maps_space a b) made (in_sort (maps a b))
  same = record { good = good; satisfies = satisfies; leaf = leaf; kids = kids; rank = rank }

  pub pieces-lawful : IsLawful made (in_sort (maps a b))
  pieces-lawful = lawful-same (maps_space a b) made (in_sort (maps a b)) (maps-lawful a b) same

pub maps_are_lawful : MapsAreLawful
maps_are_lawful a b least m p y z ks vs calls input least_is names lk lv sk sv =
    let made = space_of calls input z (maps_pieces a b least m p y z ks vs) in
    let n = separate m p y z names in
    let lawful = pieces-lawful a b least m p y z ks vs calls input n least_is in
    record {
      lawful = lawful;
      just_one = just-one made (in_sort (maps a b)) lawful;
      starts = starts-same (maps_space a b) made (in_sort (maps a b)) (maps_goal (eval calls input ks) (eval calls input vs)) (is_goal calls input z (maps_pieces a b least m p y z ks vs))
          (maps_start (eval calls input ks) (eval calls input vs))
          (same a b least m p y z ks vs calls input n least_is) (maps-starts a b (eval calls input ks) (eval calls input vs) sk sv)
          (λ x i. truth_of (and (eq (rows.dom (found z x input i)) (lacks_one calls z x input ks lk i)) (set_rows.subset (rows.ran (found z x input i)) (lacks_one calls z x input vs lv i))));
    }
