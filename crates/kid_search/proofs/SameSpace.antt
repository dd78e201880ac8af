-- A space that is as a lawful one at good descriptors is lawful.
use Rattle.std.proofs.Common.{◌≡◌, ℕ, ◌<◌, Bool, true, List, [], ◌∷◌, refl, sym, ap, ◌∙◌, subst}
use Rattle.std.specs.Prelude.{◌||◌}
use Rattle.kid_value.specs.PlainValue.{PlainValue}
use Rattle.kid_search.specs.Space.{Descriptor, Space, is_leaf, any_satisfies}
use Rattle.kid_search.specs.SpaceLaws.{InOrder, AllFall, IsLawful, Starts}

-- the second space is as the first at good descriptors, for values of the sort
pub record SameAtGood (s t : Space) (in_sort : PlainValue → Bool) : Type 0 where
  pub good : (d : Descriptor) → t.is_good d ≡ s.is_good d
  pub satisfies : (d : Descriptor) (v : PlainValue) → s.is_good d ≡ true → in_sort v ≡ true → t.satisfies d v ≡ s.satisfies d v
  pub leaf : (d : Descriptor) → s.is_good d ≡ true → t.leaf d ≡ s.leaf d
  pub kids : (d : Descriptor) → s.is_good d ≡ true → t.kids d ≡ s.kids d
  pub rank : (d : Descriptor) → s.is_good d ≡ true → t.rank d ≡ s.rank d

module _ (s t : Space) (in_sort : PlainValue → Bool) (lawful : IsLawful s in_sort) (same : SameAtGood s t in_sort) where
  any_same : (n : ℕ) (ds : List Descriptor) (v : PlainValue) → AllFall s in_sort n ds → in_sort v ≡ true → any_satisfies t ds v ≡ any_satisfies s ds v
  any_same n [] v f i = refl
  any_same n (d ∷ ds) v f i = λ j. same.satisfies d v f.0 i j || any_same n ds v f.2 i j

  falls_same : (n : ℕ) (ds : List Descriptor) → AllFall s in_sort n ds → AllFall t in_sort n ds
  falls_same n [] f = tt
  falls_same n (d ∷ ds) f = (same.good d ∙ f.0, subst (λ z. z < n) (sym (same.rank d f.0)) f.1, falls_same n ds f.2)

  order_same : (n : ℕ) (ds : List Descriptor) → AllFall s in_sort n ds → InOrder s in_sort ds → InOrder t in_sort ds
  order_same n [] f o = tt
  order_same n (d ∷ ds) f o =
      (λ v w i j a b. o.0 v w i j (sym (same.satisfies d v f.0 i) ∙ a) (sym (any_same n ds w f.2 j) ∙ b), order_same n ds f.2 o.1)

  pub lawful-same : IsLawful t in_sort
  lawful-same = record {
    covers = λ d v g i. let h = sym (same.good d) ∙ g in
        same.satisfies d v h i ∙ lawful.covers d v h i
        ∙ (λ j. is_leaf (sym (same.leaf d h) j) v || sym (any_same (s.rank d) (s.kids d) v (lawful.kids_fall d h) i) j)
        ∙ ap (λ ks. is_leaf (t.leaf d) v || any_satisfies t ks v) (sym (same.kids d h));
    leaf_in_sort = λ d v g e. let h = sym (same.good d) ∙ g in lawful.leaf_in_sort d v h (sym (same.leaf d h) ∙ e);
    leaf_first = λ d v w g e i a. let h = sym (same.good d) ∙ g in
        lawful.leaf_first d v w h (sym (same.leaf d h) ∙ e) i
        (sym (any_same (s.rank d) (s.kids d) w (lawful.kids_fall d h) i) ∙ ap (λ ks. any_satisfies t ks w) (sym (same.kids d h)) ∙ a);
    kids_in_order = λ d g. let h = sym (same.good d) ∙ g in
        subst (λ ks. InOrder t in_sort ks) (sym (same.kids d h)) (order_same (s.rank d) (s.kids d) (lawful.kids_fall d h) (lawful.kids_in_order d h));
    kids_fall = λ d g. let h = sym (same.good d) ∙ g in
        subst (λ ks. AllFall t in_sort (t.rank d) ks) (sym (same.kids d h)) (subst (λ n. AllFall t in_sort n (s.kids d)) (sym (same.rank d h)) (falls_same (s.rank d) (s.kids d) (lawful.kids_fall d h)));
  }

-- and what starts in the first starts in it
pub starts-same : (s t : Space) (in_sort goal goal' : PlainValue → Bool) (start : Descriptor) → SameAtGood s t in_sort → Starts s in_sort goal start
    → ((v : PlainValue) → goal' v ≡ goal v) → Starts t in_sort goal' start
starts-same s t in_sort goal goal' start same starts goals = record {
  good = same.good start ∙ starts.good;
  holds_all = λ v i g. same.satisfies start v starts.good i ∙ starts.holds_all v i (sym (goals v) ∙ g);
}
