-- From the order of what is under leaf and kids: a value is under just one of them.
use Rattle.std.proofs.Common.{◌≡◌, ℕ, ◌+◌, Bool, true, false, List, [], ◌∷◌, Option, Some, None, refl, sym, ap, ◌∙◌, subst, arith}
use Rattle.std.specs.Prelude.{◌||◌}
use Rattle.kid_value.specs.PlainValue.{PlainValue}
use Rattle.kid_value.specs.ValueOrder.{Before}
use Rattle.kid_value.proofs.ValueSetLaws.{value_cmp-itself, value_eq-true}
use Rattle.kid_search.specs.Space.{Descriptor, Space, is_leaf, any_satisfies}
use Rattle.kid_search.specs.SpaceLaws.{InOrder, IsLawful, how_many, is_one, IsJustOne}

not_before : (v : PlainValue) → Before v v → ⊥
not_before v b = let e = value_cmp-itself v in cc

-- one of two that are not both
either : (b c : Bool) (n : ℕ) → (b ≡ true → c ≡ true → ⊥) → n ≡ is_one c → is_one b + n ≡ is_one (b || c)
either true true n h e = absurd (h refl refl)
either true false n h e = omega (arith, e)
either false c n h e = omega (arith, e)

module _ (s : Space) (in_sort : PlainValue → Bool) (lawful : IsLawful s in_sort) where
  one_kid : (ds : List Descriptor) (v : PlainValue) → in_sort v ≡ true → InOrder s in_sort ds → how_many s ds v ≡ is_one (any_satisfies s ds v)
  one_kid [] v i o = refl
  one_kid (d ∷ ds) v i o = either (s.satisfies d v) (any_satisfies s ds v) (how_many s ds v) (λ h k. not_before v (o.0 v v i i h k)) (one_kid ds v i o.1)

  pub just-one : IsJustOne s in_sort
  just-one d v g i =
      either (is_leaf (s.leaf d) v) (any_satisfies s (s.kids d) v) (how_many s (s.kids d) v) (λ h k. by (s.leaf d) refl h k) (one_kid (s.kids d) v i (lawful.kids_in_order d g))
      ∙ ap is_one (sym (lawful.covers d v g i))
    where
      by : (o : Option PlainValue) → s.leaf d ≡ o → is_leaf o v ≡ true → any_satisfies s (s.kids d) v ≡ true → ⊥
      by None e h k = cc
      by (Some u) e h k =
          let same : v ≡ u = value_eq-true v u h in
          not_before v (subst (λ x. Before x v) (sym same) (lawful.leaf_first d u v g e i k))
