-- The values of the operators on truth values have their sorts.
use Rattle.std.proofs.Common.{◌≡◌, Bool, true, false, List, [], ◌∷◌, Some, Ok, refl, sym, ap, ◌∙◌, cond, subst}
use Rattle.std.specs.Prelude.{not, ◌&&◌, ◌||◌}
use Rattle.kid_value.specs.PlainValue.{PlainValue, bool}
use Rattle.kid_value.specs.PlainSort.{PlainSort, bools, has_sort}
use Rattle.kid_value.specs.SortOrder.{is_subsort, join}
use Rattle.kid_value.specs.SortLimits.{is_allowed}
use Rattle.kid_value.specs.ValueSet.{value_eq}
use Rattle.kid_value.specs.Join.{IsJoin}
use Rattle.kid_value.proofs.JoinLemmas.{join-is}
use Rattle.kid_value.proofs.SortLemmas.{has_sort-subsort}
use Rattle.kid_term.specs.declared.operator.LogicOp.{LogicOp}
use Rattle.kid_term.specs.declared.operator.LogicOp.TheVariants.{Not, And, Or, Implies, If, Eq}
use Rattle.kid_term.specs.LogicRows.{logic_value}
use Rattle.kid_term.specs.Sorted.{allowed, with_bool, with_join}
use Rattle.kid_term.specs.LogicSorts.{logic_sort, two_bools}
use Rattle.kid_term.specs.Fitting.{IsOfSort, AreOfSorts}
use Rattle.kid_term.proofs.Inversions.{ok, ok_same, allowed_ok, with_one_ok, with_two_ok, with_three_ok, with_bool_ok, with_join_ok, one_value, two_values, three_values, bool_of}

-- what an operator's sort says of its value
pub record Sound (s : PlainSort) (v : PlainValue) : Type 0 where
  pub of_sort : IsOfSort s v
  pub sort_allowed : is_allowed s ≡ true

pub truth_sound : (b : Bool) (s : PlainSort) → ok bools ≡ Ok s → Sound s (bool b)
truth_sound b s p = subst (λ z. Sound z (bool b)) (ok_same bools s p) (record { of_sort = record { has = refl; canonical = tt }; sort_allowed = refl })

pub IsOfSort-subsort : (a b : PlainSort) (v : PlainValue) → is_subsort a b ≡ true → IsOfSort a v → IsOfSort b v
IsOfSort-subsort a b v p h = record { has = has_sort-subsort a b v p h.has; canonical = h.canonical }

pub two_bools_ok : (ss : List PlainSort) (vs : List PlainValue) (s : PlainSort) → two_bools ss ≡ Ok s → AreOfSorts ss vs
    → (p q : Bool) × (vs ≡ bool p ∷ bool q ∷ []) × (ok bools ≡ Ok s)
two_bools_ok ss vs s p h =
    let r = with_two_ok ss (λ a b. with_bool a (with_bool b (ok bools))) s p in
    let x = with_bool_ok r.0 (with_bool r.1 (ok bools)) s r.3 in
    let y = with_bool_ok r.1 (ok bools) s x.1 in
    let w = two_values r.0 r.1 vs (subst (λ z. AreOfSorts z vs) r.2 h) in
    let i = bool_of w.0 (ap (λ z. has_sort z w.0) (sym x.0) ∙ w.3.has) in
    let j = bool_of w.1 (ap (λ z. has_sort z w.1) (sym y.0) ∙ w.4.has) in
    (i.0, j.0, w.2 ∙ (λ o. i.1 o ∷ j.1 o ∷ []), y.1)

at_values : (o : LogicOp) (vs ws : List PlainValue) (s : PlainSort) → vs ≡ ws → Sound s (logic_value o ws) → Sound s (logic_value o vs)
at_values o vs ws s e h = subst (λ z. Sound s (logic_value o z)) (sym e) h

chosen : (c : Bool) (x y : PlainValue) (s : PlainSort) → IsOfSort s x → IsOfSort s y → IsOfSort s (cond c x y)
chosen true x y s h k = h
chosen false x y s h k = k

if_sound : (ss : List PlainSort) (vs : List PlainValue) (s : PlainSort) → logic_sort If ss ≡ Ok s → AreOfSorts ss vs → Sound s (logic_value If vs)
if_sound ss vs s p h =
    let r = with_three_ok ss (λ p a b. with_bool p (with_join (join a b) allowed)) s p in
    let x = with_bool_ok r.0 (with_join (join r.1 r.2) allowed) s r.4 in
    let y = with_join_ok (join r.1 r.2) allowed s x.1 in
    let z = allowed_ok y.0 s y.2 in
    let w = three_values r.0 r.1 r.2 vs (subst (λ z. AreOfSorts z vs) r.3 h) in
    let i = bool_of w.0 (ap (λ z. has_sort z w.0) (sym x.0) ∙ w.4.has) in
    let j : IsJoin r.1 r.2 (Some s) = subst (IsJoin r.1 r.2) (y.1 ∙ ap Some z.0) (join-is r.1 r.2) in
    at_values If vs (bool i.0 ∷ w.1 ∷ w.2 ∷ []) s (w.3 ∙ (λ o. i.1 o ∷ w.1 ∷ w.2 ∷ []))
    (record {
      of_sort = chosen i.0 w.1 w.2 s (IsOfSort-subsort r.1 s w.1 j.0 w.5) (IsOfSort-subsort r.2 s w.2 j.1 w.6);
      sort_allowed = z.1;
    })

pub logic_sound : (o : LogicOp) (ss : List PlainSort) (vs : List PlainValue) (s : PlainSort) → logic_sort o ss ≡ Ok s → AreOfSorts ss vs → Sound s (logic_value o vs)
logic_sound Not ss vs s p h =
    let r = with_one_ok ss (λ a. with_bool a (ok bools)) s p in
    let x = with_bool_ok r.0 (ok bools) s r.2 in
    let w = one_value r.0 vs (subst (λ z. AreOfSorts z vs) r.1 h) in
    let i = bool_of w.0 (ap (λ z. has_sort z w.0) (sym x.0) ∙ w.2.has) in
    at_values Not vs (bool i.0 ∷ []) s (w.1 ∙ (λ o. i.1 o ∷ [])) (truth_sound (not i.0) s x.1)
logic_sound And ss vs s p h = let r = two_bools_ok ss vs s p h in at_values And vs (bool r.0 ∷ bool r.1 ∷ []) s r.2 (truth_sound (r.0 && r.1) s r.3)
logic_sound Or ss vs s p h = let r = two_bools_ok ss vs s p h in at_values Or vs (bool r.0 ∷ bool r.1 ∷ []) s r.2 (truth_sound (r.0 || r.1) s r.3)
logic_sound Implies ss vs s p h = let r = two_bools_ok ss vs s p h in at_values Implies vs (bool r.0 ∷ bool r.1 ∷ []) s r.2 (truth_sound (not r.0 || r.1) s r.3)
logic_sound If ss vs s p h = if_sound ss vs s p h
logic_sound Eq ss vs s p h =
    let r = with_two_ok ss (λ a b. with_join (join a b) (λ _. ok bools)) s p in
    let y = with_join_ok (join r.0 r.1) (λ _. ok bools) s r.3 in
    let w = two_values r.0 r.1 vs (subst (λ z. AreOfSorts z vs) r.2 h) in
    at_values Eq vs (w.0 ∷ w.1 ∷ []) s w.2 (truth_sound (value_eq w.0 w.1) s y.2)
