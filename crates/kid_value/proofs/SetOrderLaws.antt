-- The order of sets is by the least value in which they differ.
use Rattle.std.proofs.Common.{◌≡◌, Bool, true, false, List, [], ◌∷◌, Ordering, refl, sym, ap, ◌∙◌}
use Rattle.std.specs.Prelude.{◌||◌}
use Rattle.std.specs.declared.cmp.Ordering.TheVariants.{Less, Equal, Greater}
use Rattle.std.specs.Ordering.{is_eq, ordering_then, ordering_reverse}
use Rattle.kid_value.specs.PlainValue.{PlainValue, set, row, items}
use Rattle.kid_value.specs.ValueOrder.{value_cmp, set_cmp, Before}
use Rattle.kid_value.specs.ValueSet.{value_eq, is_member, Ascends}
use Rattle.kid_value.specs.SetOrder.{LacksLeast}
use Rattle.kid_value.proofs.MemberLemmas.{is_member-first, is_member-later}
use Rattle.kid_value.proofs.ValueOrderLaws.{value_cmp-total, value_cmp-equal, set_cmp-equal}
use Rattle.kid_value.proofs.RowLemmas.{items_row}
use Rattle.kid_value.proofs.ValueSetLaws.{value_eq-comm, is_member-after, AllAfter-before, Before-member, Before-greater}

-- a smaller set lacks the least value in which it differs
pub LacksLeast-less : (xs ys : List PlainValue) → Ascends xs → Ascends ys → set_cmp (row xs) (row ys) ≡ Less → LacksLeast xs ys
LacksLeast-less [] [] a b p = cc
LacksLeast-less [] (y ∷ ys) a b p = record {
  least = y;
  absent = refl;
  present = is_member-first y ys;
  agree = λ w h. sym (is_member-after w (y ∷ ys) (h, AllAfter-before w y ys h b.0));
}
LacksLeast-less (x ∷ xs) [] a b p = cc
LacksLeast-less (x ∷ xs) (y ∷ ys) a b p = by (value_cmp x y) refl p (LacksLeast-less xs ys a.1 b.1)
  where
    by : (o : Ordering) → value_cmp x y ≡ o → ordering_then (ordering_reverse o) (set_cmp (row xs) (row ys)) ≡ Less → (set_cmp (row xs) (row ys) ≡ Less → LacksLeast xs ys) → LacksLeast (x ∷ xs) (y ∷ ys)
    by Less e q ih = cc
    by Equal e q ih =
        let l = ih q in
        let same : x ≡ y = value_cmp-equal x y e in
        let after : Before y l.least = Before-member y l.least ys b.0 l.present in
        let not_x : value_eq l.least x ≡ false = value_eq-comm l.least x ∙ ap (λ z. value_eq z l.least) same ∙ ap is_eq after in
        record {
          least = l.least;
          absent = rw (not_x) l.absent;
          present = is_member-later l.least y ys l.present;
          agree = λ w h. λ i. value_eq w (same i) || l.agree w h i;
        }
    by Greater e q ih =
        let before : Before y x = Before-greater x y e in
        record {
          least = y;
          absent = is_member-after y (x ∷ xs) (before, AllAfter-before y x xs before a.0);
          present = is_member-first y ys;
          agree = λ w h.
              let to_x : Before w x = value_cmp-total.trans w y x h before in
              is_member-after w (x ∷ xs) (to_x, AllAfter-before w x xs to_x a.0) ∙ sym (is_member-after w (y ∷ ys) (h, AllAfter-before w y ys h b.0));
        }

both_ways : (b c : Bool) → b ≡ false → c ≡ true → c ≡ b → ⊥
both_ways b c p q r = cc

-- of two sets not both lack the least value in which they differ
LacksLeast-once : (xs ys : List PlainValue) → LacksLeast xs ys → LacksLeast ys xs → ⊥
LacksLeast-once xs ys l r = by_cases (value_cmp l.least r.least) refl
  where
    by_cases : (o : Ordering) → value_cmp l.least r.least ≡ o → ⊥
    by_cases Less e = both_ways _ _ l.absent l.present (r.agree l.least e)
    by_cases Equal e = both_ways _ _ l.absent r.present (ap (λ z. is_member z xs) (sym (value_cmp-equal l.least r.least e)))
    by_cases Greater e = both_ways _ _ r.absent r.present (l.agree r.least (Before-greater l.least r.least e))

-- the set that lacks the least value in which two differ is smaller
pub less-LacksLeast : (xs ys : List PlainValue) → Ascends xs → Ascends ys → LacksLeast xs ys → set_cmp (row xs) (row ys) ≡ Less
less-LacksLeast xs ys a b l = by_cases (set_cmp (row xs) (row ys)) refl
  where
    by_cases : (o : Ordering) → set_cmp (row xs) (row ys) ≡ o → o ≡ Less
    by_cases Less e = refl
    by_cases Equal e =
        let same : xs ≡ ys = sym (items_row xs) ∙ ap items (set_cmp-equal (row xs) (row ys) e) ∙ items_row ys in
        absurd (both_ways _ _ l.absent l.present (ap (is_member l.least) (sym same)))
    by_cases Greater e =
        absurd (LacksLeast-once xs ys l (LacksLeast-less ys xs b a (value_cmp-total.antisymm (set (row ys)) (set (row xs)) ∙ ap ordering_reverse e)))
