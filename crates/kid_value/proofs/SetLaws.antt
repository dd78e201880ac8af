-- Laws of the members of sets.
use Rattle.std.proofs.Common.{◌≡◌, pos, ◌+ℤ◌, Bool, true, false, List, [], ◌∷◌, Ordering, refl, sym, ap, ◌∙◌}
use Rattle.std.specs.declared.cmp.Ordering.TheVariants.{Less, Equal, Greater}
use Rattle.std.specs.Prelude.{◌||◌, ◌&&◌}
use Rattle.std.proofs.Math.IntN.{+ℤ_assoc, +ℤ_comm}
use Rattle.kid_value.specs.PlainValue.{PlainValue}
use Rattle.kid_value.specs.ValueOrder.{value_cmp}
use Rattle.kid_value.specs.ValueSet.{value_eq, is_member, Ascends, put, put_by, union, inter}
use Rattle.kid_value.specs.Rows.Parts.{total, number_of}
use Rattle.kid_value.proofs.ValueSetLaws.{same_members, Ascends-union, Ascends-filter, is_member-union, is_member-filter, or_assoc}

pub or_comm : (b c : Bool) → (b || c) ≡ (c || b)
or_comm true true = refl
or_comm true false = refl
or_comm false true = refl
or_comm false false = refl

and_comm : (b c : Bool) → (b && c) ≡ (c && b)
and_comm true true = refl
and_comm true false = refl
and_comm false true = refl
and_comm false false = refl

pub union-comm : (vs ws : List PlainValue) → Ascends vs → Ascends ws → union vs ws ≡ union ws vs
union-comm vs ws a b =
    same_members (union vs ws) (union ws vs) (Ascends-union vs ws b) (Ascends-union ws vs a)
    (λ v. is_member-union v vs ws ∙ or_comm (is_member v vs) (is_member v ws) ∙ sym (is_member-union v ws vs))

pub union-assoc : (vs ws us : List PlainValue) → Ascends us → union vs (union ws us) ≡ union (union vs ws) us
union-assoc vs ws us c =
    same_members (union vs (union ws us)) (union (union vs ws) us) (Ascends-union vs (union ws us) (Ascends-union ws us c)) (Ascends-union (union vs ws) us c)
    (λ v. simp (is_member-union) (sym (or_assoc (is_member v vs) (is_member v ws) (is_member v us))))

pub inter-comm : (vs ws : List PlainValue) → Ascends vs → Ascends ws → inter vs ws ≡ inter ws vs
inter-comm vs ws a b =
    same_members (inter vs ws) (inter ws vs) (Ascends-filter _ vs a) (Ascends-filter _ ws b)
    (λ v. is_member-filter (λ x. is_member x ws) v vs ∙ and_comm (is_member v vs) (is_member v ws) ∙ sym (is_member-filter (λ x. is_member x vs) v ws))

or_none : (b c : Bool) → (b || c) ≡ false → (b ≡ false) × (c ≡ false)
or_none true c p = cc
or_none false c p = (refl, p)

-- a value more adds its number, where it was not there
pub total-put : (x : PlainValue) (ys : List PlainValue) → is_member x ys ≡ false → total (put x ys) ≡ total ys +ℤ number_of x
total-put x [] p = +ℤ_comm (number_of x) (pos 0)
total-put x (y ∷ ys) p =
    let parts = or_none (value_eq x y) (is_member x ys) p in
    by_cases (value_cmp x y) refl (total-put x ys parts.1) parts.0
  where
    by_cases : (o : Ordering) → value_cmp x y ≡ o → total (put x ys) ≡ total ys +ℤ number_of x → value_eq x y ≡ false → total (put_by o x y ys (put x ys)) ≡ total (y ∷ ys) +ℤ number_of x
    by_cases Less e h q = +ℤ_comm (number_of x) (number_of y +ℤ total ys)
    by_cases Equal e h q = let r : true ≡ false = sym (ap Rattle.std.specs.Ordering.is_eq e) ∙ q in cc
    by_cases Greater e h q = ap (λ z. number_of y +ℤ z) h ∙ sym (+ℤ_assoc (number_of y) (total ys) (number_of x))
