-- A set with one more member and a map with one more key are canonical.
use Rattle.std.proofs.Common.{◌≡◌, List, [], ◌∷◌, Ordering, refl, sym, ap, subst}
use Rattle.std.specs.declared.cmp.Ordering.TheVariants.{Less, Equal, Greater}
use Rattle.std.specs.Prelude.{◌++◌}
use Rattle.kid_value.specs.Canonical.{IsCanonical, AreCanonical, EntriesAreCanonical}
use Rattle.kid_value.specs.PlainValue.{PlainValue, set, map_of, row, table}
use Rattle.kid_value.specs.ValueMap.{keys, put_entry, put_entry_by}
use Rattle.kid_value.specs.ValueOrder.{value_cmp}
use Rattle.kid_value.specs.ValueSet.{Ascends, put, put_by}
use Rattle.kid_value.proofs.RowLemmas.{items_row, entries_table}
use Rattle.kid_value.proofs.ValueOrderLaws.{value_cmp-equal}
use Rattle.kid_value.proofs.ValueSetLaws.{Ascends-put}

pub AreCanonical-put : (x : PlainValue) (ys : List PlainValue) → IsCanonical x → AreCanonical (row ys) → AreCanonical (row (put x ys))
AreCanonical-put x [] c d = (c, tt)
AreCanonical-put x (y ∷ ys) c d = by_cases (value_cmp x y) (put x ys) (AreCanonical-put x ys c d.1)
  where
    by_cases : (o : Ordering) (more : List PlainValue) → AreCanonical (row more) → AreCanonical (row (put_by o x y ys more))
    by_cases Less more h = (c, d)
    by_cases Equal more h = d
    by_cases Greater more h = (d.0, h)

pub EntriesAreCanonical-put : (k v : PlainValue) (es : List (PlainValue × PlainValue)) → IsCanonical k → IsCanonical v → EntriesAreCanonical (table es) → EntriesAreCanonical (table (put_entry k v es))
EntriesAreCanonical-put k v [] c d h = (c, d, tt)
EntriesAreCanonical-put k v (e ∷ es) c d h = by_cases (value_cmp k e.0) (put_entry k v es) (EntriesAreCanonical-put k v es c d h.2)
  where
    by_cases : (o : Ordering) (more : List (PlainValue × PlainValue)) → EntriesAreCanonical (table more) → EntriesAreCanonical (table (put_entry_by o k v e es more))
    by_cases Less more g = (c, d, h)
    by_cases Equal more g = (c, d, h.2)
    by_cases Greater more g = (h.0, h.1, g)

-- the keys of a map with one more key
pub keys-put_entry : (k v : PlainValue) (es : List (PlainValue × PlainValue)) → keys (put_entry k v es) ≡ put k (keys es)
keys-put_entry k v [] = refl
keys-put_entry k v (e ∷ es) = by_cases (value_cmp k e.0) refl (keys-put_entry k v es)
  where
    by_cases : (o : Ordering) → value_cmp k e.0 ≡ o → keys (put_entry k v es) ≡ put k (keys es) → keys (put_entry_by o k v e es (put_entry k v es)) ≡ put_by o k e.0 (keys es) (put k (keys es))
    by_cases Less p h = refl
    by_cases Equal p h = ap (λ z. z ∷ keys es) (value_cmp-equal k e.0 p)
    by_cases Greater p h = ap (λ z. e.0 ∷ z) h

pub ascends-set : (xs : List PlainValue) → IsCanonical (set (row xs)) → Ascends xs
ascends-set xs c = subst Ascends (items_row xs) c.0

pub ascends-map : (es : List (PlainValue × PlainValue)) → IsCanonical (map_of (table es)) → Ascends (keys es)
ascends-map es c = subst (λ z. Ascends (keys z)) (entries_table es) c.0

pub IsCanonical-put : (x : PlainValue) (ys : List PlainValue) → IsCanonical x → IsCanonical (set (row ys)) → IsCanonical (set (row (put x ys)))
IsCanonical-put x ys c d = (subst Ascends (sym (items_row (put x ys))) (Ascends-put x ys (ascends-set ys d)), AreCanonical-put x ys c d.1)

pub IsCanonical-put_entry : (k v : PlainValue) (es : List (PlainValue × PlainValue)) → IsCanonical k → IsCanonical v → IsCanonical (map_of (table es)) → IsCanonical (map_of (table (put_entry k v es)))
IsCanonical-put_entry k v es c d h = (
  subst (λ z. Ascends (keys z)) (sym (entries_table (put_entry k v es))) (subst Ascends (sym (keys-put_entry k v es)) (Ascends-put k (keys es) (ascends-map es h))),
  EntriesAreCanonical-put k v es c d h.1,
)

-- a row with one more value
pub AreCanonical-append : (xs : List PlainValue) (y : PlainValue) → AreCanonical (row xs) → IsCanonical y → AreCanonical (row (xs ++ y ∷ []))
AreCanonical-append [] y h c = (c, tt)
AreCanonical-append (x ∷ xs) y h c = (h.0, AreCanonical-append xs y h.1 c)
