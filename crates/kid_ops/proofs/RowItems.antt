-- The items of a row by their places.
use Rattle.std.proofs.Common.{◌≡◌, ℕ, ◌+◌, ◌<◌, ◌≤◌, zero, suc, ℤ, pos, ◌+ℤ◌, List, [], ◌∷◌, ◌++◌, Some, None, map, length, take, drop, get_or, refl, sym, ap, ◌∙◌, arith, append_assoc, add-one}
use Rattle.std.specs.Prelude.{set, unwrap_or}
use Rattle.std.specs.Option.{option_and_then}
use Rattle.std.proofs.lemmas.List.{map-append, map-set, set_split}
use Rattle.kid_value.specs.PlainValue.{PlainValue, int}
use Rattle.kid_value.specs.Rows.Word.{entry_before, item_of, item_value, row_entries}
use Rattle.kid_value.specs.ValueView.{plain}
use Rattle.kid_value.specs.declared.value.Value.{Value}
use Rattle.std.proofs.lemmas.Int.{ints as int_rules}
use Rattle.kid_ops.specs.RowItems.{value_of_row}
use Rattle.kid_ops.proofs.MergeLemmas.{drop_next}

there : (items : List Value) (n : ℕ) (item d : Value) → n < length items → item ≡ get_or items n d → item_of (map plain items) n ≡ Some (plain item)
there [] n item d l e = absurd (omega arith)
there (x ∷ items) zero item d l e = ap (λ z. Some (plain z)) (sym e)
there (x ∷ items) (suc n) item d l e = there items n item d (omega arith) e

past : (items : List Value) (n : ℕ) → length items ≤ n → item_of (map plain items) n ≡ None
past [] n l = refl
past (x ∷ items) zero l = absurd (omega arith)
past (x ∷ items) (suc n) l = past items n (omega arith)

pub value-there : (items : List Value) (n : ℕ) (item d : Value) → n < length items → item ≡ get_or items n d → unwrap_or (item_value (plain item)) (plain d) ≡ value_of_row (map plain items) (Some n) (plain d)
value-there items n item d l e = ap (λ o. unwrap_or (option_and_then item_value o) (plain d)) (sym (there items n item d l e))

pub value-past : (items : List Value) (n : ℕ) (d : PlainValue) → length items ≤ n → d ≡ value_of_row (map plain items) (Some n) d
value-past items n d l = ap (λ o. unwrap_or (option_and_then item_value o) d) (sym (past items n l))

-- the items before a place, another item, and those after it
pub set-parts : (items : List Value) (n : ℕ) (item : Value) → n < length items → (map plain (take n items) ++ plain item ∷ []) ++ map plain (drop (n + 1) items) ≡ set (map plain items) n (plain item)
set-parts items n item l =
    append_assoc (map plain (take n items)) (plain item ∷ []) (map plain (drop (n + 1) items))
    ∙ ap (λ k. map plain (take n items) ++ plain item ∷ map plain (drop k items)) (add-one n)
    ∙ sym (map-append plain (take n items) (item ∷ drop (suc n) items))
    ∙ ap (map plain) (sym (set_split items n item l))
    ∙ map-set plain items n item

-- the entries of a row from a place on
pub row_next : (lo : ℤ) (items : List Value) (i : ℕ) (item : Value) → i < length items → item ≡ get_or items i item
    → row_entries (lo +ℤ pos i) (map plain (drop i items)) ≡ entry_before (int (lo +ℤ pos i)) (item_value (plain item)) (row_entries (lo +ℤ pos (i + 1)) (map plain (drop (i + 1) items)))
row_next lo items i item l e =
    let n : (lo +ℤ pos i) +ℤ pos 1 ≡ lo +ℤ pos (i + 1) = omega (arith, int_rules) in
    ap (row_entries (lo +ℤ pos i)) (drop_next items i item l e)
    ∙ ap (λ z. entry_before (int (lo +ℤ pos i)) (item_value (plain item)) (row_entries z (map plain (drop (i + 1) items)))) n
