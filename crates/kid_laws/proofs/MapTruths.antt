-- The laws of maps are true.
use Rattle.std.proofs.Common.{◌≡◌, Bool, true, false, cond, List, [], Some, None, Option, refl, sym, ap, ◌∙◌}
use Rattle.std.specs.Prelude.{is_some, unwrap_or}
use Rattle.std.specs.List.{list_all}
use Rattle.kid_value.specs.PlainValue.{PlainValue, bool, set, map_of, items, row, entries}
use Rattle.kid_value.specs.Rows.Map.{has_value, has_value_in}
use Rattle.kid_value.specs.Rows.Set as rows
use Rattle.kid_value.specs.ValueMap.{keys, lookup, put_entry}
use Rattle.kid_value.specs.ValueSet.{value_eq, is_member}
use Rattle.kid_value.proofs.EntryLemmas.{lookup-put_entry}
use Rattle.kid_value.proofs.LookupLemmas.{list_all-lookup, lookup-list_all}
use Rattle.kid_value.proofs.MapMeaning.{laws}
use Rattle.kid_value.proofs.MemberLemmas.{member-all_pass}
use Rattle.kid_value.proofs.RowLemmas.{items_row, entries_table}
use Rattle.kid_value.proofs.RowMeaning.{is_member-keys}
use Rattle.kid_value.proofs.ValueSetLaws.{value_eq-itself, value_eq-true}
use Rattle.kid_term.specs.Eval.{Env, Calls}
use Rattle.kid_laws.specs.Truth.{IsTrue}
use Rattle.kid_laws.specs.MapLaws.{e20, e47, e48, m4, m19, m20}
use Rattle.kid_laws.proofs.SetTruths.{not_true}

some_of : (o : Option PlainValue) → is_some o ≡ true → (v : PlainValue) × (o ≡ Some v)
some_of None h = cc
some_of (Some v) h = (v, refl)

-- a key has a value
at_key : (x : PlainValue) (es : List (PlainValue × PlainValue)) → is_member x (items (row (keys es))) ≡ true → (v : PlainValue) × (lookup x es ≡ Some v)
at_key x es k = some_of (lookup x es) (sym (is_member-keys x es) ∙ ap (is_member x) (sym (items_row (keys es))) ∙ k)

known : (o : Option PlainValue) (v : PlainValue) → has_value o v ≡ true → is_some o ≡ true
known None v h = cc
known (Some w) v h = refl

-- what has a value gives it, whatever stands for a missing one
given : (o : Option PlainValue) (v d : PlainValue) → has_value o v ≡ true → unwrap_or o d ≡ v
given None v d h = cc
given (Some u) v d h = value_eq-true u v h

member_found : (o : Option PlainValue) (u d : PlainValue) → has_value_in o u ≡ true → rows.member (unwrap_or o d) u ≡ bool true
member_found None u d h = cc
member_found (Some z) (set us) d h = ap bool h
member_found (Some z) u d h = cc

-- what a map has, it has with a new key too
kept : (x y : PlainValue) (es : List (PlainValue × PlainValue)) → is_member x (keys es) ≡ false → (k v : PlainValue) → lookup k es ≡ Some v → has_value (lookup k (put_entry x y es)) v ≡ true
kept x y es n k v f = by (value_eq k x) refl
  where
    by : (b : Bool) → value_eq k x ≡ b → has_value (lookup k (put_entry x y es)) v ≡ true
    by true q =
        let m : is_member x (keys es) ≡ true = ap (λ z. is_member z (keys es)) (sym (value_eq-true k x q)) ∙ is_member-keys k es ∙ ap is_some f in cc
    by false q = ap (λ o. has_value o v) (lookup-put_entry k x y es ∙ (λ i. cond (q i) (Some y) (lookup k es)) ∙ f) ∙ value_eq-itself v

module _ (calls : Calls) (base : Env) where
  pub e20_true : IsTrue calls base e20
  e20_true m up x y d =
      ap (λ es. unwrap_or (lookup x es) d) (entries_table (put_entry x y (entries m)))
      ∙ ap (λ o. unwrap_or o d) (lookup-put_entry x x y (entries m) ∙ ap (λ b. cond b (Some y) (lookup x (entries m))) (value_eq-itself x))

  pub e47_true : IsTrue calls base e47
  e47_true m up x y = laws.dom_put (map_of m) x y tt

  pub e48_true : IsTrue calls base e48
  e48_true m mup n nup x y h k =
      let f = at_key x (entries m) k in
      given (lookup x (entries n)) f.0 y (list_all-lookup (λ e. has_value (lookup e.0 (entries n)) e.1) x f.0 (entries m) h f.1) ∙ ap (λ o. unwrap_or o y) (sym f.1)

  pub m4_true : IsTrue calls base m4
  m4_true x m up y h =
      ap bool (ap (λ es. list_all (λ e. has_value (lookup e.0 es) e.1) (entries m)) (entries_table (put_entry x y (entries m)))
      ∙ lookup-list_all (λ e. has_value (lookup e.0 (put_entry x y (entries m))) e.1) (entries m) up (kept x y (entries m) (ap (is_member x) (sym (items_row (keys (entries m)))) ∙ not_true _ h)))

  pub m19_true : IsTrue calls base m19
  m19_true m mup n nup h =
      ap bool (member-all_pass _ _ (λ k q. ap (is_member k) (items_row (keys (entries n))) ∙ is_member-keys k (entries n)
      ∙ (let f = at_key k (entries m) q in
      known (lookup k (entries n)) f.0 (list_all-lookup (λ e. has_value (lookup e.0 (entries n)) e.1) k f.0 (entries m) h f.1))))

  pub m20_true : IsTrue calls base m20
  m20_true m mup n nup x y h k =
      let f = at_key x (entries n) k in
      ap (λ z. rows.member (unwrap_or (lookup x (entries m)) y) (unwrap_or z (set (row [])))) f.1
      ∙ member_found (lookup x (entries m)) f.0 y (list_all-lookup (λ e. has_value_in (lookup e.0 (entries m)) e.1) x f.0 (entries n) h f.1)
