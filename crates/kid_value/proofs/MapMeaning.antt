-- Maps by what they have at each key.
use Rattle.std.proofs.Common.{◌≡◌, ◌↔◌, true, cond, List, map, Ordering, Option, Some, None, refl, sym, ap, ◌∙◌}
use Rattle.std.specs.Option.{option_map}
use Rattle.std.specs.Ordering.{ordering_reverse}
use Rattle.std.specs.Prelude.{not, filter, unwrap_or}
use Rattle.std.specs.declared.cmp.Ordering.TheVariants.{Less, Equal, Greater}
use Rattle.kid_value.specs.Canonical.{IsCanonical}
use Rattle.kid_value.specs.Contents.{IsSet, IsMap, has, value_at}
use Rattle.kid_value.specs.Entries.{IsMapOf, MapsHoldValues}
use Rattle.kid_value.specs.MapLaws.{IsSubmap, Fits, MapLaws}
use Rattle.kid_value.specs.MapOrder.{IsLowerAt}
use Rattle.kid_value.specs.PlainValue.{PlainValue, set, map_of, items, entries, table}
use Rattle.kid_value.specs.Rows.Kinds.{set_from, map_from}
use Rattle.kid_value.specs.Rows.Map as rows
use Rattle.kid_value.specs.Rows.Map.{has_value, has_value_in, cut_down}
use Rattle.kid_value.specs.Rows.Set as set_rows
use Rattle.kid_value.specs.ValueMap.{keys, lookup, put_entry}
use Rattle.kid_value.specs.ValueOrder.{value_cmp, map_cmp, Before}
use Rattle.kid_value.specs.ValueSet.{value_eq, is_member, put, set_of}
use Rattle.kid_value.proofs.CanonicalLemmas.{keys-put_entry}
use Rattle.kid_value.proofs.EntryLemmas.{lookup-put_entry}
use Rattle.kid_value.proofs.LookupLemmas.{some_same, list_all-lookup, lookup-list_all, lookup-value, value-lookup, keys-dropped}
use Rattle.kid_value.proofs.MapOrderLaws.{IsLowerFirst-less, less-IsLowerFirst}
use Rattle.kid_value.proofs.RowCanonical.{keys-filled, keys-narrowed}
use Rattle.kid_value.proofs.RowLemmas.{items_row, row_items, entries_table, table_entries}
use Rattle.kid_value.proofs.RowMeaning.{is_member-set_of, lookup-dropped, lookup-filled, lookup-narrowed}
use Rattle.kid_value.proofs.ValueOrderLaws.{value_cmp-total, map_cmp-equal}
use Rattle.kid_value.proofs.ValueSetLaws.{value_cmp-itself, value_eq-itself, value_eq-true}

made : (f : PlainValue → Option PlainValue) (es : List (PlainValue × PlainValue)) → ((k : PlainValue) → lookup k es ≡ f k) → IsMapOf f (map_from es)
made f es h = (tt, λ k. ap (lookup k) (entries_table es) ∙ h k)

put_held : (m l v : PlainValue) → IsMap m → IsMapOf (λ k. cond (value_eq k l) (Some v) (value_at k m)) (rows.put m l v)
put_held (map_of m) l v i = made _ (put_entry l v (entries m)) (λ k. lookup-put_entry k l v (entries m))
put_held m l v i = absurd i

drop_held : (m l : PlainValue) → IsMap m → IsMapOf (λ k. cond (value_eq k l) None (value_at k m)) (rows.drop m l)
drop_held (map_of m) l i = made _ (filter (λ e. not (value_eq e.0 l)) (entries m)) (λ k. lookup-dropped k l (entries m))
drop_held m l i = absurd i

fill_held : (s v : PlainValue) → IsSet s → IsMapOf (λ k. cond (has k s) (Some v) None) (rows.fill s v)
fill_held (set vs) v i = made _ (map (λ w. (w, v)) (items vs)) (λ k. lookup-filled k v (items vs))
fill_held s v i = absurd i

narrow_held : (m n : PlainValue) → IsMap m → IsMap n → IsMapOf (λ k. option_map (λ v. cut_down v (value_at k n)) (value_at k m)) (rows.narrow m n)
narrow_held (map_of m) (map_of n) i j = made _ (map (λ e. (e.0, cut_down e.1 (lookup e.0 (entries n)))) (entries m)) (λ k. lookup-narrowed k (entries n) (entries m))
narrow_held (map_of m) n i j = absurd j
narrow_held m n i j = absurd i

pub values_held : MapsHoldValues
values_held = record { empty = (tt, λ k. refl); put = put_held; drop = drop_held; fill = fill_held; narrow = narrow_held }

-- maps with the same look-ups are equal
pub same_maps : (m n : PlainValue) → IsMap m → IsMap n → IsCanonical m → IsCanonical n → ((k : PlainValue) → value_at k m ≡ value_at k n) → m ≡ n
same_maps (map_of es) (map_of fs) i j c d h = by (map_cmp (table (entries es)) (table (entries fs))) refl
  where
    not_lower : (o p : Option PlainValue) → o ≡ p → IsLowerAt o p → ⊥
    not_lower None None e l = l
    not_lower None (Some w) e l = cc
    not_lower (Some v) None e l = l
    not_lower (Some v) (Some w) e l = let c : value_cmp v w ≡ Equal = ap (value_cmp v) (sym (some_same v w e)) ∙ value_cmp-itself v in cc

    by : (o : Ordering) → map_cmp (table (entries es)) (table (entries fs)) ≡ o → map_of es ≡ map_of fs
    by Less e = let l = IsLowerFirst-less (entries es) (entries fs) c.0 d.0 e in absurd (not_lower (lookup l.key (entries es)) (lookup l.key (entries fs)) (h l.key) l.lower)
    by Equal e = ap map_of (sym (table_entries es) ∙ map_cmp-equal (table (entries es)) (table (entries fs)) e ∙ table_entries fs)
    by Greater e =
        let f : map_cmp (table (entries fs)) (table (entries es)) ≡ Less = value_cmp-total.antisymm (map_of (table (entries fs))) (map_of (table (entries es))) ∙ ap ordering_reverse e in
        let l = IsLowerFirst-less (entries fs) (entries es) d.0 c.0 f in absurd (not_lower (lookup l.key (entries fs)) (lookup l.key (entries es)) (sym (h l.key)) l.lower)
same_maps (map_of es) n i j c d h = absurd j
same_maps m n i j c d h = absurd i

get_told : (m k d : PlainValue) → IsMap m → rows.get m k d ≡ unwrap_or (value_at k m) d
get_told (map_of m) k d i = refl
get_told m k d i = absurd i

ran_told : (m v : PlainValue) → IsMap m → IsCanonical m → (has v (rows.ran m) ≡ true) ↔ ((k : PlainValue) × (value_at k m ≡ Some v))
ran_told (map_of m) v i c =
    let e : has v (rows.ran (map_of m)) ≡ is_member v (map (λ e. e.1) (entries m)) = ap (is_member v) (items_row (set_of (map (λ e. e.1) (entries m)))) ∙ is_member-set_of v (map (λ e. e.1) (entries m)) in
    (λ h. value-lookup v (entries m) c.0 (sym e ∙ h), λ r. e ∙ lookup-value r.0 v (entries m) r.1)
ran_told m v i c = absurd i

-- ---- keys

dom_put : (m k v : PlainValue) → IsMap m → rows.dom (rows.put m k v) ≡ set_rows.with k (rows.dom m)
dom_put (map_of m) k v i =
    ap (λ es. set_from (keys es)) (entries_table (put_entry k v (entries m))) ∙ ap set_from (keys-put_entry k v (entries m)) ∙ ap (λ z. set_from (put k z)) (sym (items_row (keys (entries m))))
dom_put m k v i = absurd i

dom_drop : (m k : PlainValue) → IsMap m → rows.dom (rows.drop m k) ≡ set_rows.without k (rows.dom m)
dom_drop (map_of m) k i =
    ap (λ es. set_from (keys es)) (entries_table (filter (λ e. not (value_eq e.0 k)) (entries m))) ∙ ap set_from (keys-dropped k (entries m))
    ∙ ap (λ z. set_from (filter (λ l. not (value_eq l k)) z)) (sym (items_row (keys (entries m))))
dom_drop m k i = absurd i

dom_fill : (s v : PlainValue) → IsSet s → rows.dom (rows.fill s v) ≡ s
dom_fill (set vs) v i = ap (λ es. set_from (keys es)) (entries_table (map (λ w. (w, v)) (items vs))) ∙ ap set_from (keys-filled v (items vs)) ∙ ap set (row_items vs)
dom_fill s v i = absurd i

dom_narrow : (m n : PlainValue) → IsMap m → IsMap n → rows.dom (rows.narrow m n) ≡ rows.dom m
dom_narrow (map_of m) (map_of n) i j =
    ap (λ es. set_from (keys es)) (entries_table (map (λ e. (e.0, cut_down e.1 (lookup e.0 (entries n)))) (entries m))) ∙ ap set_from (keys-narrowed (entries n) (entries m))
dom_narrow (map_of m) n i j = absurd j
dom_narrow m n i j = absurd i

-- ---- maps within maps, and maps that fit maps of sets

has_value-is : (o : Option PlainValue) (v : PlainValue) → has_value o v ≡ true → o ≡ Some v
has_value-is None v h = cc
has_value-is (Some w) v h = ap (λ z. Some z) (value_eq-true w v h)

submap_told : (m n : PlainValue) → IsMap m → IsMap n → IsCanonical m → IsSubmap m n ↔ ((k v : PlainValue) → value_at k m ≡ Some v → value_at k n ≡ Some v)
submap_told (map_of es) (map_of fs) i j c = (
  λ h k v e. has_value-is (lookup k (entries fs)) v (list_all-lookup (λ e. has_value (lookup e.0 (entries fs)) e.1) k v (entries es) h e),
  λ h. lookup-list_all (λ e. has_value (lookup e.0 (entries fs)) e.1) (entries es) c.0 (λ k v e. ap (λ o. has_value o v) (h k v e) ∙ value_eq-itself v),
)
submap_told (map_of es) n i j c = absurd j
submap_told m n i j c = absurd i

has_value_in-told : (o : Option PlainValue) (s : PlainValue) → has_value_in o s ≡ true → (v : PlainValue) × (o ≡ Some v) × (has v s ≡ true)
has_value_in-told None s h = cc
has_value_in-told (Some v) (set vs) h = (v, refl, h)
has_value_in-told (Some v) s h = cc

told-has_value_in : (o : Option PlainValue) (s v : PlainValue) → o ≡ Some v → has v s ≡ true → has_value_in o s ≡ true
told-has_value_in o (set vs) v e h = ap (λ z. has_value_in z (set vs)) e ∙ h
told-has_value_in o s v e h = cc

fits_told : (m n : PlainValue) → IsMap m → IsMap n → IsCanonical n → Fits m n ↔ ((k s : PlainValue) → value_at k n ≡ Some s → (v : PlainValue) × (value_at k m ≡ Some v) × (has v s ≡ true))
fits_told (map_of es) (map_of fs) i j c = (
  λ h k s e. has_value_in-told (lookup k (entries es)) s (list_all-lookup (λ e. has_value_in (lookup e.0 (entries es)) e.1) k s (entries fs) h e),
  λ h. lookup-list_all (λ e. has_value_in (lookup e.0 (entries es)) e.1) (entries fs) c.0 (λ k s e. let r = h k s e in told-has_value_in (lookup k (entries es)) s r.0 r.1 r.2),
)
fits_told (map_of es) n i j c = absurd j
fits_told m n i j c = absurd i

before_map : (m n k : PlainValue) → IsMap m → IsMap n → IsCanonical m → IsCanonical n → IsLowerAt (value_at k m) (value_at k n) → ((l : PlainValue) → Before l k → value_at l m ≡ value_at l n) → Before m n
before_map (map_of es) (map_of fs) k i j c d l h =
    sym (λ x. map_cmp (table_entries es x) (table_entries fs x)) ∙ less-IsLowerFirst (entries es) (entries fs) c.0 d.0 (record { key = k; lower = l; agree = h })
before_map (map_of es) n k i j c d l h = absurd j
before_map m n k i j c d l h = absurd i

pub laws : MapLaws
laws =
    record {
      same = same_maps;
      get = get_told;
      ran = ran_told;
      dom_put = dom_put;
      dom_drop = dom_drop;
      dom_fill = dom_fill;
      dom_narrow = dom_narrow;
      submap = submap_told;
      fits = fits_told;
      before = before_map;
    }
