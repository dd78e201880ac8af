-- Sets by what they have.
use Rattle.std.proofs.Common.{◌≡◌, ◌↔◌, pos, ◌+ℤ◌, ◌≤ℤ◌, Bool, true, false, List, ◌∷◌, map, length, refl, sym, ap, ◌∙◌, arith}
use Rattle.std.specs.Prelude.{not, ◌||◌, ◌&&◌, filter, is_some}
use Rattle.std.proofs.lemmas.Int.{ints as int_rules}
use Rattle.kid_value.specs.Canonical.{IsCanonical}
use Rattle.kid_value.specs.Contents.{IsSet, IsSequence, IsMap, has, value_at, IsWithin}
use Rattle.kid_value.specs.Members.{IsSetOf, is_between, SetsHoldMembers}
use Rattle.kid_value.specs.PlainValue.{PlainValue, set, seq, map_of, none, more, row, items, entries}
use Rattle.kid_value.specs.Rows.Kinds.{set_from}
use Rattle.kid_value.specs.Rows.Map as map_rows
use Rattle.kid_value.specs.Rows.Parts.{truth_of, number_of, items_of, entries_of, total}
use Rattle.kid_value.specs.Rows.Seq as seq_rows
use Rattle.kid_value.specs.Rows.Set as rows
use Rattle.kid_value.specs.Rows.Set.{numbers}
use Rattle.kid_value.specs.SetLaws.{IsSubset, SetLaws}
use Rattle.kid_value.specs.SortCount.{interval_count}
use Rattle.kid_value.specs.ValueMap.{keys}
use Rattle.kid_value.specs.ValueOrder.{set_cmp, Before}
use Rattle.kid_value.specs.ValueSet as sets
use Rattle.kid_value.specs.ValueSet.{value_eq, is_member}
use Rattle.kid_value.proofs.MemberLemmas.{is_member-first, all_pass-member, member-all_pass, put-without, length-put, length-within, total-within, numbers-between}
use Rattle.kid_value.proofs.RowLemmas.{items_row, row_items}
use Rattle.kid_value.proofs.RowMeaning.{is_member-set_of, is_member-keys}
use Rattle.kid_value.proofs.SetLaws.{total-put}
use Rattle.kid_value.proofs.SetOrderLaws.{less-LacksLeast}
use Rattle.kid_value.proofs.ValueSetLaws.{is_member-put, is_member-union, is_member-filter, is_member-after, AllAfter-before, same_members}

made : (p : PlainValue → Bool) (vs : List PlainValue) → ((x : PlainValue) → is_member x vs ≡ p x) → IsSetOf p (set_from vs)
made p vs h = (tt, λ x. ap (is_member x) (items_row vs) ∙ h x)

union : (s t : PlainValue) → IsSet s → IsSet t → IsSetOf (λ x. has x s || has x t) (rows.union s t)
union (set vs) (set ws) i j = made _ (sets.union (items vs) (items ws)) (λ x. is_member-union x (items vs) (items ws))
union (set vs) t i j = absurd j
union s t i j = absurd i

inter : (s t : PlainValue) → IsSet s → IsSet t → IsSetOf (λ x. has x s && has x t) (rows.inter s t)
inter (set vs) (set ws) i j = made _ (sets.inter (items vs) (items ws)) (λ x. is_member-filter (λ y. is_member y (items ws)) x (items vs))
inter (set vs) t i j = absurd j
inter s t i j = absurd i

diff : (s t : PlainValue) → IsSet s → IsSet t → IsSetOf (λ x. has x s && not (has x t)) (rows.diff s t)
diff (set vs) (set ws) i j = made _ (sets.diff (items vs) (items ws)) (λ x. is_member-filter (λ y. not (is_member y (items ws))) x (items vs))
diff (set vs) t i j = absurd j
diff s t i j = absurd i

more_by : (y s : PlainValue) → IsSet s → IsSetOf (λ x. value_eq x y || has x s) (rows.with y s)
more_by y (set vs) i = made _ (sets.put y (items vs)) (λ x. is_member-put x y (items vs))
more_by y s i = absurd i

less_by : (y s : PlainValue) → IsSet s → IsSetOf (λ x. has x s && not (value_eq x y)) (rows.without y s)
less_by y (set vs) i = made _ _ (λ x. is_member-filter (λ v. not (value_eq v y)) x (items vs))
less_by y s i = absurd i

items_held : (v : PlainValue) → IsSequence v → IsSetOf (λ x. is_member x (items_of v)) (seq_rows.items v)
items_held (seq vs) i = made _ (sets.set_of (items vs)) (λ x. is_member-set_of x (items vs))
items_held v i = absurd i

keys_held : (m : PlainValue) → IsMap m → IsSetOf (λ x. is_some (value_at x m)) (map_rows.dom m)
keys_held (map_of m) i = made _ (keys (entries m)) (λ x. is_member-keys x (entries m))
keys_held m i = absurd i

values_held : (m : PlainValue) → IsMap m → IsSetOf (λ x. is_member x (map (λ e. e.1) (entries_of m))) (map_rows.ran m)
values_held (map_of m) i = made _ (sets.set_of (map (λ e. e.1) (entries m))) (λ x. is_member-set_of x (map (λ e. e.1) (entries m)))
values_held m i = absurd i

pub members_held : SetsHoldMembers
members_held =
    record {
      set = λ vs. made _ (sets.set_of vs) (λ x. is_member-set_of x vs);
      range = λ a b. made (is_between a b) (numbers a (interval_count a b)) (numbers-between a b);
      union = union;
      inter = inter;
      diff = diff;
      with = more_by;
      without = less_by;
      items = items_held;
      dom = keys_held;
      ran = values_held;
    }

pub same_sets : (s t : PlainValue) → IsSet s → IsSet t → IsCanonical s → IsCanonical t → ((x : PlainValue) → has x s ≡ has x t) → s ≡ t
same_sets (set vs) (set ws) i j c d h = ap set (sym (row_items vs) ∙ ap row (same_members (items vs) (items ws) c.0 d.0 h) ∙ row_items ws)
same_sets (set vs) t i j c d h = absurd j
same_sets s t i j c d h = absurd i

no_members : (s : PlainValue) → IsSet s → ((x : PlainValue) → has x s ≡ false) → s ≡ set none
no_members (set none) i h = refl
no_members (set (more v vs)) i h = let e : true ≡ false = sym (is_member-first v (items vs)) ∙ h v in cc
no_members s i h = absurd i

put_back : (x s : PlainValue) → IsSet s → IsCanonical s → has x s ≡ true → rows.with x (rows.without x s) ≡ s
put_back x (set vs) i c m = ap (λ z. set_from (sets.put x z)) (items_row (filter (λ y. not (value_eq y x)) (items vs))) ∙ ap set_from (put-without x (items vs) c.0 m) ∙ ap set (row_items vs)
put_back x s i c m = absurd i

member_told : (x s : PlainValue) → truth_of (rows.member x s) ≡ has x s
member_told x (set vs) = refl
member_told x s = refl

pub subset_told : (s t : PlainValue) → IsSet s → IsSet t → IsSubset s t ↔ IsWithin s t
subset_told (set vs) (set ws) i j = (λ h x m. all_pass-member (λ y. is_member y (items ws)) x (items vs) h m, λ h. member-all_pass (λ y. is_member y (items ws)) (items vs) h)
subset_told (set vs) t i j = absurd j
subset_told s t i j = absurd i

least_there : (s d : PlainValue) → IsSet s → (s ≡ set none → ⊥) → has (rows.least s d) s ≡ true
least_there (set none) d i h = absurd (h refl)
least_there (set (more v vs)) d i h = is_member-first v (items vs)
least_there s d i h = absurd i

least_first : (s d x : PlainValue) → IsCanonical s → Before x (rows.least s d) → has x s ≡ false
least_first (set none) d x c b = refl
least_first (set (more v vs)) d x c b = is_member-after x (v ∷ items vs) (b, AllAfter-before x v (items vs) b c.0.0)
least_first s d x c b = refl

card_more : (x s : PlainValue) → IsSet s → has x s ≡ false → number_of (rows.card (rows.with x s)) ≡ number_of (rows.card s) +ℤ pos 1
card_more x (set vs) i h = let e = ap length (items_row (sets.put x (items vs))) ∙ length-put x (items vs) h in ap (λ n. pos n) e ∙ omega (arith, int_rules)
card_more x s i h = absurd i

card_within : (s t : PlainValue) → IsSubset s t → IsCanonical s → IsCanonical t → number_of (rows.card s) ≤ℤ number_of (rows.card t)
card_within (set vs) (set ws) h c d = length-within (items vs) (items ws) c.0 d.0 ((subset_told (set vs) (set ws) tt tt).0 h)
card_within (set vs) t h c d = cc
card_within s t h c d = cc

sum_more : (x s : PlainValue) → IsSet s → has x s ≡ false → number_of (rows.sum (rows.with x s)) ≡ number_of (rows.sum s) +ℤ number_of x
sum_more x (set vs) i h = ap total (items_row (sets.put x (items vs))) ∙ total-put x (items vs) h
sum_more x s i h = absurd i

sum_within : (s t : PlainValue) → IsSubset s t → IsCanonical s → IsCanonical t → ((x : PlainValue) → has x t ≡ true → pos 0 ≤ℤ number_of x) → number_of (rows.sum s) ≤ℤ number_of (rows.sum t)
sum_within (set vs) (set ws) h c d p = total-within (items vs) (items ws) c.0 d.0 ((subset_told (set vs) (set ws) tt tt).0 h) p
sum_within (set vs) t h c d p = cc
sum_within s t h c d p = cc

before_set : (s t x : PlainValue) → IsSet s → IsSet t → IsCanonical s → IsCanonical t → has x s ≡ false → has x t ≡ true → ((y : PlainValue) → Before y x → has y s ≡ has y t) → Before s t
before_set (set vs) (set ws) x i j c d absent present agree =
    sym (λ k. set_cmp (row_items vs k) (row_items ws k)) ∙ less-LacksLeast (items vs) (items ws) c.0 d.0 (record { least = x; absent = absent; present = present; agree = agree })
before_set (set vs) t x i j c d absent present agree = absurd j
before_set s t x i j c d absent present agree = absurd i

pub laws : SetLaws
laws =
    record {
      same = same_sets;
      empty = no_members;
      with_without = put_back;
      member = member_told;
      subset = subset_told;
      least = least_there;
      least_first = least_first;
      card_none = refl;
      card_with = card_more;
      card_subset = card_within;
      sum_none = refl;
      sum_with = sum_more;
      sum_subset = sum_within;
      before = before_set;
    }
