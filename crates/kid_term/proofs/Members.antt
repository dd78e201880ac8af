-- What holds of each of a list's values, and the sets of such values.
use Rattle.std.proofs.Common.{◌≡◌, Bool, true, false, List, [], ◌∷◌, Ordering, refl, sym, ap, ◌∙◌, cond, subst, map}
use Rattle.std.specs.declared.cmp.Ordering.TheVariants.{Less, Equal, Greater}
use Rattle.std.specs.Prelude.{filter}
use Rattle.std.specs.List.{list_all}
use Rattle.kid_value.specs.PlainValue.{PlainValue, int, bool, pair, set, seq, map_of, tag, PlainValues, none, more, items, row}
use Rattle.kid_value.specs.PlainSort.{PlainSort, sets, has_sort}
use Rattle.kid_value.specs.Canonical.{AreCanonical}
use Rattle.kid_value.specs.ValueOrder.{value_cmp}
use Rattle.kid_value.specs.ValueSet.{Ascends, put, put_by, union}
use Rattle.kid_value.specs.Rows.Parts.{members_of}
use Rattle.kid_value.specs.Rows.Kinds.{set_from}
use Rattle.kid_value.proofs.RowLemmas.{items_row}
use Rattle.kid_value.proofs.SortLemmas.{and_parts, and_both}
use Rattle.kid_term.specs.Fitting.{IsOfSort}

module _ (P : PlainValue → Type 0) where
  abbrev pub Each : List PlainValue → Type 0
  Each [] = Unit {0}
  Each (v ∷ vs) = P v × Each vs

  pub Each-filter : (q : PlainValue → Bool) (vs : List PlainValue) → Each vs → Each (filter q vs)
  Each-filter q [] h = tt
  Each-filter q (v ∷ vs) h = by (q v) (Each-filter q vs h.1)
    where
      by : (c : Bool) → Each (filter q vs) → Each (cond c (v ∷ filter q vs) (filter q vs))
      by true k = (h.0, k)
      by false k = k

  pub Each-put : (v : PlainValue) (ws : List PlainValue) → P v → Each ws → Each (put v ws)
  Each-put v [] p h = (p, tt)
  Each-put v (w ∷ ws) p h = by (value_cmp v w) (Each-put v ws p h.1)
    where
      by : (o : Ordering) → Each (put v ws) → Each (put_by o v w ws (put v ws))
      by Less k = (p, h)
      by Equal k = h
      by Greater k = (h.0, k)

  pub Each-union : (vs ws : List PlainValue) → Each vs → Each ws → Each (union vs ws)
  Each-union [] ws h k = k
  Each-union (v ∷ vs) ws h k = Each-put v (union vs ws) h.0 (Each-union vs ws h.1 k)

  pub list_all-Each : (q : PlainValue → Bool) → ((v : PlainValue) → P v → q v ≡ true) → (vs : List PlainValue) → Each vs → list_all q vs ≡ true
  list_all-Each q k [] h = refl
  list_all-Each q k (v ∷ vs) h = and_both (q v) (list_all q vs) (k v h.0) (list_all-Each q k vs h.1)

pub Each-map : (P Q : PlainValue → Type 0) (f : PlainValue → PlainValue) → ((v : PlainValue) → P v → Q (f v)) → (vs : List PlainValue) → Each P vs → Each Q (map f vs)
Each-map P Q f k [] h = tt
Each-map P Q f k (v ∷ vs) h = (k v h.0, Each-map P Q f k vs h.1)

pub Each-items : (a : PlainSort) (vs : PlainValues) → list_all (has_sort a) (items vs) ≡ true → AreCanonical vs → Each (IsOfSort a) (items vs)
Each-items a none h k = tt
Each-items a (more v vs) h k =
    let r = and_parts (has_sort a v) (list_all (has_sort a) (items vs)) h in (record { has = r.0; canonical = k.0 }, Each-items a vs r.1 k.1)

-- the members of a set ascend and are of the element sort
pub record AreMembers (a : PlainSort) (vs : List PlainValue) : Type 0 where
  pub each : Each (IsOfSort a) vs
  pub ascends : Ascends vs

pub members_sound : (a : PlainSort) (w : PlainValue) → IsOfSort (sets a) w → AreMembers a (members_of w)
members_sound a (set vs) h = record { each = Each-items a vs h.has h.canonical.1; ascends = h.canonical.0 }
members_sound a (int n) h = let no' : false ≡ true = h.has in cc
members_sound a (bool b) h = let no' : false ≡ true = h.has in cc
members_sound a (pair v w) h = let no' : false ≡ true = h.has in cc
members_sound a (seq vs) h = let no' : false ≡ true = h.has in cc
members_sound a (map_of es) h = let no' : false ≡ true = h.has in cc
members_sound a (tag n) h = let no' : false ≡ true = h.has in cc

pub AreCanonical-row : (a : PlainSort) (vs : List PlainValue) → Each (IsOfSort a) vs → AreCanonical (row vs)
AreCanonical-row a [] h = tt
AreCanonical-row a (v ∷ vs) h = (h.0.canonical, AreCanonical-row a vs h.1)

-- a list of that kind makes a set
pub set_sound : (a : PlainSort) (vs : List PlainValue) → AreMembers a vs → IsOfSort (sets a) (set_from vs)
set_sound a vs h =
    record {
      has = ap (list_all (has_sort a)) (items_row vs) ∙ list_all-Each (IsOfSort a) (has_sort a) (λ v k. k.has) vs h.each;
      canonical = (subst Ascends (sym (items_row vs)) h.ascends, AreCanonical-row a vs h.each);
    }
