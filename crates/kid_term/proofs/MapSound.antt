-- The values of the operators on maps have their sorts.
use Rattle.std.proofs.Common.{◌≡◌, Bool, true, false, List, [], ◌∷◌, Ordering, Option, Some, None, Ok, refl, sym, ap, ◌∙◌, cond, subst, map}
use Rattle.std.specs.declared.cmp.Ordering.TheVariants.{Less, Equal, Greater}
use Rattle.std.specs.Prelude.{◌&&◌, not, filter, unwrap_or}
use Rattle.std.specs.List.{list_all}
use Rattle.kid_value.specs.Canonical.{IsCanonical, EntriesAreCanonical}
use Rattle.kid_value.specs.PlainValue.{PlainValue, set, map_of, PlainEntries, no_entry, entry, items, entries}
use Rattle.kid_value.specs.PlainSort.{PlainSort, never, bools, sets, maps, has_sort}
use Rattle.kid_value.specs.SortOrder.{join}
use Rattle.kid_value.specs.Rows.Kinds.{map_from, set_from, set_of_all}
use Rattle.kid_value.specs.Rows.Map.{has_value, has_value_in, cut_down}
use Rattle.kid_value.specs.ValueMap.{keys, lookup, put_entry, put_entry_by}
use Rattle.kid_value.specs.ValueOrder.{value_cmp}
use Rattle.kid_value.specs.ValueSet.{value_eq, is_member, set_of}
use Rattle.kid_value.proofs.RowCanonical.{IsCanonical-put, IsCanonical-drop, IsCanonical-fill, IsCanonical-narrow}
use Rattle.kid_value.proofs.RowLemmas.{entries_table}
use Rattle.kid_value.proofs.SortLemmas.{and_parts, and_both}
use Rattle.kid_value.proofs.ValueSetLaws.{Ascends-union, Ascends-filter}
use Rattle.kid_term.specs.declared.operator.MapOp.{MapOp}
use Rattle.kid_term.specs.declared.operator.MapOp.TheVariants.{Map, Dom, Ran, Get, Put, Drop, Fill, Submap, Fits, Narrow}
use Rattle.kid_term.specs.MapRows.{map_value}
use Rattle.kid_term.specs.MapSorts.{map_sort, with_key, two_maps}
use Rattle.kid_term.specs.Sorted.{Sorted, allowed, with_map, with_set, with_join}
use Rattle.kid_term.specs.Fitting.{IsOfSort, AreOfSorts}
use Rattle.kid_term.proofs.Inversions.{ok, ok_same, with_one_ok, with_two_ok, with_three_ok, with_set_ok, with_join_ok, one_value, two_values, three_values}
use Rattle.kid_term.proofs.LogicSound.{Sound, truth_sound}
use Rattle.kid_term.proofs.Members.{Each, Each-filter, Each-union, set_sound}
use Rattle.kid_term.proofs.Counting.{set_parts}
use Rattle.kid_term.proofs.JoinedSorts.{allowed_sound, IsOfSort-left, IsOfSort-right}

at_values : (o : MapOp) (vs ws : List PlainValue) (s : PlainSort) → vs ≡ ws → Sound s (map_value o ws) → Sound s (map_value o vs)
at_values o vs ws s e h = subst (λ z. Sound s (map_value o z)) (sym e) h

-- ---- what holds of each of a map's keys and values

abbrev pub Perhaps : (PlainValue → Type 0) → Option PlainValue → Type 0
Perhaps Q None = Unit {0}
Perhaps Q (Some v) = Q v

module _ (P Q : PlainValue → Type 0) where
  abbrev pub EachEntry : List (PlainValue × PlainValue) → Type 0
  EachEntry [] = Unit {0}
  EachEntry (e ∷ es) = P e.0 × Q e.1 × EachEntry es

  Each-keys : (es : List (PlainValue × PlainValue)) → EachEntry es → Each P (keys es)
  Each-keys [] h = tt
  Each-keys (e ∷ es) h = (h.0, Each-keys es h.2)

  Each-values : (es : List (PlainValue × PlainValue)) → EachEntry es → Each Q (map (λ e. e.1) es)
  Each-values [] h = tt
  Each-values (e ∷ es) h = (h.1, Each-values es h.2)

  pub found : (x : PlainValue) (es : List (PlainValue × PlainValue)) → EachEntry es → Perhaps Q (lookup x es)
  found x [] h = tt
  found x (e ∷ es) h = by (value_eq x e.0) (found x es h.2)
    where
      by : (c : Bool) → Perhaps Q (lookup x es) → Perhaps Q (cond c (Some e.1) (lookup x es))
      by true k = h.1
      by false k = k

  EachEntry-put : (x y : PlainValue) (es : List (PlainValue × PlainValue)) → P x → Q y → EachEntry es → EachEntry (put_entry x y es)
  EachEntry-put x y [] p q h = (p, q, tt)
  EachEntry-put x y (e ∷ es) p q h = by (value_cmp x e.0) (put_entry x y es) (EachEntry-put x y es p q h.2)
    where
      by : (o : Ordering) (more : List (PlainValue × PlainValue)) → EachEntry more → EachEntry (put_entry_by o x y e es more)
      by Less more k = (p, q, h)
      by Equal more k = (p, q, h.2)
      by Greater more k = (h.0, h.1, k)

  EachEntry-filter : (f : PlainValue × PlainValue → Bool) (es : List (PlainValue × PlainValue)) → EachEntry es → EachEntry (filter f es)
  EachEntry-filter f [] h = tt
  EachEntry-filter f (e ∷ es) h = by (f e) (EachEntry-filter f es h.2)
    where
      by : (c : Bool) → EachEntry (filter f es) → EachEntry (cond c (e ∷ filter f es) (filter f es))
      by true k = (h.0, h.1, k)
      by false k = k

  EachEntry-filled : (x : PlainValue) (vs : List PlainValue) → Q x → Each P vs → EachEntry (map (λ v. (v, x)) vs)
  EachEntry-filled x [] q h = tt
  EachEntry-filled x (v ∷ vs) q h = (h.0, q, EachEntry-filled x vs q h.1)

EachEntry-weaker : (P P' Q Q' : PlainValue → Type 0) → ((v : PlainValue) → P v → P' v) → ((v : PlainValue) → Q v → Q' v) → (es : List (PlainValue × PlainValue)) → EachEntry P Q es → EachEntry P' Q' es
EachEntry-weaker P P' Q Q' f g [] h = tt
EachEntry-weaker P P' Q Q' f g (e ∷ es) h = (f e.0 h.0, g e.1 h.1, EachEntry-weaker P P' Q Q' f g es h.2)

pub unwrapped : (Q : PlainValue → Type 0) (o : Option PlainValue) (d : PlainValue) → Perhaps Q o → Q d → Q (unwrap_or o d)
unwrapped Q None d h k = k
unwrapped Q (Some v) d h k = h

-- ---- values of map sorts

each_entry : (a b : PlainSort) (es : PlainEntries) → list_all (λ e. has_sort a e.0 && has_sort b e.1) (entries es) ≡ true → EntriesAreCanonical es → EachEntry (IsOfSort a) (IsOfSort b) (entries es)
each_entry a b no_entry h c = tt
each_entry a b (entry k v es) h c =
    let r = and_parts (has_sort a k && has_sort b v) (list_all (λ e. has_sort a e.0 && has_sort b e.1) (entries es)) h in
    let q = and_parts (has_sort a k) (has_sort b v) r.0 in
    (record { has = q.0; canonical = c.0 }, record { has = q.1; canonical = c.1 }, each_entry a b es r.1 c.2)

all_have : (a b : PlainSort) (es : List (PlainValue × PlainValue)) → EachEntry (IsOfSort a) (IsOfSort b) es → list_all (λ e. has_sort a e.0 && has_sort b e.1) es ≡ true
all_have a b [] h = refl
all_have a b (e ∷ es) h =
    and_both (has_sort a e.0 && has_sort b e.1) (list_all (λ e. has_sort a e.0 && has_sort b e.1) es) (and_both (has_sort a e.0) (has_sort b e.1) h.0.has h.1.has) (all_have a b es h.2)

-- entries of two sorts make a value of the map sort, where it is canonical
pub entries_sound : (a b : PlainSort) (es : List (PlainValue × PlainValue)) → EachEntry (IsOfSort a) (IsOfSort b) es → IsCanonical (map_from es) → IsOfSort (maps a b) (map_from es)
entries_sound a b es h c = record { has = ap (list_all (λ (e : PlainValue × PlainValue). has_sort a e.0 && has_sort b e.1)) (entries_table es) ∙ all_have a b es h; canonical = c }

with_map_ok : (t : PlainSort) (k : PlainSort → PlainSort → Sorted) (s : PlainSort) → with_map t k ≡ Ok s → (a b : PlainSort) × (t ≡ maps a b) × (k a b ≡ Ok s)
with_map_ok (maps a b) k s p = (a, b, refl, p)
with_map_ok t k s p = cc

map_parts : (a b : PlainSort) (v : PlainValue) → IsOfSort (maps a b) v → (es : PlainEntries) × IsCanonical (map_of es) × (v ≡ map_of es) × EachEntry (IsOfSort a) (IsOfSort b) (entries es)
map_parts a b (map_of es) h = (es, h.canonical, refl, each_entry a b es h.has h.canonical.1)
map_parts a b v h = let no' : false ≡ true = h.has in cc

-- a value of a map sort, and what is made of that
pub record Mapped (v : PlainValue) (k : PlainSort → PlainSort → Sorted) (s : PlainSort) : Type 0 where
  pub a : PlainSort
  pub b : PlainSort
  pub es : PlainEntries
  pub is : v ≡ map_of es
  pub each : EachEntry (IsOfSort a) (IsOfSort b) (entries es)
  pub canonical : IsCanonical (map_of es)
  pub gives : k a b ≡ Ok s

pub mapped_ok : (t : PlainSort) (v : PlainValue) (k : PlainSort → PlainSort → Sorted) (s : PlainSort) → with_map t k ≡ Ok s → IsOfSort t v → Mapped v k s
mapped_ok t v k s p h =
    let x = with_map_ok t k s p in
    let i = map_parts x.0 x.1 v (subst (λ z. IsOfSort z v) x.2 h) in
    record {
      a = x.0;
      b = x.1;
      es = i.0;
      is = i.2;
      each = i.3;
      canonical = i.1;
      gives = x.3;
    }

-- two maps, and what is made of their sorts
record TwoMaps (vs : List PlainValue) (k : PlainSort → PlainSort → PlainSort → Sorted) (s : PlainSort) : Type 0 where
  a : PlainSort
  b : PlainSort
  c : PlainSort
  d : PlainSort
  m : PlainEntries
  n : PlainEntries
  are : vs ≡ map_of m ∷ map_of n ∷ []
  each : EachEntry (IsOfSort a) (IsOfSort b) (entries m)
  each' : EachEntry (IsOfSort c) (IsOfSort d) (entries n)
  canonical : IsCanonical (map_of m)
  gives : k a b d ≡ Ok s

two_maps_ok : (ss : List PlainSort) (vs : List PlainValue) (k : PlainSort → PlainSort → PlainSort → Sorted) (s : PlainSort) → two_maps ss k ≡ Ok s → AreOfSorts ss vs → TwoMaps vs k s
two_maps_ok ss vs k s p h =
    let r = with_two_ok ss (λ m n. with_map m (λ a b. with_map n (λ c d. with_join (join a c) (λ _. k a b d)))) s p in
    let w = two_values r.0 r.1 vs (subst (λ z. AreOfSorts z vs) r.2 h) in
    let q = mapped_ok r.0 w.0 (λ a b. with_map r.1 (λ c d. with_join (join a c) (λ _. k a b d))) s r.3 w.3 in
    let t = mapped_ok r.1 w.1 (λ c d. with_join (join q.a c) (λ _. k q.a q.b d)) s q.gives w.4 in
    record {
      a = q.a;
      b = q.b;
      c = t.a;
      d = t.b;
      m = q.es;
      n = t.es;
      are = w.2 ∙ (λ o. q.is o ∷ t.is o ∷ []);
      each = q.each;
      each' = t.each;
      canonical = q.canonical;
      gives = (with_join_ok (join q.a t.a) (λ _. k q.a q.b t.b) s t.gives).2;
    }

-- ---- the operators

empty_sound : (ss : List PlainSort) (vs : List PlainValue) (s : PlainSort) → map_sort Map ss ≡ Ok s → AreOfSorts ss vs → Sound s (map_value Map vs)
empty_sound [] [] s p h =
    subst (λ z. Sound z (map_from [])) (ok_same (maps never never) s p) (record { of_sort = record { has = refl; canonical = (tt, tt) }; sort_allowed = refl })
empty_sound [] (v ∷ vs) s p h = absurd h
empty_sound (a ∷ ss) vs s p h = cc

get_sound : (ss : List PlainSort) (vs : List PlainValue) (s : PlainSort) → map_sort Get ss ≡ Ok s → AreOfSorts ss vs → Sound s (map_value Get vs)
get_sound ss vs s p h =
    let r = with_three_ok ss (λ m x d. with_key m x (λ a b e. with_join (join b d) allowed)) s p in
    let w = three_values r.0 r.1 r.2 vs (subst (λ z. AreOfSorts z vs) r.3 h) in
    let q = mapped_ok r.0 w.0 (λ a b. with_join (join a r.1) (λ e. with_join (join b r.2) allowed)) s r.4 w.4 in
    let x = with_join_ok (join q.a r.1) (λ e. with_join (join q.b r.2) allowed) s q.gives in
    let y = with_join_ok (join q.b r.2) allowed s x.2 in
    let each = EachEntry-weaker (IsOfSort q.a) (IsOfSort q.a) (IsOfSort q.b) (IsOfSort y.0) (λ v k. k) (λ v k. IsOfSort-left q.b r.2 y.0 v y.1 k) (entries q.es) q.each in
    let other = IsOfSort-right q.b r.2 y.0 w.2 y.1 w.6 in
    at_values Get vs (map_of q.es ∷ w.1 ∷ w.2 ∷ []) s (w.3 ∙ (λ o. q.is o ∷ w.1 ∷ w.2 ∷ []))
    (allowed_sound y.0 s (unwrap_or (lookup w.1 (entries q.es)) w.2)
    (unwrapped (IsOfSort y.0) (lookup w.1 (entries q.es)) w.2 (found (IsOfSort q.a) (IsOfSort y.0) w.1 (entries q.es) each) other) y.2)

put_sound : (ss : List PlainSort) (vs : List PlainValue) (s : PlainSort) → map_sort Put ss ≡ Ok s → AreOfSorts ss vs → Sound s (map_value Put vs)
put_sound ss vs s p h =
    let r = with_three_ok ss (λ m x y. with_key m x (λ a b e. with_join (join b y) (λ v. allowed (maps e v)))) s p in
    let w = three_values r.0 r.1 r.2 vs (subst (λ z. AreOfSorts z vs) r.3 h) in
    let q = mapped_ok r.0 w.0 (λ a b. with_join (join a r.1) (λ e. with_join (join b r.2) (λ v. allowed (maps e v)))) s r.4 w.4 in
    let x = with_join_ok (join q.a r.1) (λ e. with_join (join q.b r.2) (λ v. allowed (maps e v))) s q.gives in
    let y = with_join_ok (join q.b r.2) (λ v. allowed (maps x.0 v)) s x.2 in
    let each = EachEntry-weaker (IsOfSort q.a) (IsOfSort x.0) (IsOfSort q.b) (IsOfSort y.0) (λ v k. IsOfSort-left q.a r.1 x.0 v x.1 k) (λ v k. IsOfSort-left q.b r.2 y.0 v y.1 k) (entries q.es) q.each in
    let key = IsOfSort-right q.a r.1 x.0 w.1 x.1 w.5 in
    let value = IsOfSort-right q.b r.2 y.0 w.2 y.1 w.6 in
    at_values Put vs (map_of q.es ∷ w.1 ∷ w.2 ∷ []) s (w.3 ∙ (λ o. q.is o ∷ w.1 ∷ w.2 ∷ []))
    (allowed_sound (maps x.0 y.0) s (map_from (put_entry w.1 w.2 (entries q.es)))
    (entries_sound x.0 y.0 (put_entry w.1 w.2 (entries q.es)) (EachEntry-put (IsOfSort x.0) (IsOfSort y.0) w.1 w.2 (entries q.es) key value each)
    (IsCanonical-put (map_of q.es) w.1 w.2 q.canonical w.5.canonical w.6.canonical)) y.2)

drop_sound : (ss : List PlainSort) (vs : List PlainValue) (s : PlainSort) → map_sort Drop ss ≡ Ok s → AreOfSorts ss vs → Sound s (map_value Drop vs)
drop_sound ss vs s p h =
    let r = with_two_ok ss (λ m x. with_key m x (λ a b e. allowed (maps a b))) s p in
    let w = two_values r.0 r.1 vs (subst (λ z. AreOfSorts z vs) r.2 h) in
    let q = mapped_ok r.0 w.0 (λ a b. with_join (join a r.1) (λ e. allowed (maps a b))) s r.3 w.3 in
    let x = with_join_ok (join q.a r.1) (λ e. allowed (maps q.a q.b)) s q.gives in
    at_values Drop vs (map_of q.es ∷ w.1 ∷ []) s (w.2 ∙ (λ o. q.is o ∷ w.1 ∷ []))
    (allowed_sound (maps q.a q.b) s (map_from (filter (λ e. not (value_eq e.0 w.1)) (entries q.es)))
    (entries_sound q.a q.b (filter (λ e. not (value_eq e.0 w.1)) (entries q.es)) (EachEntry-filter (IsOfSort q.a) (IsOfSort q.b) (λ e. not (value_eq e.0 w.1)) (entries q.es) q.each)
    (IsCanonical-drop (map_of q.es) w.1 q.canonical)) x.2)

fill_sound : (ss : List PlainSort) (vs : List PlainValue) (s : PlainSort) → map_sort Fill ss ≡ Ok s → AreOfSorts ss vs → Sound s (map_value Fill vs)
fill_sound ss vs s p h =
    let r = with_two_ok ss (λ t x. with_set t (λ a. allowed (maps a x))) s p in
    let w = two_values r.0 r.1 vs (subst (λ z. AreOfSorts z vs) r.2 h) in
    let x = with_set_ok r.0 (λ a. allowed (maps a r.1)) s r.3 in
    let i = set_parts x.0 w.0 (subst (λ z. IsOfSort z w.0) x.1 w.3) in
    let c : IsCanonical (set i.0) = subst IsCanonical i.1 w.3.canonical in
    at_values Fill vs (set i.0 ∷ w.1 ∷ []) s (w.2 ∙ (λ o. i.1 o ∷ w.1 ∷ []))
    (allowed_sound (maps x.0 r.1) s (map_from (map (λ v. (v, w.1)) (items i.0)))
    (entries_sound x.0 r.1 (map (λ v. (v, w.1)) (items i.0)) (EachEntry-filled (IsOfSort x.0) (IsOfSort r.1) w.1 (items i.0) w.4 i.2)
    (IsCanonical-fill (set i.0) w.1 c w.4.canonical)) x.2)

-- a set that is cut down to another's members
cut : (x y : PlainSort) (v : PlainValue) (o : Option PlainValue) → IsOfSort (sets x) v → Perhaps (IsOfSort (sets y)) o → IsOfSort (sets x) (cut_down v o)
cut x y v None h k = h
cut x y v (Some w) h k =
    let i = set_parts x v h in
    let j = set_parts y w k in
    subst (λ z. IsOfSort (sets x) (cut_down z (Some w))) (sym i.1)
    (subst (λ z. IsOfSort (sets x) (cut_down (set i.0) (Some z))) (sym j.1)
    (set_sound x (filter (λ u. is_member u (items j.0)) (items i.0))
    (record { each = Each-filter (IsOfSort x) (λ u. is_member u (items j.0)) (items i.0) i.2; ascends = Ascends-filter (λ u. is_member u (items j.0)) (items i.0) i.3 })))

EachEntry-narrowed : (a c x y : PlainSort) (n es : List (PlainValue × PlainValue)) → EachEntry (IsOfSort c) (IsOfSort (sets y)) n → EachEntry (IsOfSort a) (IsOfSort (sets x)) es
    → EachEntry (IsOfSort a) (IsOfSort (sets x)) (map (λ e. (e.0, cut_down e.1 (lookup e.0 n))) es)
EachEntry-narrowed a c x y n [] k h = tt
EachEntry-narrowed a c x y n (e ∷ es) k h = (h.0, cut x y e.1 (lookup e.0 n) h.1 (found (IsOfSort c) (IsOfSort (sets y)) e.0 n k), EachEntry-narrowed a c x y n es k h.2)

narrow_sound : (ss : List PlainSort) (vs : List PlainValue) (s : PlainSort) → map_sort Narrow ss ≡ Ok s → AreOfSorts ss vs → Sound s (map_value Narrow vs)
narrow_sound ss vs s p h =
    let r = two_maps_ok ss vs (λ a b d. with_set b (λ x. with_set d (λ y. with_join (join x y) (λ _. allowed (maps a b))))) s p h in
    let x = with_set_ok r.b (λ x. with_set r.d (λ y. with_join (join x y) (λ _. allowed (maps r.a r.b)))) s r.gives in
    let y = with_set_ok r.d (λ y. with_join (join x.0 y) (λ _. allowed (maps r.a r.b))) s x.2 in
    let z = with_join_ok (join x.0 y.0) (λ _. allowed (maps r.a r.b)) s y.2 in
    let each = subst (λ b. EachEntry (IsOfSort r.a) (IsOfSort b) (entries r.m)) x.1 r.each in
    let each' = subst (λ d. EachEntry (IsOfSort r.c) (IsOfSort d) (entries r.n)) y.1 r.each' in
    at_values Narrow vs (map_of r.m ∷ map_of r.n ∷ []) s r.are
    (allowed_sound (maps r.a (sets x.0)) s (map_from (map (λ e. (e.0, cut_down e.1 (lookup e.0 (entries r.n)))) (entries r.m)))
    (entries_sound r.a (sets x.0) (map (λ e. (e.0, cut_down e.1 (lookup e.0 (entries r.n)))) (entries r.m)) (EachEntry-narrowed r.a r.c x.0 y.0 (entries r.n) (entries r.m) each' each)
    (IsCanonical-narrow (map_of r.m) (map_of r.n) r.canonical))
    (subst (λ b. allowed (maps r.a b) ≡ ok s) x.1 z.2))

pub map_sound : (o : MapOp) (ss : List PlainSort) (vs : List PlainValue) (s : PlainSort) → map_sort o ss ≡ Ok s → AreOfSorts ss vs → Sound s (map_value o vs)
map_sound Map ss vs s p h = empty_sound ss vs s p h
map_sound Dom ss vs s p h =
    let r = with_one_ok ss (λ m. with_map m (λ a b. allowed (sets a))) s p in
    let w = one_value r.0 vs (subst (λ z. AreOfSorts z vs) r.1 h) in
    let q = mapped_ok r.0 w.0 (λ a b. allowed (sets a)) s r.2 w.2 in
    at_values Dom vs (map_of q.es ∷ []) s (w.1 ∙ (λ o. q.is o ∷ []))
    (allowed_sound (sets q.a) s (set_from (keys (entries q.es)))
    (set_sound q.a (keys (entries q.es)) (record { each = Each-keys (IsOfSort q.a) (IsOfSort q.b) (entries q.es) q.each; ascends = q.canonical.0 })) q.gives)
map_sound Ran ss vs s p h =
    let r = with_one_ok ss (λ m. with_map m (λ a b. allowed (sets b))) s p in
    let w = one_value r.0 vs (subst (λ z. AreOfSorts z vs) r.1 h) in
    let q = mapped_ok r.0 w.0 (λ a b. allowed (sets b)) s r.2 w.2 in
    let values = map (λ (e : PlainValue × PlainValue). e.1) (entries q.es) in
    at_values Ran vs (map_of q.es ∷ []) s (w.1 ∙ (λ o. q.is o ∷ []))
    (allowed_sound (sets q.b) s (set_of_all values)
    (set_sound q.b (set_of values)
    (record { each = Each-union (IsOfSort q.b) values [] (Each-values (IsOfSort q.a) (IsOfSort q.b) (entries q.es) q.each) tt; ascends = Ascends-union values [] tt })) q.gives)
map_sound Get ss vs s p h = get_sound ss vs s p h
map_sound Put ss vs s p h = put_sound ss vs s p h
map_sound Drop ss vs s p h = drop_sound ss vs s p h
map_sound Fill ss vs s p h = fill_sound ss vs s p h
map_sound Submap ss vs s p h =
    let r = two_maps_ok ss vs (λ a b d. with_join (join b d) (λ _. ok bools)) s p h in
    let y = with_join_ok (join r.b r.d) (λ _. ok bools) s r.gives in
    at_values Submap vs (map_of r.m ∷ map_of r.n ∷ []) s r.are
    (truth_sound (list_all (λ e. has_value (lookup e.0 (entries r.n)) e.1) (entries r.m)) s y.2)
map_sound Fits ss vs s p h =
    let r = two_maps_ok ss vs (λ a b d. with_set d (λ e. with_join (join b e) (λ _. ok bools))) s p h in
    let x = with_set_ok r.d (λ e. with_join (join r.b e) (λ _. ok bools)) s r.gives in
    let y = with_join_ok (join r.b x.0) (λ _. ok bools) s x.2 in
    at_values Fits vs (map_of r.m ∷ map_of r.n ∷ []) s r.are
    (truth_sound (list_all (λ e. has_value_in (lookup e.0 (entries r.m)) e.1) (entries r.n)) s y.2)
map_sound Narrow ss vs s p h = narrow_sound ss vs s p h
