-- The numbers of sets and maps: a place for each member or key, the least member highest.
use Rattle.std.proofs.Common.{◌≡◌, ℕ, suc, ◌+◌, ◌-◌, ◌*◌, ◌^◌, ◌<◌, List, [], ◌∷◌, Ordering, refl, ap, subst, arith}
use Rattle.std.specs.declared.cmp.Ordering.TheVariants.{Less, Equal, Greater}
use Rattle.std.specs.Ordering.{ordering_then, ordering_reverse}
use Rattle.kid_value.specs.PlainValue.{PlainValue, PlainValues, none, more, PlainEntries, no_entry, entry, items}
use Rattle.kid_value.specs.ValueOrder.{value_cmp, set_cmp, map_cmp}
use Rattle.kid_value.specs.ValueSet.{Ascends, AllAfter}
use Rattle.kid_value.proofs.ValueOrderLaws.{value_cmp-equal}
use Rattle.kid_value.proofs.ValueSetLaws.{Before-greater}
use Rattle.kid_term.proofs.Members.{Each}
use Rattle.kid_term.proofs.Digits.{number_of_digits, Placed, later-lt, digit-lt, number-lt}
use Rattle.kid_term.proofs.Ranks.{Ranked}

pub two_large : 0 < 2
two_large = omega arith

abbrev pub places_of : (PlainValue → ℕ) → List PlainValue → List (ℕ × ℕ)
places_of r [] = []
places_of r (v ∷ vs) = (r v, 1) ∷ places_of r vs

abbrev pub set_number : ℕ → (PlainValue → ℕ) → List PlainValue → ℕ
set_number n r vs = number_of_digits n 2 two_large (places_of r vs)

module _ (P : PlainValue → Type 0) (r : PlainValue → ℕ) (n : ℕ) (k : Ranked P r n) where
  placed_after : (x : PlainValue) (vs : List PlainValue) → P x → Each P vs → AllAfter x vs → Ascends vs → Placed n 2 two_large (suc (r x)) (places_of r vs)
  placed_after x [] p h b a = tt
  placed_after x (v ∷ vs) p h b a = (k.grows x v p h.0 b.0, k.below v h.0, omega arith, omega arith, placed_after v vs h.0 h.1 a.0 a.1)

  placed : (vs : List PlainValue) → Each P vs → Ascends vs → Placed n 2 two_large 0 (places_of r vs)
  placed [] h a = tt
  placed (v ∷ vs) h a = (omega arith, k.below v h.0, omega arith, omega arith, placed_after v vs h.0 h.1 a.0 a.1)

  pub set_number-below : (vs : List PlainValue) → Each P vs → Ascends vs → set_number n r vs < 2 ^ n
  set_number-below vs h a =
      let e : n - 0 ≡ n = omega arith in
      subst (λ z. set_number n r vs < 2 ^ z) e (number-lt n 2 two_large (places_of r vs) 0 (omega arith) (placed vs h a))

  pub set_number-lt : (vs ws : PlainValues) → Each P (items vs) → Ascends (items vs) → Each P (items ws) → Ascends (items ws) → set_cmp vs ws ≡ Less
      → set_number n r (items vs) < set_number n r (items ws)
  set_number-lt none none h a h' a' p = cc
  set_number-lt none (more w ws) h a h' a' p = later-lt n 2 two_large [] (places_of r (items ws)) (r w) 1 (k.below w h'.0) (omega arith) tt
  set_number-lt (more v vs) none h a h' a' p = cc
  set_number-lt (more v vs) (more w ws) h a h' a' p = by (value_cmp v w) refl p (set_number-lt vs ws h.1 a.1 h'.1 a'.1)
    where
      by : (o : Ordering) → value_cmp v w ≡ o → ordering_then (ordering_reverse o) (set_cmp vs ws) ≡ Less
          → (set_cmp vs ws ≡ Less → set_number n r (items vs) < set_number n r (items ws)) → set_number n r (items (more v vs)) < set_number n r (items (more w ws))
      by Less e q ih = cc
      by Equal e q ih =
          let s : r v ≡ r w = ap r (value_cmp-equal v w e) in
          let t : 2 ^ (n - suc (r v)) ≡ 2 ^ (n - suc (r w)) = ap (λ z. 2 ^ (n - suc z)) s in
          omega (arith, ih q, t)
      by Greater e q ih =
          later-lt n 2 two_large (places_of r (items (more v vs))) (places_of r (items ws)) (r w) 1 (k.below w h'.0) (omega arith)
          (k.grows w v h'.0 h.0 (Before-greater v w e), k.below v h.0, omega arith, omega arith, placed_after v (items vs) h.0 h.1 a.0 a.1)

-- ---- maps

abbrev pub keys_in : PlainEntries → List PlainValue
keys_in no_entry = []
keys_in (entry k v es) = k ∷ keys_in es

abbrev pub EachEntry : (PlainValue → Type 0) → (PlainValue → Type 0) → PlainEntries → Type 0
EachEntry P Q no_entry = Unit {0}
EachEntry P Q (entry k v es) = P k × Q v × EachEntry P Q es

abbrev pub places_in : (PlainValue → ℕ) → (PlainValue → ℕ) → PlainEntries → List (ℕ × ℕ)
places_in r q no_entry = []
places_in r q (entry k v es) = (r k, q v + 1) ∷ places_in r q es

pub one_more_large : (m : ℕ) → 0 < m + 1
one_more_large m = omega arith

abbrev pub map_number : ℕ → ℕ → (PlainValue → ℕ) → (PlainValue → ℕ) → PlainEntries → ℕ
map_number n m r q es = number_of_digits n (m + 1) (one_more_large m) (places_in r q es)

module _ (P Q : PlainValue → Type 0) (r q : PlainValue → ℕ) (n m : ℕ) (k : Ranked P r n) (l : Ranked Q q m) where
  entries_after : (x : PlainValue) (es : PlainEntries) → P x → EachEntry P Q es → AllAfter x (keys_in es) → Ascends (keys_in es) → Placed n (m + 1) (one_more_large m) (suc (r x)) (places_in r q es)
  entries_after x no_entry p h b a = tt
  entries_after x (entry y v es) p h b a = (k.grows x y p h.0 b.0, k.below y h.0, omega arith, omega (arith, l.below v h.1), entries_after y es h.0 h.2 a.0 a.1)

  entries_placed : (es : PlainEntries) → EachEntry P Q es → Ascends (keys_in es) → Placed n (m + 1) (one_more_large m) 0 (places_in r q es)
  entries_placed no_entry h a = tt
  entries_placed (entry y v es) h a = (omega arith, k.below y h.0, omega arith, omega (arith, l.below v h.1), entries_after y es h.0 h.2 a.0 a.1)

  pub map_number-below : (es : PlainEntries) → EachEntry P Q es → Ascends (keys_in es) → map_number n m r q es < (m + 1) ^ n
  map_number-below es h a =
      let e : n - 0 ≡ n = omega arith in
      subst (λ z. map_number n m r q es < (m + 1) ^ z) e (number-lt n (m + 1) (one_more_large m) (places_in r q es) 0 (omega arith) (entries_placed es h a))

  pub map_number-lt : (ds es : PlainEntries) → EachEntry P Q ds → Ascends (keys_in ds) → EachEntry P Q es → Ascends (keys_in es) → map_cmp ds es ≡ Less → map_number n m r q ds < map_number n m r q es
  map_number-lt no_entry no_entry h a h' a' p = cc
  map_number-lt no_entry (entry y w es) h a h' a' p = later-lt n (m + 1) (one_more_large m) [] (places_in r q es) (r y) (q w + 1) (k.below y h'.0) (omega arith) tt
  map_number-lt (entry x v ds) no_entry h a h' a' p = cc
  map_number-lt (entry x v ds) (entry y w es) h a h' a' p = by (value_cmp x y) refl p (map_number-lt ds es h.2 a.1 h'.2 a'.1)
    where
      by_value : r x ≡ r y → (o : Ordering) → value_cmp v w ≡ o → ordering_then o (map_cmp ds es) ≡ Less → (map_cmp ds es ≡ Less → map_number n m r q ds < map_number n m r q es)
          → map_number n m r q (entry x v ds) < map_number n m r q (entry y w es)
      by_value s Less e t ih =
          let u : q v < q w = l.grows v w h.1 h'.1 e in
          subst (λ z. map_number n m r q (entry x v ds) < number_of_digits n (m + 1) (one_more_large m) ((z, q w + 1) ∷ places_in r q es)) s
          (digit-lt n (m + 1) (one_more_large m) (places_in r q ds) (places_in r q es) (r x) (q v + 1) (q w + 1) (k.below x h.0) (omega arith) (entries_after x ds h.0 h.2 a.0 a.1))
      by_value s Equal e t ih =
          let u : (q v + 1) * (m + 1) ^ (n - suc (r x)) ≡ (q w + 1) * (m + 1) ^ (n - suc (r y)) = (λ i. (q (value_cmp-equal v w e i) + 1) * (m + 1) ^ (n - suc (s i))) in
          omega (arith, ih t, u)
      by_value s Greater e t ih = cc

      by : (o : Ordering) → value_cmp x y ≡ o → ordering_then (ordering_reverse o) (ordering_then (value_cmp v w) (map_cmp ds es)) ≡ Less
          → (map_cmp ds es ≡ Less → map_number n m r q ds < map_number n m r q es) → map_number n m r q (entry x v ds) < map_number n m r q (entry y w es)
      by Less e t ih = cc
      by Equal e t ih = by_value (ap r (value_cmp-equal x y e)) (value_cmp v w) refl t ih
      by Greater e t ih =
          later-lt n (m + 1) (one_more_large m) (places_in r q (entry x v ds)) (places_in r q es) (r y) (q w + 1) (k.below y h'.0) (omega arith)
          (k.grows y x h'.0 h.0 (Before-greater x y e), k.below x h.0, omega arith, omega (arith, l.below v h.1), entries_after x ds h.0 h.2 a.0 a.1)
