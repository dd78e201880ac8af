-- Entries that are put into a map that lacks their keys, and maps that have the same value at each key.
use Rattle.std.proofs.Common.{◌≡◌, ◌⊎◌, inl, inr, Bool, true, false, List, [], ◌∷◌, Option, Some, None, refl, sym, ap, ◌∙◌, cond, subst}
use Rattle.std.specs.Prelude.{is_some, if◌then◌else◌}
use Rattle.kid_value.specs.PlainValue.{PlainValue}
use Rattle.kid_value.specs.ValueMap.{keys, lookup, put_entry}
use Rattle.kid_value.specs.ValueSet.{AllAfter, Ascends, value_eq, is_member}
use Rattle.kid_value.proofs.CanonicalLemmas.{keys-put_entry}
use Rattle.kid_value.proofs.EntryLemmas.{lookup-put_entry}
use Rattle.kid_value.proofs.RowMeaning.{is_member-keys}
use Rattle.kid_value.proofs.ValueSetLaws.{Ascends-put, same_members, value_eq-itself, value_eq-true}
use Rattle.kid_codec.specs.Reading.{◌>>=◌}
use Rattle.kid_codec.specs.ValueSpelling.{with_entry, with_entries}
use Rattle.kid_codec.proofs.Found.{same_some, bind_some}

lookup-after : (k : PlainValue) (es : List (PlainValue × PlainValue)) → AllAfter k (keys es) → lookup k es ≡ None
lookup-after k [] a = refl
lookup-after k (e ∷ es) a = rw (a.0) (lookup-after k es a.1)

pub lookup-first : (e : PlainValue × PlainValue) (es : List (PlainValue × PlainValue)) → lookup e.0 (e ∷ es) ≡ Some e.1
lookup-first e es = ap (λ c. cond c (Some e.1) (lookup e.0 es)) (value_eq-itself e.0)

lookup-later : (k : PlainValue) (e : PlainValue × PlainValue) (es : List (PlainValue × PlainValue)) → value_eq k e.0 ≡ false → lookup k (e ∷ es) ≡ lookup k es
lookup-later k e es p = ap (λ c. cond c (Some e.1) (lookup k es)) p

-- what stands behind the first entry of an ascending map
pub lookup-behind : (e : PlainValue × PlainValue) (es : List (PlainValue × PlainValue)) (k v : PlainValue) → AllAfter e.0 (keys es) → lookup k es ≡ Some v → lookup k (e ∷ es) ≡ Some v
lookup-behind e es k v a p = by_cases (value_eq k e.0) refl
  where
    by_cases : (c : Bool) → value_eq k e.0 ≡ c → cond c (Some e.1) (lookup k es) ≡ Some v
    by_cases true f = let none : lookup k es ≡ None = ap (λ x. lookup x es) (value_eq-true k e.0 f) ∙ lookup-after e.0 es a in cc
    by_cases false f = p

-- what two maps of the same keys have behind their first entries
same_rest : (k : PlainValue) (d e : PlainValue × PlainValue) (m n : List (PlainValue × PlainValue)) → AllAfter d.0 (keys m) → d.0 ≡ e.0 → keys m ≡ keys n → lookup k (d ∷ m) ≡ lookup k (e ∷ n) → lookup k m ≡ lookup k n
same_rest k d e m n a p q h = by_cases (value_eq k d.0) refl
  where
    by_cases : (c : Bool) → value_eq k d.0 ≡ c → lookup k m ≡ lookup k n
    by_cases true f =
        let g : k ≡ d.0 = value_eq-true k d.0 f in
        ap (λ x. lookup x m) g ∙ lookup-after d.0 m a ∙ sym (lookup-after d.0 n (subst (AllAfter d.0) q a)) ∙ ap (λ x. lookup x n) (sym g)
    by_cases false f = sym (lookup-later k d m f) ∙ h ∙ lookup-later k e n (ap (value_eq k) (sym p) ∙ f)

same_values : (m n : List (PlainValue × PlainValue)) → Ascends (keys m) → keys m ≡ keys n → ((k : PlainValue) → lookup k m ≡ lookup k n) → m ≡ n
same_values [] [] a p h = refl
same_values [] (e ∷ n) a p h = cc
same_values (d ∷ m) [] a p h = cc
same_values (d ∷ m) (e ∷ n) a p h =
    let q : d.0 ≡ e.0 = cc in
    let r : keys m ≡ keys n = cc in
    let s : d.1 ≡ e.1 = same_some d.1 e.1 (sym (lookup-first d m) ∙ h d.0 ∙ ap (λ k. lookup k (e ∷ n)) q ∙ lookup-first e n) in
    let t : m ≡ n = same_values m n a.1 r (λ k. same_rest k d e m n a.0 q r (h k)) in
    λ i. (q i, s i) ∷ t i

same_option : {A : Type 0} (a b : Option A) → ((v : A) → a ≡ Some v → b ≡ Some v) → ((v : A) → b ≡ Some v → a ≡ Some v) → a ≡ b
same_option (Some v) b f g = sym (f v refl)
same_option None (Some v) f g = g v refl
same_option None None f g = refl

-- two maps that have the same value at each key are one
pub same_lookups : (m n : List (PlainValue × PlainValue)) → Ascends (keys m) → Ascends (keys n) → ((k v : PlainValue) → lookup k m ≡ Some v → lookup k n ≡ Some v)
    → ((k v : PlainValue) → lookup k n ≡ Some v → lookup k m ≡ Some v) → m ≡ n
same_lookups m n a b f g =
    let h : (k : PlainValue) → lookup k m ≡ lookup k n = λ k. same_option (lookup k m) (lookup k n) (f k) (g k) in
    same_values m n a (same_members (keys m) (keys n) a b (λ k. is_member-keys k m ∙ ap is_some (h k) ∙ sym (is_member-keys k n))) h

-- the list has the entry
abbrev pub HasEntry : PlainValue → PlainValue → List (PlainValue × PlainValue) → Type 0
HasEntry k v [] = ⊥
HasEntry k v (e ∷ es) = (e ≡ (k, v)) ⊎ HasEntry k v es

pub not_known : (k v : PlainValue) (es : List (PlainValue × PlainValue)) → (None ≡ Some v) ⊎ HasEntry k v es → HasEntry k v es
not_known k v es (inl p) = cc
not_known k v es (inr q) = q

-- each entry's key is new to what is known with those before it
abbrev pub AreNew : List (PlainValue × PlainValue) → List (PlainValue × PlainValue) → Type 0
AreNew known [] = Unit {0}
AreNew known (e ∷ es) = (lookup e.0 known ≡ None) × AreNew (put_entry e.0 e.1 known) es

pub put_at : (k v : PlainValue) (e : PlainValue × PlainValue) (known : List (PlainValue × PlainValue)) → e ≡ (k, v) → lookup k (put_entry e.0 e.1 known) ≡ Some v
put_at k v e known p =
    ap (λ x. lookup x (put_entry e.0 e.1 known)) (sym (ap (λ (x : PlainValue × PlainValue). x.0) p))
    ∙ lookup-put_entry e.0 e.0 e.1 known ∙ ap (λ c. cond c (Some e.1) (lookup e.0 known)) (value_eq-itself e.0)
    ∙ ap (λ (x : PlainValue × PlainValue). Some x.1) p

none_below : (c : Bool) (v : PlainValue) (o : Option PlainValue) → cond c (Some v) o ≡ None → o ≡ None
none_below true v o p = cc
none_below false v o p = p

-- what is new is not known
pub new_key : (k v : PlainValue) (known es : List (PlainValue × PlainValue)) → AreNew known es → HasEntry k v es → lookup k known ≡ None
new_key k v known [] n h = absurd h
new_key k v known (e ∷ es) n h =
    elim h [
      | inl p ↦ ap (λ x. lookup x known) (sym (ap (λ (x : PlainValue × PlainValue). x.0) p)) ∙ n.0
      | inr q ↦ none_below (value_eq k e.0) e.1 (lookup k known) (sym (lookup-put_entry k e.0 e.1 known) ∙ new_key k v (put_entry e.0 e.1 known) es n.1 q)
    ]

-- another key stays away
pub put_away : (k : PlainValue) (e : PlainValue × PlainValue) (known : List (PlainValue × PlainValue)) → lookup k known ≡ None → (k ≡ e.0 → ⊥) → lookup k (put_entry e.0 e.1 known) ≡ None
put_away k e known p other = lookup-put_entry k e.0 e.1 known ∙ by_cases (value_eq k e.0) refl
  where
    by_cases : (c : Bool) → value_eq k e.0 ≡ c → cond c (Some e.1) (lookup k known) ≡ None
    by_cases true f = absurd (other (value_eq-true k e.0 f))
    by_cases false f = p

put_has : (k v : PlainValue) (e : PlainValue × PlainValue) (known : List (PlainValue × PlainValue)) → lookup k (put_entry e.0 e.1 known) ≡ Some v → (e ≡ (k, v)) ⊎ (lookup k known ≡ Some v)
put_has k v e known p = by_cases (value_eq k e.0) refl (sym (lookup-put_entry k e.0 e.1 known) ∙ p)
  where
    by_cases : (c : Bool) → value_eq k e.0 ≡ c → cond c (Some e.1) (lookup k known) ≡ Some v → (e ≡ (k, v)) ⊎ (lookup k known ≡ Some v)
    by_cases true f q = let a : k ≡ e.0 = value_eq-true k e.0 f in let b : e.1 ≡ v = same_some e.1 v q in inl (λ i. (sym a i, b i))
    by_cases false f q = inr q

put_keeps : (k v : PlainValue) (e : PlainValue × PlainValue) (known : List (PlainValue × PlainValue)) → lookup e.0 known ≡ None → lookup k known ≡ Some v → lookup k (put_entry e.0 e.1 known) ≡ Some v
put_keeps k v e known new p = lookup-put_entry k e.0 e.1 known ∙ by_cases (value_eq k e.0) refl
  where
    by_cases : (c : Bool) → value_eq k e.0 ≡ c → cond c (Some e.1) (lookup k known) ≡ Some v
    by_cases true f = let a : lookup k known ≡ None = ap (λ x. lookup x known) (value_eq-true k e.0 f) ∙ new in cc
    by_cases false f = p

no_value : (o : Option PlainValue) → is_some o ≡ false → o ≡ None
no_value (Some v) p = cc
no_value None p = refl

with_new : (known : List (PlainValue × PlainValue)) (e : PlainValue × PlainValue) → lookup e.0 known ≡ None → with_entry known e ≡ Some (put_entry e.0 e.1 known)
with_new known e p =
    let q : is_member e.0 (keys known) ≡ false = is_member-keys e.0 known ∙ ap is_some p in
    ap (λ (b : Bool). if b then None else Some (put_entry e.0 e.1 known)) q

-- the map of known entries and new ones
pub record Joined (known es : List (PlainValue × PlainValue)) : Type 0 where
  pub whole : List (PlainValue × PlainValue)
  pub made : with_entries known es ≡ Some whole
  pub up : Ascends (keys whole)
  pub has : (k v : PlainValue) → lookup k whole ≡ Some v → (lookup k known ≡ Some v) ⊎ HasEntry k v es
  pub keeps : (k v : PlainValue) → lookup k known ≡ Some v → lookup k whole ≡ Some v
  pub holds : (k v : PlainValue) → HasEntry k v es → lookup k whole ≡ Some v

one_more : (known es : List (PlainValue × PlainValue)) (e : PlainValue × PlainValue) → lookup e.0 known ≡ None → Joined (put_entry e.0 e.1 known) es → Joined known (e ∷ es)
one_more known es e new j = record {
  whole = j.whole;
  made = ap (λ (o : Option (List (PlainValue × PlainValue))). o >>= λ l. with_entries l es) (with_new known e new) ∙ j.made;
  up = j.up;
  has = λ k v p. elim (j.has k v p) [
    | inl q ↦ elim (put_has k v e known q) [ inl r ↦ inr (inl r) | inr r ↦ inl r ]
    | inr q ↦ inr (inr q)
  ];
  keeps = λ k v p. j.keeps k v (put_keeps k v e known new p);
  holds = λ k v h. elim h [ inl p ↦ j.keeps k v (put_at k v e known p) | inr q ↦ j.holds k v q ];
}

pub joined : (known es : List (PlainValue × PlainValue)) → AreNew known es → Ascends (keys known) → Joined known es
joined known [] n up = record { whole = known; made = refl; up = up; has = λ k v p. inl p; keeps = λ k v p. p; holds = λ k v h. absurd h }
joined known (e ∷ es) n up =
    one_more known es e n.0 (joined (put_entry e.0 e.1 known) es n.1 (subst Ascends (sym (keys-put_entry e.0 e.1 known)) (Ascends-put e.0 (keys known) up)))

was_new : (b : Bool) (x z : List (PlainValue × PlainValue)) → (if b then None else Some x) ≡ Some z → (b ≡ false) × (x ≡ z)
was_new true x z p = cc
was_new false x z p = (refl, same_some x z p)

-- entries that were taken have new keys
pub are_new : (known es m : List (PlainValue × PlainValue)) → with_entries known es ≡ Some m → AreNew known es
are_new known [] m p = tt
are_new known (e ∷ es) m p =
    let b = bind_some (with_entry known e) (λ (l : List (PlainValue × PlainValue)). with_entries l es) m p in
    let c = was_new (is_member e.0 (keys known)) (put_entry e.0 e.1 known) b.0 b.1 in (
      no_value (lookup e.0 known) (sym (is_member-keys e.0 known) ∙ c.0),
      subst (λ (l : List (PlainValue × PlainValue)). AreNew l es) (sym c.1) (are_new b.0 es m b.2),
    )
