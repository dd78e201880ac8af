-- What the search for a member or a key tells: whether it is there, and which value it has.
use Rattle.std.proofs.Common.{◌≡◌, ℕ, ◌+◌, ◌<◌, suc, zero, Bool, true, false, List, [], ◌∷◌, ◌++◌, Ordering, Some, None, Result, Ok, Err, is_ok, length, get_or, map, refl, sym, ap, ◌∙◌, arith, subst, cond}
use Rattle.std.specs.declared.cmp.Ordering.TheVariants.{Less, Equal, Greater}
use Rattle.std.specs.Ordering.{is_eq}
use Rattle.std.specs.Prelude.{◌||◌, set, MatchResult}
use Rattle.std.proofs.lemmas.List.{length-map, get_or-map}
use Rattle.std.proofs.lemmas.List.Edits.{length-insert}
use Rattle.kid_value.specs.Canonical.{IsCanonical, EntriesAreCanonical}
use Rattle.kid_value.specs.PlainValue.{PlainValue, bool, map_of, table}
use Rattle.kid_value.specs.ValueMap.{keys, lookup, put_entry, put_entry_by, HoldsKey, KeyStandsAt}
use Rattle.kid_value.specs.ValueOrder.{value_cmp}
use Rattle.kid_value.specs.ValueSet.{AllAfter, Ascends, put, put_by, is_member, IsThere, StandsAt}
use Rattle.kid_value.specs.ValueView.{plain, plain_entry}
use Rattle.kid_value.specs.declared.value.Value.{Value}
use Rattle.kid_value.proofs.RowLemmas.{entries_table}
use Rattle.kid_value.proofs.ValueSetLaws.{is_member-put, is_member-after, value_eq-itself, AllAfter-before}

pub there-member : (v : PlainValue) (vs : List PlainValue) → IsThere v vs → is_member v vs ≡ true
there-member v vs p = sym (ap (is_member v) p) ∙ is_member-put v v vs ∙ ap (λ b. b || is_member v vs) (value_eq-itself v)

-- a value that makes a set longer is not in it
longer : (v : PlainValue) (vs : List PlainValue) → Ascends vs → length (put v vs) ≡ length vs + 1 → is_member v vs ≡ false
longer v [] a p = refl
longer v (x ∷ vs) a p = by_cases (value_cmp v x) refl p (longer v vs a.1)
  where
    by_cases : (o : Ordering) → value_cmp v x ≡ o → length (put_by o v x vs (put v vs)) ≡ length (x ∷ vs) + 1 → (length (put v vs) ≡ length vs + 1 → is_member v vs ≡ false) → is_member v (x ∷ vs) ≡ false
    by_cases Less e q h = is_member-after v (x ∷ vs) (e, AllAfter-before v x vs e a.0)
    by_cases Equal e q h = absurd (omega arith)
    by_cases Greater e q h = ap (λ o. is_eq o || is_member v vs) e ∙ h (omega arith)

pub absent-member : (v : PlainValue) (vs : List PlainValue) (at : ℕ) → Ascends vs → StandsAt v vs at → is_member v vs ≡ false
absent-member v vs at a p = longer v vs a (ap length p.1 ∙ length-insert vs at v p.0)

-- whether the search finds a value is whether it is there
pub is_ok-member : (v : PlainValue) (vs : List PlainValue) (r : Result ℕ ℕ) → Ascends vs → MatchResult r (λ _. IsThere v vs) (λ at. StandsAt v vs at) → is_ok r ≡ is_member v vs
is_ok-member v vs (Ok at) a p = sym (there-member v vs p)
is_ok-member v vs (Err at) a p = sym (absent-member v vs at a p)

-- a key that makes a map longer has no value in it
longer_map : (k v : PlainValue) (es : List (PlainValue × PlainValue)) → Ascends (keys es) → length (put_entry k v es) ≡ length es + 1 → lookup k es ≡ None
longer_map k v [] a p = refl
longer_map k v (e ∷ es) a p = by_cases (value_cmp k e.0) refl p (longer_map k v es a.1)
  where
    after : (ds : List (PlainValue × PlainValue)) → AllAfter k (keys ds) → lookup k ds ≡ None
    after [] h = refl
    after (d ∷ ds) h = ap (λ o. cond (is_eq o) (Some d.1) (lookup k ds)) h.0 ∙ after ds h.1

    by_cases : (o : Ordering) → value_cmp k e.0 ≡ o → length (put_entry_by o k v e es (put_entry k v es)) ≡ length (e ∷ es) + 1 → (length (put_entry k v es) ≡ length es + 1 → lookup k es ≡ None) → lookup k (e ∷ es) ≡ None
    by_cases Less q r h = after (e ∷ es) (q, AllAfter-before k e.0 (keys es) q a.0)
    by_cases Equal q r h = absurd (omega arith)
    by_cases Greater q r h = ap (λ o. cond (is_eq o) (Some e.1) (lookup k es)) q ∙ h (omega arith)

pub absent-key : (k : PlainValue) (es : List (PlainValue × PlainValue)) (at : ℕ) → Ascends (keys es) → KeyStandsAt k es at → lookup k es ≡ None
absent-key k es at a p = longer_map k (bool true) es a (ap length (p.1 (bool true)) ∙ length-insert es at (k, bool true) p.0)

abbrev first_of : PlainValue × PlainValue → List (PlainValue × PlainValue) → PlainValue × PlainValue
first_of d [] = d
first_of d (e ∷ es) = e

abbrev truth : PlainValue → Bool
truth (bool b) = b
truth v = false

abbrev rest_of : List (PlainValue × PlainValue) → List (PlainValue × PlainValue)
rest_of [] = []
rest_of (e ∷ es) = es

-- an entry does not have two values
one_value : (k : PlainValue) (e : PlainValue × PlainValue) → ((v : PlainValue) → e ≡ (k, v)) → ⊥
one_value k e h = let p : true ≡ false = sym (ap (λ z. truth z.1) (h (bool true))) ∙ ap (λ z. truth z.1) (h (bool false)) in cc

held : (k : PlainValue) (es : List (PlainValue × PlainValue)) (at : ℕ) (d : PlainValue × PlainValue) → at < length es → ((v : PlainValue) → put_entry k v es ≡ set es at (k, v)) → lookup k es ≡ Some (get_or es at d).1
held k [] at d l h = absurd (omega arith)
held k (e ∷ es) zero d l h = by_cases (value_cmp k e.0) refl h
  where
    by_cases : (o : Ordering) → value_cmp k e.0 ≡ o → ((v : PlainValue) → put_entry_by o k v e es (put_entry k v es) ≡ (k, v) ∷ es) → cond (is_eq (value_cmp k e.0)) (Some e.1) (lookup k es) ≡ Some e.1
    by_cases Less q h = absurd (let r : suc (suc (length es)) ≡ suc (length es) = ap length (h (bool true)) in omega arith)
    by_cases Equal q h = ap (λ o. cond (is_eq o) (Some e.1) (lookup k es)) q
    by_cases Greater q h = absurd (one_value k e (λ v. ap (first_of e) (h v)))
held k (e ∷ es) (suc at) d l h = by_cases (value_cmp k e.0) refl h (held k es at d (omega arith))
  where
    by_cases : (o : Ordering) → value_cmp k e.0 ≡ o → ((v : PlainValue) → put_entry_by o k v e es (put_entry k v es) ≡ e ∷ set es at (k, v)) → (((v : PlainValue) → put_entry k v es ≡ set es at (k, v)) → lookup k es ≡ Some (get_or es at d).1) → cond (is_eq (value_cmp k e.0)) (Some e.1) (lookup k es) ≡ Some (get_or es at d).1
    by_cases Less q h n = absurd (one_value k e (λ v. sym (ap (first_of e) (h v))))
    by_cases Equal q h n = absurd (one_value k e (λ v. sym (ap (first_of e) (h v))))
    by_cases Greater q h n = ap (λ o. cond (is_eq o) (Some e.1) (lookup k es)) q ∙ n (λ v. ap rest_of (h v))

pub held-key : (k : PlainValue) (es : List (Value × Value)) (at : ℕ) (e : Value × Value) → HoldsKey k (map plain_entry es) at → e ≡ get_or es at e → lookup k (map plain_entry es) ≡ Some (plain e.1)
held-key k es at e p q =
    let n : length (map plain_entry es) ≡ length es = simp length-map in
    let h : get_or (map plain_entry es) at (plain_entry e) ≡ plain_entry (get_or es at e) = get_or-map plain_entry es at e (plain_entry e) (omega arith) in
    let f : get_or (map plain_entry es) at (plain_entry e) ≡ plain_entry e = h ∙ ap plain_entry (sym q) in
    held k (map plain_entry es) at (plain_entry e) p.0 p.1 ∙ ap (λ (z : PlainValue × PlainValue). Some z.1) f

-- a map stays canonical where an entry is added whose key is after the others
pub IsCanonical-pushed : (k v : PlainValue) (es : List (PlainValue × PlainValue)) → IsCanonical k → IsCanonical v → Ascends (keys es ++ k ∷ []) → IsCanonical (map_of (table es)) → IsCanonical (map_of (table (es ++ (k, v) ∷ [])))
IsCanonical-pushed k v es c d a h = (
  subst Ascends (sym (ap keys (entries_table (es ++ (k, v) ∷ [])) ∙ keys-pushed es)) a,
  pushed es h.1,
)
  where
    keys-pushed : (ds : List (PlainValue × PlainValue)) → keys (ds ++ (k, v) ∷ []) ≡ keys ds ++ k ∷ []
    keys-pushed [] = refl
    keys-pushed (e ∷ ds) = ap (λ z. e.0 ∷ z) (keys-pushed ds)

    pushed : (ds : List (PlainValue × PlainValue)) → EntriesAreCanonical (table ds) → EntriesAreCanonical (table (ds ++ (k, v) ∷ []))
    pushed [] h = (c, d, tt)
    pushed (e ∷ ds) h = (h.0, h.1, pushed ds h.2)
