-- A member that is put stands where the search ends.
use Rattle.std.proofs.Common.{◌≡◌, ℕ, ◌<◌, ◌≤◌, suc, zero, List, [], ◌∷◌, ◌++◌, length, get_or, take, drop, map, refl, sym, ap, ◌∙◌, arith, Bool, true, false, cond, subst}
use Rattle.std.specs.declared.cmp.Ordering.TheVariants.{Equal}
use Rattle.std.specs.Prelude.{insert}
use Rattle.std.proofs.lemmas.List.{take-map, drop-map, take-append-drop, map-append, length-map}
use Rattle.kid_value.specs.Canonical.{IsCanonical}
use Rattle.kid_value.specs.PlainValue.{PlainValue, set, row}
use Rattle.kid_value.specs.ValueOrder.{value_cmp}
use Rattle.kid_value.specs.ValueSet.{put, put_by, IsThere, StandsAt, AllAfter, Ascends}
use Rattle.kid_value.specs.ValueView.{plain}
use Rattle.kid_value.specs.declared.value.Value.{Value}
use Rattle.kid_value.proofs.CanonicalLemmas.{IsCanonical-put}
use Rattle.kid_value.proofs.PlaceLemmas.{AllBefore, greater-before, greater-first}

placed : (v : PlainValue) (xs ys : List PlainValue) → AllBefore v xs → AllAfter v ys → put v (xs ++ ys) ≡ xs ++ v ∷ ys
placed v [] [] b a = refl
placed v [] (y ∷ ys) b a = ap (λ o. put_by o v y ys (put v ys)) a.0
placed v (x ∷ xs) ys b a = ap (λ o. put_by o v x (xs ++ ys) (put v (xs ++ ys))) (greater-before x v b.0) ∙ ap (λ z. x ∷ z) (placed v xs ys b.1 a)

-- a value that is after all up to a place and before all from it on stands there
pub StandsAt-between : (v : PlainValue) (vs : List Value) (i : ℕ) → i ≤ length vs → AllBefore v (map plain (take i vs)) → AllAfter v (map plain (drop i vs)) → StandsAt v (map plain vs) i
StandsAt-between v vs i l b a =
    let h : length (map plain vs) ≡ length vs = simp length-map in
    let whole : map plain vs ≡ map plain (take i vs) ++ map plain (drop i vs) = sym (ap (map plain) (take-append-drop i vs)) ∙ map-append plain (take i vs) (drop i vs) in (
      omega arith,
      ap (put v) whole ∙ placed v (map plain (take i vs)) (map plain (drop i vs)) b a ∙ sym (λ j. take-map plain i vs j ++ v ∷ drop-map plain i vs j),
    )

-- a value that is equal to one of them is there
pub IsThere-equal : (v : PlainValue) (vs : List Value) (i : ℕ) (x : Value) → Ascends (map plain vs) → i < length vs → x ≡ get_or vs i x → value_cmp v (plain x) ≡ Equal → IsThere v (map plain vs)
IsThere-equal v [] i x a l e p = absurd (omega arith)
IsThere-equal v (y ∷ ys) zero x a l e p = ap (λ o. put_by o v (plain y) (map plain ys) (put v (map plain ys))) (ap (λ z. value_cmp v (plain z)) (sym e) ∙ p)
IsThere-equal v (y ∷ ys) (suc i) x a l e p =
    ap (λ o. put_by o v (plain y) (map plain ys) (put v (map plain ys))) (greater-first plain v y ys i x a.0 (omega arith) e p)
    ∙ ap (λ z. plain y ∷ z) (IsThere-equal v ys i x a.1 (omega arith) e p)

-- an insertion among the values is one among the plain trees
pub map-insert : (vs : List Value) (i : ℕ) (v : Value) → map plain (insert vs i v) ≡ insert (map plain vs) i (plain v)
map-insert vs i v = map-append plain (take i vs) (v ∷ drop i vs) ∙ sym (λ j. take-map plain i vs j ++ plain v ∷ drop-map plain i vs j)

-- a set stays canonical where its value is put, or nothing
pub IsCanonical-inserted : (b : Bool) (vs ws : List Value) (at : ℕ) (v : Value) → ws ≡ cond b (insert vs at v) vs → put (plain v) (map plain vs) ≡ insert (map plain vs) at (plain v)
    → IsCanonical (plain v) → IsCanonical (set (row (map plain vs))) → IsCanonical (set (row (map plain ws)))
IsCanonical-inserted true vs ws at v e p c d = subst (λ z. IsCanonical (set (row z))) (sym (ap (map plain) e ∙ map-insert vs at v ∙ sym p)) (IsCanonical-put (plain v) (map plain vs) c d)
IsCanonical-inserted false vs ws at v e p c d = subst (λ z. IsCanonical (set (row z))) (sym (ap (map plain) e)) d
