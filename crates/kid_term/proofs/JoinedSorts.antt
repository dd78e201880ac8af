-- Values of two sorts, and of many, are of the sort above them.
use Rattle.std.proofs.Common.{◌≡◌, List, [], ◌∷◌, Option, Some, None, refl, subst, arith, length}
use Rattle.kid_value.specs.PlainValue.{PlainValue}
use Rattle.kid_value.specs.PlainSort.{PlainSort}
use Rattle.kid_value.specs.SortOrder.{join}
use Rattle.kid_value.specs.Join.{IsJoin}
use Rattle.kid_value.proofs.JoinLemmas.{join-is}
use Rattle.kid_term.specs.Sorted.{allowed, join_over, join_all}
use Rattle.kid_term.specs.Fitting.{IsOfSort, AreOfSorts}
use Rattle.kid_term.proofs.Inversions.{ok, allowed_ok}
use Rattle.kid_term.proofs.LogicSound.{Sound, IsOfSort-subsort}
use Rattle.kid_term.proofs.Members.{Each}

-- a value of a sort that is allowed
pub allowed_sound : (a s : PlainSort) (v : PlainValue) → IsOfSort a v → allowed a ≡ ok s → Sound s v
allowed_sound a s v h e = let r = allowed_ok a s e in record { of_sort = subst (λ z. IsOfSort z v) r.0 h; sort_allowed = r.1 }

pub joined : (a b s : PlainSort) → join a b ≡ Some s → IsJoin a b (Some s)
joined a b s e = subst (IsJoin a b) e (join-is a b)

pub IsOfSort-left : (a b s : PlainSort) (v : PlainValue) → join a b ≡ Some s → IsOfSort a v → IsOfSort s v
IsOfSort-left a b s v e h = IsOfSort-subsort a s v (joined a b s e).0 h

pub IsOfSort-right : (a b s : PlainSort) (v : PlainValue) → join a b ≡ Some s → IsOfSort b v → IsOfSort s v
IsOfSort-right a b s v e h = IsOfSort-subsort b s v (joined a b s e).1 h

pub Each-weaker : (P Q : PlainValue → Type 0) → ((v : PlainValue) → P v → Q v) → (vs : List PlainValue) → Each P vs → Each Q vs
Each-weaker P Q k [] h = tt
Each-weaker P Q k (v ∷ vs) h = (k v h.0, Each-weaker P Q k vs h.1)

join_over_ok : (a : PlainSort) (o : Option PlainSort) (s : PlainSort) → join_over a o ≡ Some s → (b : PlainSort) × (o ≡ Some b) × (join a b ≡ Some s)
join_over_ok a None s p = cc
join_over_ok a (Some b) s p = (b, refl, p)

-- each is of the sort above all
pub Each-join_all : (ss : List PlainSort) (vs : List PlainValue) (s : PlainSort) → join_all ss ≡ Some s → AreOfSorts ss vs → Each (IsOfSort s) vs
Each-join_all [] [] s p h = tt
Each-join_all [] (v ∷ vs) s p h = absurd h
Each-join_all (a ∷ ss) [] s p h = absurd h
Each-join_all (a ∷ ss) (v ∷ vs) s p h =
    let r = join_over_ok a (join_all ss) s p in
    (IsOfSort-left a r.0 s v r.2 h.0, Each-weaker (IsOfSort r.0) (IsOfSort s) (λ w k. IsOfSort-right a r.0 s w r.2 k) vs (Each-join_all ss vs r.0 r.1 h.1))

pub AreOfSorts-length : (ss : List PlainSort) (vs : List PlainValue) → AreOfSorts ss vs → length vs ≡ length ss
AreOfSorts-length [] [] h = refl
AreOfSorts-length [] (v ∷ vs) h = absurd h
AreOfSorts-length (a ∷ ss) [] h = absurd h
AreOfSorts-length (a ∷ ss) (v ∷ vs) h = let e : length vs ≡ length ss = AreOfSorts-length ss vs h.1 in omega arith
